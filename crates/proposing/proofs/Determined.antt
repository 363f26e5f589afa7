-- A public contract leaves nothing open: two replies to the same call that meet it are the same. Assumes nothing.
use mathlib.Core.Path.{◌≡◌}
use Prim.Native.Nat.{ℕ}
use contract.Lifetimes.{Lfts}
use Rattle.sets.proofs.Laws.Alike.{alike}
use Rattle.proposing.proofs.size_in.Reads as size_in
use Rattle.proposing.proofs.marks_in.Reads as marks_in

pub size_in_determined : (κs : Lfts 1) (a : _) (t u : _) (x y : _) → size_in.Post κs a t x → size_in.Post κs a u y → t ≡ u
size_in_determined κs a t u x y e f = alike e f

pub marks_in_determined : (κs : Lfts 1) (a : _) (t u : ℕ) (x y : _) → marks_in.Post κs a t x → marks_in.Post κs a u y → t ≡ u
marks_in_determined κs a t u x y e f = alike e f
