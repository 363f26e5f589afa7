-- A public contract leaves nothing open: two replies to the same call that meet it are the same. Assumes nothing.
use mathlib.Core.Path.{◌≡◌}
use Prim.Native.Nat.{ℕ}
use contract.Lifetimes.{Lfts}
use Rattle.sets.proofs.Laws.Alike.{alike}
use Rattle.answers.proofs.Refusal.number.Reads as number
use Rattle.answers.proofs.answer_of.Reads as answer_of

pub number_determined : (κs : Lfts 0) (a : _) (t u : ℕ) (x y : _) → number.Post κs a t x → number.Post κs a u y → t ≡ u
number_determined κs a t u x y e f = alike e f

pub answer_of_determined : (κs : Lfts 0) (a : _) (t u : ℕ) (x y : _) → answer_of.Post κs a t x → answer_of.Post κs a u y → t ≡ u
answer_of_determined κs a t u x y e f = alike e f
