-- A public contract leaves nothing open: two replies to the same call that meet it are the same, and so is the lent reader at exit.
-- Assumes nothing.
use mathlib.Core.Path.{◌≡◌, refl, sym, ◌∙◌}
use Prim.Native.Nat.{ℕ}
use Rattle.std.proofs.Common.{Fits, w64}
use contract.Lifetimes.{Lfts}
use Rattle.reader.specs.declared.Reader.{Reader}
use Rattle.reader.proofs.Reader.new.Reads as new
use Rattle.reader.proofs.Reader.take.Reads as take

pub new_determined : (n : ℕ) (i : Fits w64 n) (κs : Lfts 1) (a : _) (t u : Reader n) (x y : _) → new.Post n i κs a t x → new.Post n i κs a u y → t ≡ u
new_determined n i κs a t u x y e f = e ∙ sym f

pub take_determined : (n : ℕ) (i : Fits w64 n) (κs : Lfts 2) (a : _) (t u : _) (x y : _) → take.Post n i κs a t x → take.Post n i κs a u y → (t ≡ u) × (x.0.now ≡ y.0.now)
take_determined n i κs a t u x y e f = (refl, e ∙ sym f)
