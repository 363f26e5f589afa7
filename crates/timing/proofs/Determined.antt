-- A public contract leaves nothing open: two replies to the same call that meet it are the same, and so is the lent slice at exit.
-- Assumes nothing.
use mathlib.Core.Path.{◌≡◌}
use Prim.Native.Nat.{ℕ}
use contract.Lifetimes.{Lfts}
use Rattle.sets.proofs.Laws.Alike.{alike}
use Rattle.timing.proofs.duha_one_by_one.Reads as duha_one_by_one
use Rattle.timing.proofs.duha_in_handfuls.Reads as duha_in_handfuls

-- The answer and the slice.
pub duha_one_by_one_determined : (κs : Lfts 2) (a : _) (t u : ℕ) (x y : _) → duha_one_by_one.Post κs a t x → duha_one_by_one.Post κs a u y → (t ≡ u) × (x.1.1.1.1.0.now ≡ y.1.1.1.1.0.now)
duha_one_by_one_determined κs a t u x y e f = (alike e.0 f.0, alike e.1 f.1)

pub duha_in_handfuls_determined : (κs : Lfts 2) (a : _) (t u : ℕ) (x y : _) → duha_in_handfuls.Post κs a t x → duha_in_handfuls.Post κs a u y → (t ≡ u) × (x.1.1.1.1.1.0.now ≡ y.1.1.1.1.1.0.now)
duha_in_handfuls_determined κs a t u x y e f = (alike e.0 f.0, alike e.1 f.1)
