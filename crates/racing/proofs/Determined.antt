-- A public contract leaves nothing open: two replies to the same call that meet it are the same, and so is the lent slice at exit.
-- Assumes nothing.
use mathlib.Core.Path.{◌≡◌}
use Prim.Native.Nat.{ℕ}
use contract.Lifetimes.{Lfts}
use Rattle.sets.proofs.Laws.Alike.{alike}
use Rattle.racing.proofs.duha_run.Reads as duha_run

-- The answer and the slice.
pub duha_run_determined : (κs : Lfts 2) (a : _) (t u : ℕ) (x y : _) → duha_run.Post κs a t x → duha_run.Post κs a u y → (t ≡ u) × (x.1.0.now ≡ y.1.0.now)
duha_run_determined κs a t u x y e f = (alike e.0 f.0, alike e.1 f.1)
