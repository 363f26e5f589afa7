-- A public contract leaves nothing open: two replies to the same call that meet it are the same, and so are the lent buffers at exit.
-- Assumes nothing.
use mathlib.Core.Path.{◌≡◌}
use Prim.Native.Nat.{ℕ}
use contract.Lifetimes.{Lfts}
use Rattle.sets.proofs.Laws.Alike.{alike}
use Rattle.text.proofs.Laws.Writing.{wrote_alike}
use Rattle.drawing.proofs.report.Reads as report

-- The length, the buffer, and the slice of answers.
pub report_determined : (κs : Lfts 3) (a : _) (t u : ℕ) (x y : _) → report.Post κs a t x → report.Post κs a u y
    → ((t ≡ u) × (x.1.1.0.now ≡ y.1.1.0.now)) × (x.1.0.now ≡ y.1.0.now)
report_determined κs a t u x y e f = (wrote_alike e.0 f.0, alike e.1 f.1)
