-- `tree::hand_over` meets its contract. The invariant, for every f that says what `to` answers: the first p entries are handed over, the others are as
-- they were. Assumes nothing.
use Rattle.std.proofs.Common.{◌≡◌, ℕ, get_or}
use Rattle.tree.proofs.Laws.Rows.{Patched}
use Rattle.tree.proofs.Laws.Mending.{handed_on}
use Rattle.tree.proofs.hand_over.Given as goal

abbrev pub invariant-loop-p : goal.invariant-loop-p
invariant-loop-p g l = (f : ℕ → ℕ) → ((p r : ℕ) → goal.F-post g l.to p r → r ≡ f p) → Patched 0 (handed_on l.initial.table l.q f) (λ k. get_or l.initial.table k 0) 64 l.p l.table
