-- `tree::ancestors_by` meets its contract. The invariant: the rank reached is one, where the lowest unmarked rank is below it; and for every `next` that
-- says what `above` answers, the ancestors of p above the rank reached are marked, those found among them, and that rank is an ancestor of p while
-- the lowest unmarked rank is below it. The measure is that rank, as the rank above is smaller. Assumes nothing.
use Rattle.std.proofs.Common.{◌≡◌, ◌<◌, ℕ}
use Rattle.tree.proofs.Kin.{Smaller}
use Rattle.tree.proofs.Laws.Finding.{Passed}
use Rattle.tree.proofs.ancestors_by.Given as goal

abbrev pub invariant-loop-at : goal.invariant-loop-at
invariant-loop-at g l = record {
  within : l.lowest < l.at → l.at < 64;
  passed : (next : ℕ → ℕ) → ((x r : ℕ) → goal.F-post g l.above x r → r ≡ next x) → Smaller next → Passed next l.marks l.p l.lowest l.at l.found;
}

abbrev pub decreases-loop-at : goal.decreases-loop-at
decreases-loop-at g l = l.at
