-- `tree::parent_of` meets its contract: where an ancestor is unmarked, the largest such member is the parent; else the lowest unmarked
-- rank, where there is one. Assumes nothing.
use mathlib.Core.Path.{sym, ap, ◌∙◌}
use native.Mathlib.Omega.{arith}
use Rattle.std.proofs.Common.{Option, ℕ}
use Rattle.std.specs.Option.{unwrap_or}
use Rattle.tree.proofs.Laws.Finding.{no_parent_found, parent_found}
use Rattle.tree.proofs.parent_of.Goals as goal

pub returns-in_err-lowest : goal.returns-in_err-lowest
returns-in_err-lowest c = c.from_residual.ensures ∙ no_parent_found _ _ _ _ _ (omega arith) c.minus.type_inv c.below.ensures c.minus.ensures (sym c.in_err-lowest.was ∙ c.smallest.ensures)

pub returns : goal.returns
returns c =
    parent_found _ _ _ _ _ _ _ _ _ (omega arith) c.minus.type_inv c.minus-near.type_inv c.below.ensures c.minus.ensures (sym c.in_ok-lowest.was ∙ c.smallest.ensures) c.minus-near.ensures
    (c.unwrap_or.ensures ∙ ap (λ (o : Option ℕ). unwrap_or o c.in_ok-lowest.lowest) c.largest.ensures) c.ancestors.ensures
