-- `calls::mark_view` meets its contract: at each return the tests on the way pick the definition's case. Assumes nothing.
use mathlib.Core.Path.{sym, ◌∙◌}
use Rattle.tree.proofs.Laws.Rows.{same-eq}
use Rattle.calls.proofs.Laws.Shapes.{view-le, view_boxed}
use Rattle.calls.proofs.Laws.Calls.{mark-outside, mark_stale, mark_wrong_rank, mark-accepted}
use Rattle.calls.proofs.mark_view.Goals as goal

pub below-requires : goal.below-requires
below-requires c = search view-le

pub returns-then-minus-ne0 : goal.returns-then-minus-ne0
returns-then-minus-ne0 c = search mark-outside

pub fresh-requires-clause-span_nonzero : goal.fresh-requires-clause-span_nonzero
fresh-requires-clause-span_nonzero c = search view_boxed

pub fresh-requires-clause-n_bound : goal.fresh-requires-clause-n_bound
fresh-requires-clause-n_bound c = search view-le

pub returns-then-not-same : goal.returns-then-not-same
returns-then-not-same c = search mark_stale

pub returns-then-n-q : goal.returns-then-n-q
returns-then-n-q c = search mark_wrong_rank

pub invariant_of-view-clause-size : goal.invariant_of-view-clause-size
invariant_of-view-clause-size c = search view-le

pub invariant_of-view-clause-fresh : goal.invariant_of-view-clause-fresh
invariant_of-view-clause-fresh c = same-eq _ _ (sym c.same.ensures ∙ c.if-not-same.false) ∙ c.fresh.ensures

pub returns : goal.returns
returns c = search mark-accepted
