-- `Shape::rank_in_order` meets its contract: a wrong table, or every other clause by its test. Assumes nothing.
use Rattle.order.proofs.Laws.Ranks.{unfresh, checked_row, tested}
use Rattle.order.proofs.Shape.rank_in_order.Goals as goal

pub returns-then-ne : goal.returns-then-ne
returns-then-ne c = search unfresh

pub invariant_of-view-clause-fresh : goal.invariant_of-view-clause-fresh
invariant_of-view-clause-fresh c = search checked_row

pub returns : goal.returns
returns c = tested _ _ _ _ _ _ _ _ _ _ _ _ _ c.args.self.small c.requires c.fresh.ensures c.ne.ensures c.if-ne.false c.children_of.ensures c.minus-awaited.ensures c.sets_proper.ensures c.is_within.ensures c.triples_within.ensures c.is_zero.ensures
