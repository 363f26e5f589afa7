-- `Shape::message_in_order` meets its contract: the tests are the clauses. Assumes nothing.
use Rattle.order.proofs.Laws.Ordering.{message_far, message_test}
use Rattle.order.proofs.Shape.message_in_order.Goals as goal

pub returns-then-self-m : goal.returns-then-self-m
returns-then-self-m c = search message_far

pub returns : goal.returns
returns c = message_test _ _ _ _ _ _ _ c.if-self-m.false c.below.ensures c.is_within-low.ensures c.triple_within.ensures c.is_zero.ensures
