-- `all_in_order` meets its contract: the tests are the clauses, and the arrays have their lengths. Assumes nothing.
use Rattle.calls.proofs.Laws.Shapes.{view-le, view_boxed}
use Rattle.order.proofs.Laws.Ordering.{in_order_test}
use Rattle.order.proofs.all_in_order.Goals as goal

pub below-all-requires : goal.below-all-requires
below-all-requires c = search view-le

pub invariant_of-shape-clause-small : goal.invariant_of-shape-clause-small
invariant_of-shape-clause-small c = search view-le

pub invariant_of-shape-clause-boxed : goal.invariant_of-shape-clause-boxed
invariant_of-shape-clause-boxed c = search view_boxed

pub returns-clause-value : goal.returns-clause-value
returns-clause-value c = in_order_test _ _ _ _ _ _ c.requires c.below-all.ensures c.minus.ensures c.is_within.ensures c.seats_in_order-seats.ensures.every_seat c.places_in_order-places.ensures.every_place
