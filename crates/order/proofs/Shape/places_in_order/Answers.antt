-- `Shape::places_in_order` meets its contract. The invariant: every place before i passes. Assumes nothing.
use Rattle.order.proofs.Laws.Ordering.{every_stops, every-ends}
use Rattle.order.proofs.Shape.places_in_order.Goals as goal

pub returns-then-not-place_in_order-clause-every_place : goal.returns-then-not-place_in_order-clause-every_place
returns-then-not-place_in_order-clause-every_place c = search every_stops

pub returns-clause-every_place : goal.returns-clause-every_place
returns-clause-every_place c = search every-ends
