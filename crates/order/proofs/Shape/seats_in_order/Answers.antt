-- `Shape::seats_in_order` meets its contract. The invariant: every seat before i passes. Assumes nothing.
use Rattle.order.proofs.Laws.Ordering.{every_stops, every-ends, every_more}
use Rattle.order.proofs.Shape.seats_in_order.Goals as goal

pub returns-then-not-seat_in_order-clause-every_seat : goal.returns-then-not-seat_in_order-clause-every_seat
returns-then-not-seat_in_order-clause-every_seat c = search every_stops

pub loop-i-preserved : goal.loop-i-preserved
loop-i-preserved c = every_more _ _ _ c.loop-i.invariant c.seat_in_order.ensures c.if-not-seat_in_order.false

pub returns-clause-every_seat : goal.returns-clause-every_seat
returns-clause-every_seat c = search every-ends
