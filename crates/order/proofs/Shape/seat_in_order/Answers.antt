-- `Shape::seat_in_order` meets its contract. Assumes nothing.
use Rattle.order.proofs.Laws.Ordering.{seat_member, seat_stranger}
use Rattle.order.proofs.Shape.seat_in_order.Goals as goal

pub returns-then-i-self : goal.returns-then-i-self
returns-then-i-self c = search seat_member

pub returns : goal.returns
returns c = search seat_stranger
