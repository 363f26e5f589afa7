-- `Shape::place_in_order` meets its contract. Assumes nothing.
use Rattle.order.proofs.Laws.Ordering.{net-message, net-zero}
use Rattle.order.proofs.Shape.place_in_order.Goals as goal

pub returns-then-i-self : goal.returns-then-i-self
returns-then-i-self c = search net-message

pub returns : goal.returns
returns c = search net-zero
