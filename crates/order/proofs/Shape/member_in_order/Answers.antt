-- `Shape::member_in_order` meets its contract. Assumes nothing.
use Rattle.order.specs.Order.{member_in_order}
use Rattle.order.proofs.Shape.member_in_order.Goals as goal

pub returns : goal.returns
unfolding member_in_order
returns c = rw (c.rank_in_order.ensures, c.is_within.ensures)
