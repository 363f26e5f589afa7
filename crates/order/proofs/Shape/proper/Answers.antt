-- `Shape::proper` meets its contract. Assumes nothing.
use Rattle.order.specs.Order.{proper}
use Rattle.order.proofs.Shape.proper.Goals as goal

pub returns : goal.returns
unfolding proper
returns c = rw (c.is_within.ensures, c.below.ensures, c.member.ensures)
