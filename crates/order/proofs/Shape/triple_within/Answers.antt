-- `Shape::triple_within` meets its contract. Assumes nothing.
use Rattle.order.specs.Order.{triple_within}
use Rattle.order.proofs.Shape.triple_within.Goals as goal

pub returns : goal.returns
unfolding triple_within
returns c = rw (c.is_within.ensures, c.is_within-2.ensures, c.below-all.ensures)
