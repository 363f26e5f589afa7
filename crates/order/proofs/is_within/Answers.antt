-- `is_within` meets its contract. Assumes nothing.
use Rattle.order.specs.Order.{is_within}
use Rattle.order.proofs.is_within.Goals as goal

pub returns : goal.returns
unfolding is_within
returns c = rw c.minus.ensures
