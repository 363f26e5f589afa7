-- `stranger_in_order` meets its contract. Assumes nothing.
use Rattle.tree.proofs.Laws.Rows.{pointwise-same}
use Rattle.order.specs.Order.{stranger_in_order}
use Rattle.order.proofs.stranger_in_order.Goals as goal

pub returns : goal.returns
unfolding stranger_in_order
returns c = rw (c.zero_record.ensures, c.eq.ensures, pointwise-same)
