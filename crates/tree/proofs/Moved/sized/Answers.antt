-- `Moved::sized` meets its contract: the count is the set's size. Assumes nothing.
use Rattle.tree.specs.Tree.{sized}
use Rattle.tree.proofs.Moved.sized.Goals as goal

pub returns : goal.returns
unfolding sized
returns c = rw c.size.ensures
