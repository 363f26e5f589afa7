-- `Moved::and_then` meets its contract: the union and the sum. Assumes nothing.
use Rattle.tree.specs.Calls.{and_then}
use Rattle.tree.proofs.Moved.and_then.Goals as goal

pub returns : goal.returns
unfolding and_then
returns c = rw c.union.ensures
