-- `tree::View::children_of` meets its contract: the children of p are the unmarked ranks whose entry is p. Assumes nothing.
use Rattle.tree.proofs.Laws.Mending.{children-read}
use Rattle.tree.proofs.View.children_of.Goals as goal

pub returns : goal.returns
returns c = search children-read
