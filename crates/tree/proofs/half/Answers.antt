-- `tree::half` meets its contract. Assumes nothing.
use borrow.Author.Rules.{rules}
use Rattle.tree.specs.Tree.{half}
use Rattle.tree.proofs.half.Goals as goal

pub returns : goal.returns
unfolding half
returns c = search rules
