-- `tree::head_above` meets its contract. Assumes nothing.
use borrow.Author.Rules.{rules}
use Rattle.tree.specs.Forms.{head_above}
use Rattle.tree.proofs.head_above.Goals as goal

pub returns : goal.returns
unfolding head_above
returns c = search rules
