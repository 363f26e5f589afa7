-- `pull` meets its contract: the three numbers of the next place. Assumes nothing.
use borrow.Author.Rules.{rules}
use mathlib.Core.Path.{refl}
use Rattle.net.proofs.Laws.Numbers.{pull-three, pull_small}
use Rattle.net.proofs.pull.Goals as goal

pub returns-clause-messages : goal.returns-clause-messages
returns-clause-messages c = pull-three _ _ _ _ c.requires refl refl (search rules)

pub returns-clause-small : goal.returns-clause-small
returns-clause-small c = pull_small _ _ _ _ c.requires refl refl
