-- `put` meets its contract: the three numbers have the message that they were made of. Assumes nothing.
use borrow.Author.Rules.{rules}
use Rattle.net.proofs.Laws.Numbers.{messages-three, small-three}
use Rattle.net.proofs.put.Goals as goal

pub returns-clause-messages : goal.returns-clause-messages
returns-clause-messages c = messages-three _ _ _ _ _ (search rules) c.requires _ c.number_of.ensures.message

pub returns-clause-small : goal.returns-clause-small
returns-clause-small c = small-three _ _ _ _ _ c.requires c.number_of.ensures.upper_bound (search rules) (search rules)
