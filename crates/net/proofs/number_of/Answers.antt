-- `number_of` meets its contract: a number has the message that it was made of. Assumes nothing.
use borrow.Author.Rules.{rules}
use Rattle.net.proofs.Laws.Numbers.{number_is, number_small}
use Rattle.net.proofs.number_of.Goals as goal

pub returns-clause-message : goal.returns-clause-message
returns-clause-message c = search (number_is, rules)

pub returns-clause-upper_bound : goal.returns-clause-upper_bound
returns-clause-upper_bound c = search (number_small, rules)
