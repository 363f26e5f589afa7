-- `number_in` meets its contract: the number of two bytes. Assumes nothing.
use Rattle.proposing.specs.Proposing.{number_in}
use Rattle.proposing.proofs.number_in.Goals as goal

pub returns : goal.returns
unfolding number_in
returns c = cc
