-- `size_in` meets its contract: one call. Assumes nothing.
use Rattle.proposing.specs.Proposing.{size_in}
use Rattle.proposing.proofs.size_in.Goals as goal

pub returns : goal.returns
unfolding size_in
returns c = c.number_in.ensures
