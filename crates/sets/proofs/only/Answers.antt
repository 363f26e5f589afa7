-- `sets::only` meets its contract: a 1 shifted by less than 64 is the power itself. Assumes nothing.
use Rattle.sets.specs.Sets.{only}
use Rattle.sets.proofs.Laws.Members.{shifted_one}
use Rattle.sets.proofs.only.Goals as goal

pub returns : goal.returns
unfolding only
returns c = shifted_one 64 c.args.p c.requires
