-- `sets::minus` meets its contract: at 64 digits the complement is all digits but b's. Assumes nothing.
use Rattle.sets.proofs.Laws.Members.{and-not}
use Rattle.sets.proofs.minus.Goals as goal

pub returns : goal.returns
returns c = and-not 64 c.args.a c.args.b c.ranges.a.fits c.ranges.b.fits
