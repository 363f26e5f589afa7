-- `sets::with` meets its contract: a 1 shifted by less than 64 is p's digit alone. Assumes nothing.
use mathlib.Core.Path.{ap}
use lib.Bits.{bit_or}
use Rattle.sets.specs.Sets.{add, union, only}
use Rattle.sets.proofs.Laws.Members.{shifted_one}
use Rattle.sets.proofs.with.Goals as goal

pub returns : goal.returns
unfolding add union only
returns c = ap (bit_or c.args.w) (shifted_one 64 c.args.p c.requires)
