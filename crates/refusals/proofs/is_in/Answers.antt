-- `is_in` meets its contract: a word has no member from 64 on. Assumes nothing.
use Rattle.refusals.proofs.Laws.Refusing.{nobody}
use Rattle.refusals.proofs.is_in.Goals as goal

pub returns : goal.returns
returns c = nobody c.args.w c.args.a c.ranges.w.fits c.if-a-lt64.false
