-- `sets::union` meets its contract: the processor's or is the definition. Assumes nothing.
use mathlib.Core.Path.{refl}
use Rattle.sets.specs.Sets.{union}
use Rattle.sets.proofs.union.Goals as goal

pub returns : goal.returns
unfolding union
returns c = refl
