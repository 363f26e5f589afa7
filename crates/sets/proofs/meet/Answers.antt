-- `sets::meet` meets its contract: the processor's and is the definition. Assumes nothing.
use mathlib.Core.Path.{refl}
use Rattle.sets.specs.Sets.{meet}
use Rattle.sets.proofs.meet.Goals as goal

pub returns : goal.returns
unfolding meet
returns c = refl
