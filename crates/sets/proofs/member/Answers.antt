-- `sets::member` meets its contract: the digit that a shift brings to the front. Assumes nothing.
use mathlib.Core.Path.{refl}
use Rattle.sets.specs.Sets.{has}
use Rattle.sets.proofs.member.Goals as goal

pub returns : goal.returns
unfolding has
returns c = refl
