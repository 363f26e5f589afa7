-- `draft` meets its contract. Assumes nothing.
use mathlib.Core.Path.{refl}
use Rattle.plans.specs.Plans.{accepting}
use Rattle.plans.proofs.draft.Goals as goal

pub returns : goal.returns
unfolding accepting
returns c = rw (c.names_place.ensures, c.act.ensures) refl
