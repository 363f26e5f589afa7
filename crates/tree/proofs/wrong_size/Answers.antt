-- `tree::wrong_size` meets its contract: the two tests are the definition's. Assumes nothing.
use mathlib.Core.Path.{refl}
use Rattle.tree.specs.Calls.{wrong_size}
use Rattle.tree.proofs.wrong_size.Goals as goal

pub returns : goal.returns
unfolding wrong_size
returns c = refl
