-- `put_byte` meets its contract: one store. Assumes nothing.
use mathlib.Core.Path.{refl}
use Rattle.text.specs.Text.{pasted}
use Rattle.text.proofs.Page.put_byte.Goals as goal

pub returns : goal.returns
unfolding pasted
returns c = record { text_is = refl; at_is = refl }
