-- `put_field` meets its contract: a space, then the number. Assumes nothing.
use native.Mathlib.Omega.{arith}
use Rattle.text.proofs.Laws.Writing.{puts_then, room_after}
use Rattle.text.specs.Text.{field}
use Rattle.text.proofs.Page.put_field.Goals as goal

pub put_number-requires : goal.put_number-requires
put_number-requires c = room_after 1 10 c.put_byte.ensures (omega arith) c.requires

pub returns : goal.returns
unfolding field
returns c = puts_then c.put_byte.ensures c.put_number.ensures
