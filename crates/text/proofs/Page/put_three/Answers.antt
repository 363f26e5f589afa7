-- `put_three` meets its contract: one piece after the other, 34 bytes at most. Assumes nothing.
use native.Mathlib.Omega.{arith}
use Rattle.text.proofs.Laws.Writing.{puts_then, room_after}
use Rattle.text.proofs.Laws.Digits.{length-field}
use Rattle.text.proofs.Page.put_three.Goals as goal

pub put_field-requires-2 : goal.put_field-requires-2
put_field-requires-2 c = omega (arith, room_after 11 23 c.put_field.ensures (length-field _) c.requires)

pub put_end-requires : goal.put_end-requires
put_end-requires c = omega (arith, room_after 11 12 c.put_field-2.ensures (length-field _) (room_after 11 23 c.put_field.ensures (length-field _) c.requires))

pub returns : goal.returns
returns c = puts_then c.put_field.ensures (puts_then c.put_field-2.ensures c.put_end.ensures)
