-- `put_opening` meets its contract: one piece after the other, 22 bytes at most. Assumes nothing.
use native.Mathlib.Omega.{arith}
use Rattle.text.proofs.Laws.Writing.{puts_then, room_after}
use Rattle.text.proofs.Laws.Digits.{length-decimal}
use Rattle.dot.specs.Dot.{opening_line}
use Rattle.dot.proofs.put_opening.Goals as goal

pub put_number-requires : goal.put_number-requires
put_number-requires c = omega (arith, room_after 9 13 c.put_letters.ensures (omega arith) c.requires)

pub put_letters-requires-2 : goal.put_letters-requires-2
put_letters-requires-2 c = room_after 10 3 c.put_number.ensures (length-decimal _) (room_after 9 13 c.put_letters.ensures (omega arith) c.requires)

pub returns : goal.returns
unfolding opening_line
returns c = puts_then c.put_letters.ensures (puts_then c.put_number.ensures c.put_letters-2.ensures)
