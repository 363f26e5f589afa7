-- `put_edge` meets its contract: one piece after the other, 26 bytes at most. Assumes nothing.
use native.Mathlib.Omega.{arith}
use Rattle.text.proofs.Laws.Writing.{puts_then, room_after}
use Rattle.text.proofs.Laws.Digits.{length-decimal}
use Rattle.dot.specs.Dot.{edge}
use Rattle.dot.proofs.put_edge.Goals as goal

pub put_letters-requires : goal.put_letters-requires
put_letters-requires c = omega (arith, room_after 10 16 c.put_number.ensures (length-decimal _) c.requires)

pub put_number-requires-2 : goal.put_number-requires-2
put_number-requires-2 c = omega (arith, room_after 4 12 c.put_letters.ensures (omega arith) (room_after 10 16 c.put_number.ensures (length-decimal _) c.requires))

pub put_letters-requires-2 : goal.put_letters-requires-2
put_letters-requires-2 c =
    room_after 10 2 c.put_number-2.ensures (length-decimal _)
    (room_after 4 12 c.put_letters.ensures (omega arith) (room_after 10 16 c.put_number.ensures (length-decimal _) c.requires))

pub returns : goal.returns
unfolding edge
returns c = puts_then c.put_number.ensures (puts_then c.put_letters.ensures (puts_then c.put_number-2.ensures c.put_letters-2.ensures))
