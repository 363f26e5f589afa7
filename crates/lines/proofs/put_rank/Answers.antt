-- `put_rank` meets its contract: one piece after the other, 57 bytes at most. Assumes nothing.
use native.Mathlib.Omega.{arith}
use Rattle.text.proofs.Laws.Writing.{puts_then, room_after}
use Rattle.text.proofs.Laws.Digits.{length-field}
use Rattle.lines.specs.Lines.{rank_line}
use Rattle.lines.proofs.put_rank.Goals as goal

pub put_field-requires : goal.put_field-requires
put_field-requires c = omega (arith, room_after 1 56 c.put_byte.ensures (omega arith) c.requires.page_in_bounds)

pub put_field-requires-2 : goal.put_field-requires-2
put_field-requires-2 c = omega (arith, room_after 11 45 c.put_field.ensures (length-field _) (room_after 1 56 c.put_byte.ensures (omega arith) c.requires.page_in_bounds))

pub put_phase-requires : goal.put_phase-requires
put_phase-requires c =
    room_after 11 34 c.put_field-2.ensures (length-field _)
    (room_after 11 45 c.put_field.ensures (length-field _) (room_after 1 56 c.put_byte.ensures (omega arith) c.requires.page_in_bounds))

pub returns : goal.returns
unfolding rank_line
returns c = puts_then c.put_byte.ensures (puts_then c.put_field.ensures (puts_then (rw c.living.ensures at c.put_field-2.ensures) c.put_phase.ensures))
