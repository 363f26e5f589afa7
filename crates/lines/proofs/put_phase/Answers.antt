-- `put_phase` meets its contract: one piece after the other, 34 bytes at most. Assumes nothing.
use native.Mathlib.Omega.{arith}
use Rattle.text.proofs.Laws.Writing.{puts_then, room_after}
use Rattle.text.proofs.Laws.Digits.{length-field}
use Rattle.lines.proofs.Laws.Lines.{length-verdict, verdict_of}
use Rattle.lines.proofs.put_phase.Goals as goal

pub put_verdict-requires : goal.put_verdict-requires
put_verdict-requires c = omega (arith, room_after 11 23 c.put_field.ensures (length-field _) c.requires)

pub put_verdict-requires-2 : goal.put_verdict-requires-2
put_verdict-requires-2 c = omega (arith, room_after 11 12 c.put_verdict.ensures (length-verdict _ _) (room_after 11 23 c.put_field.ensures (length-field _) c.requires))

pub put_byte-requires : goal.put_byte-requires
put_byte-requires c =
    room_after 11 1 c.put_verdict-2.ensures (length-verdict _ _)
    (room_after 11 12 c.put_verdict.ensures (length-verdict _ _) (room_after 11 23 c.put_field.ensures (length-field _) c.requires))

pub returns : goal.returns
returns c = puts_then c.put_field.ensures (puts_then c.put_verdict.ensures (puts_then (verdict_of _ c.code.ensures c.put_verdict-2.ensures) c.put_byte.ensures))
