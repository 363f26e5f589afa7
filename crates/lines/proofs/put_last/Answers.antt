-- `put_last` meets its contract: one piece after the other, 13 bytes at most. Assumes nothing.
use native.Mathlib.Omega.{arith}
use Rattle.text.proofs.Laws.Writing.{puts_then, room_after}
use Rattle.lines.specs.Lines.{last_line}
use Rattle.lines.proofs.put_last.Goals as goal

pub put_end-requires : goal.put_end-requires
put_end-requires c = room_after 1 12 c.put_byte.ensures (omega arith) c.requires

pub returns : goal.returns
unfolding last_line
returns c = puts_then c.put_byte.ensures c.put_end.ensures
