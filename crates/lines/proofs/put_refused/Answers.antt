-- `put_refused` meets its contract: one piece after the other, 19 bytes at most. Assumes nothing.
use native.Mathlib.Omega.{arith}
use Rattle.text.proofs.Laws.Writing.{puts_then, room_after}
use Rattle.lines.specs.Lines.{refused_line}
use Rattle.lines.proofs.put_refused.Goals as goal

pub put_end-requires : goal.put_end-requires
put_end-requires c = room_after 7 12 c.put_letters.ensures (omega arith) c.requires

pub returns : goal.returns
unfolding refused_line
returns c = puts_then c.put_letters.ensures c.put_end.ensures
