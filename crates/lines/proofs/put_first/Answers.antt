-- `put_first` meets its contract: one piece after the other, 37 bytes at most. Assumes nothing.
use native.Mathlib.Omega.{arith}
use Rattle.text.proofs.Laws.Writing.{puts_then, room_after}
use Rattle.lines.specs.Lines.{first_line}
use Rattle.lines.proofs.put_first.Goals as goal

pub put_three-requires : goal.put_three-requires
put_three-requires c = room_after 3 34 c.put_letters.ensures (omega arith) c.requires

pub returns : goal.returns
unfolding first_line
returns c = puts_then c.put_letters.ensures c.put_three.ensures
