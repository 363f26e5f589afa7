-- `put_event` meets its contract: one piece after the other, 44 bytes at most. Assumes nothing.
use Rattle.text.proofs.Laws.Writing.{puts_then, room_after}
use Rattle.text.proofs.Laws.Digits.{length-decimal}
use Rattle.lines.specs.Lines.{event_line}
use Rattle.lines.proofs.put_event.Goals as goal

pub put_three-requires : goal.put_three-requires
put_three-requires c = room_after 10 34 c.put_number.ensures (length-decimal _) c.requires.page_in_bounds

pub returns : goal.returns
unfolding event_line
returns c = puts_then c.put_number.ensures c.put_three.ensures
