-- `put_end` meets its contract: one piece after the other, 12 bytes at most. Assumes nothing.
use Rattle.text.proofs.Laws.Writing.{puts_then, room_after}
use Rattle.text.proofs.Laws.Digits.{length-field}
use Rattle.text.proofs.Page.put_end.Goals as goal

pub put_byte-requires : goal.put_byte-requires
put_byte-requires c = room_after 11 1 c.put_field.ensures (length-field _) c.requires

pub returns : goal.returns
returns c = puts_then c.put_field.ensures c.put_byte.ensures
