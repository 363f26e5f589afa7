-- `draw` meets its contract: a page from the buffer's start on. Assumes nothing.
use borrow.Author.Rules.{rules}
use Rattle.text.proofs.Laws.Writing.{name_kept, page_ends}
use Rattle.pictures.proofs.draw.Goals as goal

pub returns : goal.returns
returns c = let e = name_kept c.put_picture.ensures in page_ends c.put_picture.ensures (search rules)
