-- `draw` meets its contract: the pictures of its ranks. Assumes nothing.
use native.Mathlib.Omega.{arith}
use lib.ListN.{length}
use borrow.Author.Rules.{rules}
use Rattle.text.proofs.Laws.Writing.{name_kept, page_ends}
use Rattle.drawing.proofs.Laws.Drawing.{room_pictures}
use Rattle.drawing.specs.Drawings.{rank_pictures}
use Rattle.drawing.proofs.draw.Goals as goal

pub put_ranks-requires-clause-page_in_bounds : goal.put_ranks-requires-clause-page_in_bounds
put_ranks-requires-clause-page_in_bounds c = room_pictures 0 (length c.args.text.now) c.args.s.group.n c.requires.n_bound (omega arith)

pub returns : goal.returns
unfolding rank_pictures
returns c = let e = name_kept c.put_ranks.ensures in page_ends c.put_ranks.ensures (search rules)
