-- `put_rank` meets its contract: one test. Assumes nothing.
use Rattle.drawing.proofs.Laws.Drawing.{rank_dead, rank-living}
use Rattle.drawing.proofs.put_rank.Goals as goal

pub returns-then-member : goal.returns-then-member
returns-then-member c = search rank_dead

pub returns : goal.returns
returns c = search rank-living
