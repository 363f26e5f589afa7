-- `tree::in_star` meets its contract: a head has another above it than the ranks at other places. Assumes nothing.
use Rattle.tree.proofs.Laws.Forms.{star_head, star_other}
use Rattle.tree.proofs.in_star.Goals as goal

pub returns-then-place-eq0 : goal.returns-then-place-eq0
returns-then-place-eq0 c = search star_head

pub returns : goal.returns
returns c = search star_other
