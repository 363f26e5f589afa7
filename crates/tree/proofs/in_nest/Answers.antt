-- `tree::in_nest` meets its contract: a head has another above it than the ranks at other places. Assumes nothing.
use Rattle.tree.proofs.Laws.Forms.{nest_head, nest_other}
use Rattle.tree.proofs.in_nest.Goals as goal

pub returns-then-place-eq0 : goal.returns-then-place-eq0
returns-then-place-eq0 c = search nest_head

pub returns : goal.returns
returns c = search nest_other
