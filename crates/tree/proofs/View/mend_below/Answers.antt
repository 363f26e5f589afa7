-- `tree::View::mend_below` meets its contract. The invariant: all below k are marked, the table is fresh, and union and sum are theirs.
-- Assumes nothing.
use borrow.Author.Rules.{rules}
use Rattle.tree.proofs.Laws.Mending.{below-start, below_step, below-known, below_end, below_few}
use Rattle.tree.proofs.View.mend_below.Goals as goal

pub loop-k-init : goal.loop-k-init
loop-k-init c = search (below-start, rules)

pub loop-k-preserved-then-member : goal.loop-k-preserved-then-member
loop-k-preserved-then-member c = search below-known

pub and_then-moved-requires : goal.and_then-moved-requires
and_then-moved-requires c = search (below_few, rules)

pub loop-k-preserved : goal.loop-k-preserved
loop-k-preserved c = search below_step

pub returns : goal.returns
returns c = search below_end
