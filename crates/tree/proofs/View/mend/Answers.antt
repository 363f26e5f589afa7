-- `tree::View::mend` meets its contract: the table is relinked, and who moved is read off the entries that were q. Assumes nothing.
use Rattle.tree.proofs.Laws.Mending.{mended-again, mended-alone, mended_whole}
use Rattle.tree.proofs.View.mend.Goals as goal

pub returns-then-member : goal.returns-then-member
returns-then-member c = search mended-again

pub returns-then-changed-eq0 : goal.returns-then-changed-eq0
returns-then-changed-eq0 c = search mended-alone

pub returns : goal.returns
returns c = search mended_whole
