-- `width` meets its contract: one test. Assumes nothing.
use Rattle.proposing.proofs.Laws.Steps.{width_one, width_two}
use Rattle.proposing.proofs.width.Goals as goal

pub returns-then-p-lt10 : goal.returns-then-p-lt10
returns-then-p-lt10 c = search width_one

pub returns-else-p-lt10 : goal.returns-else-p-lt10
returns-else-p-lt10 c = search width_two
