-- `event_in` meets its contract: three reads. Assumes nothing.
use borrow.Author.Rules.{rules}
use Rattle.playing.specs.Playing.{event_in}
use Rattle.playing.proofs.event_in.Goals as goal

pub returns : goal.returns
unfolding event_in
returns c = search rules
