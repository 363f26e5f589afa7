-- `duha_in_handfuls` meets its contract: refused as a batch is, or the events from the started state on. Assumes nothing.
use mathlib.Core.Path.{◌∙◌}
use Rattle.timing.proofs.Laws.Stepping.{events_room, told_refused, told_taken}
use Rattle.timing.proofs.duha_in_handfuls.Goals as goal

pub batch_all-requires : goal.batch_all-requires
batch_all-requires c = events_room _ _ c.in-Ok.ensures.value

pub returns-in-Ok-clause-value : goal.returns-in-Ok-clause-value
returns-in-Ok-clause-value c = (told_taken _ _ _ _ _ c.in-Ok.ensures.value c.in-Ok.ensures.state c.batch_all.ensures).0

pub returns-in-Ok-clause-out_after : goal.returns-in-Ok-clause-out_after
returns-in-Ok-clause-out_after c = (told_taken _ _ _ _ _ c.in-Ok.ensures.value c.in-Ok.ensures.state c.batch_all.ensures).1

pub returns-in-Err-clause-value : goal.returns-in-Err-clause-value
returns-in-Err-clause-value c = c.number.ensures ∙ (told_refused _ _ _ _ c.in-Err.ensures.value).0

pub returns-in-Err-clause-out_after : goal.returns-in-Err-clause-out_after
returns-in-Err-clause-out_after c = (told_refused _ _ _ _ c.in-Err.ensures.value).1
