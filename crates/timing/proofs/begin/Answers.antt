-- `begin` meets its contract: the lengths are looked at as a batch does. Assumes nothing.
use Rattle.timing.proofs.Laws.Stepping.{begin_uneven, begin_short, begin_right}
use Rattle.timing.proofs.begin.Goals as goal

pub returns-then-events-ne0-clause-value : goal.returns-then-events-ne0-clause-value
returns-then-events-ne0-clause-value c = begin_uneven _ _ c.if-events-ne0.true

pub returns-then-out-events-clause-value : goal.returns-then-out-events-clause-value
returns-then-out-events-clause-value c = begin_short _ _ c.if-events-ne0.false c.if-out-events.true

pub returns-in-Ok-clause-value : goal.returns-in-Ok-clause-value
returns-in-Ok-clause-value c = begin_right _ _ c.if-events-ne0.false c.if-out-events.false

pub returns-in-Err-clause-value : goal.returns-in-Err-clause-value
returns-in-Err-clause-value c = begin_right _ _ c.if-events-ne0.false c.if-out-events.false
