-- `batch` meets its contract: 40, 41, or the events one after the other. Assumes nothing.
use Rattle.batches.proofs.Laws.Handling.{batch-uneven, batch_short, batch_taken}
use Rattle.batches.proofs.batch.Goals as goal

pub returns-then-events-ne0-clause-value : goal.returns-then-events-ne0-clause-value
returns-then-events-ne0-clause-value c = (batch-uneven _ _ _ _ c.if-events-ne0.true).0

pub returns-then-events-ne0-clause-s_after : goal.returns-then-events-ne0-clause-s_after
returns-then-events-ne0-clause-s_after c = (batch-uneven _ _ _ _ c.if-events-ne0.true).1.0

pub returns-then-events-ne0-clause-out_after : goal.returns-then-events-ne0-clause-out_after
returns-then-events-ne0-clause-out_after c = (batch-uneven _ _ _ _ c.if-events-ne0.true).1.1

pub returns-then-out-events-clause-value : goal.returns-then-out-events-clause-value
returns-then-out-events-clause-value c = (batch_short _ _ _ _ c.if-events-ne0.false c.if-out-events.true).0

pub returns-then-out-events-clause-s_after : goal.returns-then-out-events-clause-s_after
returns-then-out-events-clause-s_after c = (batch_short _ _ _ _ c.if-events-ne0.false c.if-out-events.true).1.0

pub returns-then-out-events-clause-out_after : goal.returns-then-out-events-clause-out_after
returns-then-out-events-clause-out_after c = (batch_short _ _ _ _ c.if-events-ne0.false c.if-out-events.true).1.1

pub returns-clause-value : goal.returns-clause-value
returns-clause-value c = (batch_taken _ _ _ _ _ _ c.if-events-ne0.false c.if-out-events.false c.step_each.ensures.s_after c.step_each.ensures.out_after).0

pub returns-clause-s_after : goal.returns-clause-s_after
returns-clause-s_after c = (batch_taken _ _ _ _ _ _ c.if-events-ne0.false c.if-out-events.false c.step_each.ensures.s_after c.step_each.ensures.out_after).1.0

pub returns-clause-out_after : goal.returns-clause-out_after
returns-clause-out_after c = (batch_taken _ _ _ _ _ _ c.if-events-ne0.false c.if-out-events.false c.step_each.ensures.s_after c.step_each.ensures.out_after).1.1
