-- `plan_event` meets its contract: a refusal, or the plan of an event that is not refused. Assumes nothing.
use Rattle.plans.proofs.Laws.Planning.{plan_refused}
use Rattle.plans.proofs.plan_event.Goals as goal

pub returns-in-Err : goal.returns-in-Err
returns-in-Err c = rw c.not_planned.ensures (plan_refused _ _ _ _ _ _ _ _ _ _ c.in-Err.ensures)
