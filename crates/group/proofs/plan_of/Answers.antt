-- `plan_of` meets its contract: from a state in order the plan is ready to be made. Assumes nothing.
use Rattle.group.proofs.Laws.Stepping.{subject-below, step_seat, step_ready, plan_is}
use Rattle.group.proofs.plan_of.Goals as goal

pub bounds-g-me : goal.bounds-g-me
bounds-g-me c = search subject-below

pub bounds-s-me : goal.bounds-s-me
bounds-s-me c = search subject-below

pub invariant_of-seat : goal.invariant_of-seat
invariant_of-seat c = record { fresh_row = step_seat _ _ _ _ _ c.requires c.at-m.ensures c.subject-me.ensures }

pub plan_event-requires : goal.plan_event-requires
plan_event-requires c = search step_ready

pub returns : goal.returns
returns c = plan_is _ _ _ _ _ _ c.at-m.ensures c.subject-me.ensures c.plan_event.ensures
