-- `run` meets its contract: what it does on an empty state. Assumes nothing.
use Rattle.schedule.proofs.Laws.Opening.{accepted_on, refused_on}
use Rattle.schedule.proofs.run.Goals as goal

pub returns-in-Ok : goal.returns-in-Ok
returns-in-Ok c = accepted_on _ _ _ _ c.in-Ok.ensures.answer c.run_on.ensures.s_after c.run_on.ensures.out_after

pub returns-in-Err : goal.returns-in-Err
returns-in-Err c = refused_on _ _ _ _ _ c.in-Err.ensures.answer c.run_on.ensures.s_after c.run_on.ensures.out_after
