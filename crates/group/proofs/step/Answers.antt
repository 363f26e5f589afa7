-- `step` meets its contract: a refused plan hands the state back, an accepted one is carried out. Assumes nothing.
use mathlib.Core.Path.{refl}
use Rattle.group.proofs.Laws.Stepping.{step_carriable, step-refuses, step_carries}
use Rattle.group.proofs.step.Goals as goal

pub carry-state-requires : goal.carry-state-requires
carry-state-requires c = step_carriable _ _ _ _ _ c.requires c.in-Ok.ensures refl c.subject_of-me.ensures

pub returns-in-Ok : goal.returns-in-Ok
returns-in-Ok c = step_carries _ _ _ _ _ _ _ _ c.in-Ok.ensures refl c.subject_of-me.ensures c.size.ensures c.size-in-Ok.ensures c.carry-state.ensures

pub returns-in-Err : goal.returns-in-Err
returns-in-Err c = step-refuses _ _ _ _ _ _ c.in-Err.ensures
