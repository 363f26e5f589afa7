-- `start` meets its contract: a refused start is empty, an accepted one has n fresh ranks and rows. Assumes nothing.
use Rattle.calls.proofs.Laws.Shapes.{shape_fits, form_fits, box_fits}
use Rattle.state.proofs.Laws.Starting.{start-refused, start-accepted}
use Rattle.state.proofs.start.Goals as goal

pub overflow_cast-n : goal.overflow_cast-n
overflow_cast-n c = shape_fits _ _ _ c.in-Ok.ensures

pub overflow_cast-form : goal.overflow_cast-form
overflow_cast-form c = form_fits _ _ _ c.in-Ok.ensures

pub overflow_cast-span : goal.overflow_cast-span
overflow_cast-span c = box_fits _ _ _ c.in-Ok.ensures

pub returns-in-Ok : goal.returns-in-Ok
returns-in-Ok c = start-accepted _ _ _ _ _ c.in-Ok.ensures c.seat.ensures

pub returns-in-Err : goal.returns-in-Err
returns-in-Err c = start-refused _ _ _ _ _ _ c.in-Err.ensures c.empty_state-s.ensures
