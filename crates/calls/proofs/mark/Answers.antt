-- `calls::mark` meets its contract: 1, 50 and 51 come before the view is looked at. Assumes nothing.
use Rattle.calls.proofs.Laws.Shapes.{shape_fits, form_fits, box_fits}
use Rattle.calls.proofs.Laws.Calls.{mark-misshapen}
use Rattle.calls.proofs.mark.Goals as goal

pub returns-in-Err : goal.returns-in-Err
returns-in-Err c = mark-misshapen _ _ _ _ _ _ _ _ c.in-Err.ensures c.not_marked.ensures

pub overflow_cast-n : goal.overflow_cast-n
overflow_cast-n c = shape_fits _ _ _ c.in_default.ensures

pub overflow_cast-form : goal.overflow_cast-form
overflow_cast-form c = form_fits _ _ _ c.in_default.ensures

pub overflow_cast-span : goal.overflow_cast-span
overflow_cast-span c = box_fits _ _ _ c.in_default.ensures
