-- `report` meets its contract: a refused run has its one line, an accepted one its pictures. Assumes nothing.
use borrow.Author.Rules.{rules}
use Rattle.text.proofs.Laws.Writing.{name_kept, page_ends}
use Rattle.schedule.proofs.Laws.Opening.{accepted_on, refused_on}
use Rattle.schedule.proofs.Laws.Ending.{told-ended}
use Rattle.drawing.proofs.Laws.Drawing.{drawing_told, drawn_told}
use Rattle.drawing.proofs.report.Goals as goal

pub draw-requires-clause-n_bound : goal.draw-requires-clause-n_bound
draw-requires-clause-n_bound c = let e = told-ended _ _ _ _ (accepted_on _ _ _ _ c.in-Ok.ensures.answer c.run_on.ensures.s_after c.run_on.ensures.out_after) in e.size

pub returns-in-Ok-clause-wrote : goal.returns-in-Ok-clause-wrote
returns-in-Ok-clause-wrote c = drawn_told _ _ _ _ _ _ _ (accepted_on _ _ _ _ c.in-Ok.ensures.answer c.run_on.ensures.s_after c.run_on.ensures.out_after) c.draw.ensures

pub returns-in-Err-clause-wrote : goal.returns-in-Err-clause-wrote
returns-in-Err-clause-wrote c =
    let p = rw c.number.ensures at c.put_refused.ensures in
    let e = name_kept p in
    drawing_told _ _ _ _ _ _ _ (refused_on _ _ _ _ _ c.in-Err.ensures.answer c.run_on.ensures.s_after c.run_on.ensures.out_after) (page_ends p (search rules))
