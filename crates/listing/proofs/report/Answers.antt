-- `report` meets its contract: a refused run has its one line, an accepted one its listing. Assumes nothing.
use borrow.Author.Rules.{rules}
use native.Mathlib.Omega.{arith}
use Rattle.text.proofs.Laws.Writing.{name_kept, page_ends}
use Rattle.schedule.proofs.Laws.Opening.{accepted_on, refused_on}
use Rattle.schedule.proofs.Laws.Ending.{told-ended}
use Rattle.listing.proofs.Laws.Reporting.{report_told, listed_told}
use Rattle.listing.proofs.report.Goals as goal

pub events_in-requires-clause-in_bounds : goal.events_in-requires-clause-in_bounds
events_in-requires-clause-in_bounds c = let e = told-ended _ _ _ _ (accepted_on _ _ _ _ c.in-Ok.ensures.answer c.run_on.ensures.s_after c.run_on.ensures.out_after) in e.long

pub events_in-requires-clause-file_len_bound : goal.events_in-requires-clause-file_len_bound
events_in-requires-clause-file_len_bound c = let e = told-ended _ _ _ _ (accepted_on _ _ _ _ c.in-Ok.ensures.answer c.run_on.ensures.s_after c.run_on.ensures.out_after) in e.short

pub list-requires-clause-n_in_bounds : goal.list-requires-clause-n_in_bounds
list-requires-clause-n_in_bounds c = let e = told-ended _ _ _ _ (accepted_on _ _ _ _ c.in-Ok.ensures.answer c.run_on.ensures.s_after c.run_on.ensures.out_after) in omega (arith, e.few, e.size, c.events_in.ensures, c.requires)

pub list-requires-clause-events_in_bounds : goal.list-requires-clause-events_in_bounds
list-requires-clause-events_in_bounds c = let e = told-ended _ _ _ _ (accepted_on _ _ _ _ c.in-Ok.ensures.answer c.run_on.ensures.s_after c.run_on.ensures.out_after) in omega (arith, e.room, c.events_in.ensures)

pub list-requires-clause-events_bound : goal.list-requires-clause-events_bound
list-requires-clause-events_bound c = let e = told-ended _ _ _ _ (accepted_on _ _ _ _ c.in-Ok.ensures.answer c.run_on.ensures.s_after c.run_on.ensures.out_after) in omega (arith, e.few, c.events_in.ensures)

pub list-requires-clause-n_bound : goal.list-requires-clause-n_bound
list-requires-clause-n_bound c = let e = told-ended _ _ _ _ (accepted_on _ _ _ _ c.in-Ok.ensures.answer c.run_on.ensures.s_after c.run_on.ensures.out_after) in e.size

pub returns-in-Ok-clause-wrote : goal.returns-in-Ok-clause-wrote
returns-in-Ok-clause-wrote c = listed_told _ _ _ _ _ _ _ _ (accepted_on _ _ _ _ c.in-Ok.ensures.answer c.run_on.ensures.s_after c.run_on.ensures.out_after) c.events_in.ensures c.list.ensures

pub returns-in-Err-clause-wrote : goal.returns-in-Err-clause-wrote
returns-in-Err-clause-wrote c =
    let p = rw c.number.ensures at c.put_refused.ensures in
    let e = name_kept p in
    report_told _ _ _ _ _ _ _ (refused_on _ _ _ _ _ c.in-Err.ensures.answer c.run_on.ensures.s_after c.run_on.ensures.out_after) (page_ends p (search rules))
