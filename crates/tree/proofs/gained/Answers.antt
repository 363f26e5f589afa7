-- `tree::gained` meets its contract: what the last one who moved reports to, all of them do but that rank itself. Assumes nothing.
use mathlib.Core.Path.{sym, ◌∙◌}
use native.Mathlib.Omega.{arith}
use Rattle.sets.proofs.Laws.Members.{meet-nobody}
use Rattle.sets.proofs.Laws.Found.{none_last, last_found}
use Rattle.tree.proofs.Laws.Forms.{form_ancestry, form_chained}
use Rattle.tree.proofs.Laws.Gaining.{gained-nobody, gained-all}
use Rattle.tree.proofs.gained.Goals as goal

pub returns-in_default : goal.returns-in_default
returns-in_default c = rw (none_last c.args.moved 64 c.ranges.moved.fits (omega arith) (sym c.in_default.is ∙ c.largest.ensures)) (sym (meet-nobody _))

pub bounds-table-last : goal.bounds-table-last
bounds-table-last c = (last_found c.args.moved 64 _ c.ranges.moved.fits (omega arith) c.in-Some.ensures).within

pub returns-then-table-last : goal.returns-then-table-last
returns-then-table-last c = let pre = c.requires in
    gained-nobody _ (form_ancestry _ _) (form_chained _ _) _ _ _ _ _ _ pre.n_bound pre.q_lt_n pre.p_bound pre.table_value pre.moved_value _ (last_found _ 64 _ c.ranges.moved.fits (omega arith) c.in-Some.ensures) c.if-table-last.true

pub returns : goal.returns
returns c = let pre = c.requires in
    gained-all _ (form_ancestry _ _) (form_chained _ _) _ _ _ _ _ _ pre.n_bound pre.q_lt_n pre.p_bound pre.table_value pre.moved_value _ _ _ (last_found _ 64 _ c.ranges.moved.fits (omega arith) c.in-Some.ensures) c.if-table-last.false c.only.ensures c.minus.ensures
