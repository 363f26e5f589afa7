-- `calls::climb` meets its contract: at each return the tests on the way pick the definition's case. Assumes nothing.
use mathlib.Core.Path.{sym, ap, ◌∙◌}
use Rattle.sets.specs.Sets.{found}
use Rattle.calls.specs.Calls.{Told}
use Rattle.calls.proofs.Laws.Shapes.{shape-zero, shape-le, box_pos, shape_fits, form_fits, box_fits, rank_fits, rank_lt}
use Rattle.calls.proofs.Laws.Calls.{passed_on, climb-misshapen, climb_wrong_rank, named_refused, climb_from_marked, named_marked, climb-unmarked}
use Rattle.calls.proofs.climb.Goals as goal

pub returns-in_err-misshapen-clause-told : goal.returns-in_err-misshapen-clause-told
returns-in_err-misshapen-clause-told c = rw (passed_on c.from_residual.result _ c.from_residual.ensures.1) (climb-misshapen _ _ _ _ _ _ _ c.in_err-misshapen.ensures)

pub returns-in_err-misshapen-clause-named : goal.returns-in_err-misshapen-clause-named
returns-in_err-misshapen-clause-named c = rw (passed_on c.from_residual.result _ c.from_residual.ensures.1) (named_refused _ _ (climb-misshapen _ _ _ _ _ _ _ c.in_err-misshapen.ensures))

pub returns-then-n-p-clause-told : goal.returns-then-n-p-clause-told
returns-then-n-p-clause-told c = climb_wrong_rank _ _ _ _ _ _ (sym c.in_ok-misshapen.ensures) c.if-n-p.true

pub returns-then-n-p-clause-named : goal.returns-then-n-p-clause-named
returns-then-n-p-clause-named c = named_refused _ _ (climb_wrong_rank _ _ _ _ _ _ (sym c.in_ok-misshapen.ensures) c.if-n-p.true)

pub overflow_cast-n : goal.overflow_cast-n
overflow_cast-n c = search (shape_fits, c.in_ok-misshapen.ensures)

pub below-requires : goal.below-requires
below-requires c = search (shape-le, c.in_ok-misshapen.ensures)

pub overflow_cast-from : goal.overflow_cast-from
overflow_cast-from c = search (rank_fits, c.in_ok-misshapen.ensures)

pub member-requires : goal.member-requires
member-requires c = search (rank_lt, c.in_ok-misshapen.ensures)

pub returns-then-member-clause-told : goal.returns-then-member-clause-told
returns-then-member-clause-told c = search (climb_from_marked, shape-zero, c.in_ok-misshapen.ensures)

pub returns-then-member-clause-named : goal.returns-then-member-clause-named
returns-then-member-clause-named c = search (named_marked, climb_from_marked, rank_lt, shape-zero, c.in_ok-misshapen.ensures)

pub overflow_cast-form : goal.overflow_cast-form
overflow_cast-form c = search (form_fits, c.in_ok-misshapen.ensures)

pub overflow_cast-span : goal.overflow_cast-span
overflow_cast-span c = search (box_fits, c.in_ok-misshapen.ensures)

pub climb_from-requires-clause-span_nonzero : goal.climb_from-requires-clause-span_nonzero
climb_from-requires-clause-span_nonzero c = search (box_pos, c.in_ok-misshapen.ensures)

pub climb_from-requires-clause-p_bound : goal.climb_from-requires-clause-p_bound
climb_from-requires-clause-p_bound c = search (rank_lt, c.in_ok-misshapen.ensures)

pub returns-clause-told : goal.returns-clause-told
returns-clause-told c = c.climb_from.ensures.told ∙ climb-unmarked _ _ _ _ _ _ _ _ _ (sym c.in_ok-misshapen.ensures) c.if-n-p.false c.below.ensures c.meet-view.ensures c.member.ensures c.if-member.false

pub returns-clause-named : goal.returns-clause-named
returns-clause-named c =
    c.climb_from.ensures.named
    ∙ ap (λ (t : Told). found t.rank) (climb-unmarked _ _ _ _ _ _ _ _ _ (sym c.in_ok-misshapen.ensures) c.if-n-p.false c.below.ensures c.meet-view.ensures c.member.ensures c.if-member.false)
