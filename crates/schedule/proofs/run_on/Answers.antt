-- `run_on` meets its contract: a bad header, no room for the answers, or the play. Assumes nothing.
use mathlib.Core.Path.{sym, ap}
use Rattle.calls.proofs.Laws.Calls.{passed_on}
use Rattle.files.proofs.Laws.Opening.{good_opened}
use Rattle.playing.specs.Playing.{Run}
use Rattle.schedule.proofs.Laws.Opening.{told-refused, told_no_room, flat_shape, opened_in_order, told_accepted}
use Rattle.schedule.proofs.run_on.Goals as goal

pub returns-in_err-h-clause-answer : goal.returns-in_err-h-clause-answer
returns-in_err-h-clause-answer c = rw (passed_on c.from_residual.result _ c.from_residual.ensures.1) (ap (λ (x : Run). x.answer) (told-refused _ _ _ _ c.in_err-h.ensures c.requires))

pub returns-in_err-h-clause-s_after : goal.returns-in_err-h-clause-s_after
returns-in_err-h-clause-s_after c = ap (λ (x : Run). x.state) (told-refused _ _ _ _ c.in_err-h.ensures c.requires)

pub returns-in_err-h-clause-out_after : goal.returns-in_err-h-clause-out_after
returns-in_err-h-clause-out_after c = ap (λ (x : Run). x.answers) (told-refused _ _ _ _ c.in_err-h.ensures c.requires)

pub returns-then-out-total-clause-answer : goal.returns-then-out-total-clause-answer
returns-then-out-total-clause-answer c = ap (λ (x : Run). x.answer) (told_no_room _ _ _ (sym c.in_ok-h.ensures) _ c.if-out-total.true c.requires)

pub returns-then-out-total-clause-s_after : goal.returns-then-out-total-clause-s_after
returns-then-out-total-clause-s_after c = ap (λ (x : Run). x.state) (told_no_room _ _ _ (sym c.in_ok-h.ensures) _ c.if-out-total.true c.requires)

pub returns-then-out-total-clause-out_after : goal.returns-then-out-total-clause-out_after
returns-then-out-total-clause-out_after c = ap (λ (x : Run). x.answers) (told_no_room _ _ _ (sym c.in_ok-h.ensures) _ c.if-out-total.true c.requires)

pub seat-requires-clause-shape : goal.seat-requires-clause-shape
seat-requires-clause-shape c = flat_shape _ c.args.out.now _ (sym c.in_ok-h.ensures)

pub spell-requires-clause-total_in_bounds : goal.spell-requires-clause-total_in_bounds
spell-requires-clause-total_in_bounds c = (good_opened _ _ (sym c.in_ok-h.ensures)).whole

pub play_on-requires-clause-in_order : goal.play_on-requires-clause-in_order
play_on-requires-clause-in_order c = opened_in_order _ c.args.out.now _ (sym c.in_ok-h.ensures) _ c.seat.ensures

pub returns-clause-answer : goal.returns-clause-answer
returns-clause-answer c = ap (λ (x : Run). x.answer) (told_accepted _ _ _ (sym c.in_ok-h.ensures) _ c.seat.ensures _ _ _ c.if-out-total.false c.spell.ensures c.play_on.ensures.s_after c.play_on.ensures.out_after)

pub returns-clause-s_after : goal.returns-clause-s_after
returns-clause-s_after c = ap (λ (x : Run). x.state) (told_accepted _ _ _ (sym c.in_ok-h.ensures) _ c.seat.ensures _ _ _ c.if-out-total.false c.spell.ensures c.play_on.ensures.s_after c.play_on.ensures.out_after)

pub returns-clause-out_after : goal.returns-clause-out_after
returns-clause-out_after c = ap (λ (x : Run). x.answers) (told_accepted _ _ _ (sym c.in_ok-h.ensures) _ c.seat.ensures _ _ _ c.if-out-total.false c.spell.ensures c.play_on.ensures.s_after c.play_on.ensures.out_after)
