-- `advance` meets its contract: a refusal, or one rank's record and row, the dead set and the list. Assumes nothing.
use mathlib.Core.Path.{refl, sym, ◌∙◌}
use native.Mathlib.Omega.{arith}
use Rattle.std.proofs.lemmas.Result.{err_from_is_err_and}
use Rattle.answers.specs.declared.Refusal.TheVariants.{TooMany}
use Rattle.refusals.proofs.Laws.Refusing.{notice_names}
use Rattle.plans.proofs.Laws.Planning.{draft_fits, draft_full}
use Rattle.plans.proofs.Laws.Accepting.{step_place, step_room}
use Rattle.playing.proofs.Laws.Going.{advance_small, advance_known, advance_subject, advance_seat, advance_ready, advance_unplanned, advance_refused, advance_accepted, advance_marks}
use Rattle.playing.proofs.advance.Goals as goal

pub bounds-s-me : goal.bounds-s-me
bounds-s-me c = advance_subject _ c.args.s.now c.args.flight.now _ _ _ c.requires c.at-m.ensures c.subject-me.ensures

pub refusal-requires : goal.refusal-requires
refusal-requires c = advance_small _ c.args.s.now c.args.flight.now c.requires

pub returns-in_err-refusal : goal.returns-in_err-refusal
returns-in_err-refusal c = let p = err_from_is_err_and c.from_residual.result c.from_residual.ensures.1 in
    rw (p.1, p.2) (advance_refused _ c.args.s.now c.args.flight.now _ _ _ c.requires c.at-m.ensures c.subject-me.ensures _ (rw c.count-count.ensures at c.in_err-refusal.ensures))

pub invariant_of-seat : goal.invariant_of-seat
invariant_of-seat c = record { fresh_row = advance_seat _ c.args.s.now c.args.flight.now _ _ _ c.requires c.at-m.ensures c.subject-me.ensures }

pub draft-p-requires-clause-fresh_subject : goal.draft-p-requires-clause-fresh_subject
draft-p-requires-clause-fresh_subject c = advance_ready _ c.args.s.now c.args.flight.now _ _ _ c.requires c.at-m.ensures c.subject-me.ensures

pub bounds-s-me-2 : goal.bounds-s-me-2
bounds-s-me-2 c = advance_subject _ c.args.s.now c.args.flight.now _ _ _ c.requires c.at-m.ensures c.subject-me.ensures

pub bounds-s-me-3 : goal.bounds-s-me-3
bounds-s-me-3 c = advance_subject _ c.args.s.now c.args.flight.now _ _ _ c.requires c.at-m.ensures c.subject-me.ensures

pub bounds-s-me-4 : goal.bounds-s-me-4
bounds-s-me-4 c = advance_subject _ c.args.s.now c.args.flight.now _ _ _ c.requires c.at-m.ensures c.subject-me.ensures

pub bounds-s-me-5 : goal.bounds-s-me-5
bounds-s-me-5 c = advance_subject _ c.args.s.now c.args.flight.now _ _ _ c.requires c.at-m.ensures c.subject-me.ensures

pub buried-s-requires : goal.buried-s-requires
buried-s-requires c = advance_subject _ c.args.s.now c.args.flight.now _ _ _ c.requires c.at-m.ensures c.subject-me.ensures

pub draft-p-requires-clause-b_lt_n : goal.draft-p-requires-clause-b_lt_n
draft-p-requires-clause-b_lt_n c = notice_names _ _ _ _ _ _ (sym c.in_ok-refusal.ensures)

pub returns-then-afterwards-gt128 : goal.returns-then-afterwards-gt128
returns-then-afterwards-gt128 c =
    advance_unplanned _ c.args.s.now c.args.flight.now _ _ _ c.requires c.at-m.ensures c.subject-me.ensures TooMany _ _ (rw c.count-count.ensures at (draft_full _ _ _ _ _ _ _ _ _ _ _ (sym c.in_ok-refusal.ensures) c.draft-p.ensures c.afterwards.ensures c.if-afterwards-gt128.true))

pub post-sent-requires-clause-place_in : goal.post-sent-requires-clause-place_in
post-sent-requires-clause-place_in c = step_place _ _ _ _ _ _ _ _ _ _ (rw c.count-count.ensures at (draft_fits _ _ _ _ _ _ _ _ _ _ _ (sym c.in_ok-refusal.ensures) c.draft-p.ensures c.afterwards.ensures c.if-afterwards-gt128.false)) refl

pub post-sent-requires-clause-room : goal.post-sent-requires-clause-room
post-sent-requires-clause-room c = step_room _ _ _ _ _ _ _ _ _ _ (rw c.count-count.ensures at (draft_fits _ _ _ _ _ _ _ _ _ _ _ (sym c.in_ok-refusal.ensures) c.draft-p.ensures c.afterwards.ensures c.if-afterwards-gt128.false)) refl

pub returns-then-p-r : goal.returns-then-p-r
returns-then-p-r c =
    advance_marks _ c.args.s.now c.args.flight.now _ _ _ c.requires c.at-m.ensures c.subject-me.ensures _ _ _ _ (rw c.count-count.ensures at (draft_fits _ _ _ _ _ _ _ _ _ _ _ (sym c.in_ok-refusal.ensures) c.draft-p.ensures c.afterwards.ensures c.if-afterwards-gt128.false)) c.post-sent.ensures.sent c.post-sent.ensures.after c.buried-s.ensures c.if-p-r.true

pub returns : goal.returns
returns c =
    advance_accepted _ c.args.s.now c.args.flight.now _ _ _ c.requires c.at-m.ensures c.subject-me.ensures _ _ _ _ (rw c.count-count.ensures at (draft_fits _ _ _ _ _ _ _ _ _ _ _ (sym c.in_ok-refusal.ensures) c.draft-p.ensures c.afterwards.ensures c.if-afterwards-gt128.false)) c.post-sent.ensures.sent c.post-sent.ensures.after c.buried-s.ensures

pub known-requires : goal.known-requires
known-requires c k = omega (arith, notice_names _ _ _ _ _ _ (sym c.in_ok-refusal.ensures) k, advance_small _ c.args.s.now c.args.flight.now c.requires)

pub returns-then-known : goal.returns-then-known
returns-then-known c = rw c.nobody.ensures (advance_known _ c.args.s.now c.args.flight.now _ _ _ c.requires c.at-m.ensures c.subject-me.ensures (sym c.known.ensures ∙ c.if-known.true) (sym (rw c.count-count.ensures at c.in_ok-refusal.ensures)))
