-- What a run writes does not depend on what the slice held: the same answer, the same final state, and the same number at every place that an
-- event writes. Assumes nothing.
use mathlib.Core.Path.{◌≡◌, refl, sym, ap, ◌∙◌}
use mathlib.Core.List.{List}
use Prim.Native.Nat.{ℕ, ◌+◌, ◌*◌, ◌≤◌, ◌<◌}
use native.Mathlib.Omega.{arith}
use lib.ListN.{length, get_or}
use borrow.Author.Tests.{le-ltb}
use Rattle.std.specs.Prelude.{Result, Ok, Err}
use Rattle.answers.specs.declared.Refusal.{Refusal}
use Rattle.state.proofs.Laws.Starting.{not_accepted}
use Rattle.tree.specs.Tree.{flat}
use Rattle.tree.specs.Forms.{flat_form}
use Rattle.state.specs.Starting.{fresh_state}
use Rattle.files.specs.declared.Header.{Header}
use Rattle.files.specs.Files.{most_events, longest, event_at, events_in, header}
use Rattle.files.proofs.Laws.Opening.{good_opened}
use Rattle.playing.specs.Playing.{Run, played}
use Rattle.playing.proofs.Laws.Playing.{played-answers, states_agree, answers_agree}
use Rattle.schedule.specs.Runs.{refused_run, opened, run}
use Rattle.schedule.proofs.Laws.Opening.{run-refused}

-- the first m numbers are the same
abbrev pub Agree : List ℕ → List ℕ → ℕ → Type 0
Agree a b m = (j : ℕ) → j < m → get_or a j 0 ≡ get_or b j 0

-- ---- the whole run

pub record SameRun (file a b : List ℕ) : Type 0 where
  pub answer-same : (run file a).answer ≡ (run file b).answer
  pub state-same : (run file a).state ≡ (run file b).state
  pub answers-same : (run file a).answer ≡ 0 → Agree (run file a).answers (run file b).answers (3 * events_in file)

-- A slice with room for the most events is never too short.
pub same-run : (file a b : List ℕ) → 3 * most_events ≤ length a → 3 * most_events ≤ length b → SameRun file a b
unfolding run opened refused_run
same-run file a b ra rb = from (header file) refl
  where
    good : (h : Header) → header file ≡ Ok h → SameRun file a b
    good h e =
        let n = h.n in
        let t = h.events in
        let o = good_opened file h e in
        let w : 6 + 9 * t ≤ length file = o.whole in
        let s : length file ≤ longest = o.short in
        let la : 3 * t ≤ length a = omega arith in
        let lb : 3 * t ≤ length b = omega arith in
        let g : Agree (played flat (event_at file) t 0 (fresh_state flat n flat_form 1) a).answers (played flat (event_at file) t 0 (fresh_state flat n flat_form 1) b).answers (3 * (0 + t)) = answers_agree flat (event_at file) t 0 (fresh_state flat n flat_form 1) a b (omega arith) (omega arith) (λ j k. absurd (omega arith)) in
        record {
          answer-same = rw (e, le-ltb (length a) (3 * t) la, le-ltb (length b) (3 * t) lb) (played-answers flat (event_at file) t 0 (fresh_state flat n flat_form 1) a ∙ sym (played-answers flat (event_at file) t 0 (fresh_state flat n flat_form 1) b));
          state-same = rw (e, le-ltb (length a) (3 * t) la, le-ltb (length b) (3 * t) lb) (states_agree flat (event_at file) t 0 (fresh_state flat n flat_form 1) a b);
          answers-same = λ z. rw (e, le-ltb (length a) (3 * t) la, le-ltb (length b) (3 * t) lb) (λ j k. g j (omega (arith, o.events_are)));
        }

    bad : (e : Refusal) → header file ≡ Err e → SameRun file a b
    bad e q =
        let p = run-refused file a e q in
        let r = run-refused file b e q in
        record {
          answer-same = ap (λ (x : Run). x.answer) p ∙ sym (ap (λ (x : Run). x.answer) r);
          state-same = ap (λ (x : Run). x.state) p ∙ sym (ap (λ (x : Run). x.state) r);
          answers-same = λ z. absurd (not_accepted e (sym (ap (λ (x : Run). x.answer) p) ∙ z));
        }

    from : (r : Result Header Refusal) → header file ≡ r → SameRun file a b
    from (Ok h) e = good h e
    from (Err e) q = bad e q
