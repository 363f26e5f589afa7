-- What an accepted run leaves: whole events, a slice of the same length and a state in order. Assumes nothing.
use mathlib.Core.Path.{◌≡◌, refl, sym, ap, subst, ◌∙◌}
use mathlib.Core.Bool.{true, false}
use mathlib.Core.List.{List}
use mathlib.Core.Logic.{◌⊎◌, inl, inr}
use Prim.Native.Nat.{ℕ, ◌*◌, ◌≤◌}
use native.Mathlib.Omega.{arith}
use lib.Dec.{ltb}
use lib.ListN.{length}
use borrow.Author.Tests.{ltb-false}
use Rattle.sets.proofs.Laws.Bools.{passes_or_fails}
use Rattle.std.specs.Prelude.{Result, Ok, Err}
use Rattle.answers.specs.declared.Refusal.{Refusal}
use Rattle.state.proofs.Laws.Starting.{not_accepted}
use Rattle.tree.specs.Tree.{flat}
use Rattle.tree.specs.Forms.{flat_form}
use Rattle.calls.proofs.Laws.Shapes.{flat_shapely}
use Rattle.state.specs.declared.State.{State}
use Rattle.state.specs.Starting.{fresh_state}
use Rattle.order.proofs.Laws.Ordering.{in_order_facts}
use Rattle.order.proofs.Laws.Fresh.{fresh_in_order}
use Rattle.files.specs.declared.Header.{Header}
use Rattle.files.specs.Files.{event_at, events_in, header}
use Rattle.files.proofs.Laws.Opening.{Opened, good_opened}
use Rattle.playing.specs.Playing.{Run, played}
use Rattle.playing.proofs.Laws.Playing.{played-long, played_in_order}
use Rattle.schedule.specs.Runs.{told, refused_run, opened, run}
use Rattle.schedule.proofs.Laws.Opening.{run-refused}

-- A run is accepted only with a good header and a slice that is long enough.
pub record Whole (file out : List ℕ) (h : Header) : Type 0 where
  pub opens : Opened file h
  pub room : 3 * h.events ≤ length out
  pub run_is : run file out ≡ played flat (event_at file) h.events 0 (fresh_state flat h.n flat_form 1) out

pub run_whole : (file out : List ℕ) → (run file out).answer ≡ 0 → (h : Header) × Whole file out h
unfolding run opened refused_run
run_whole file out z = from (header file) refl
  where
    room : (h : Header) → header file ≡ Ok h → (ltb (length out) (3 * h.events) ≡ true) ⊎ (ltb (length out) (3 * h.events) ≡ false) → (h : Header) × Whole file out h
    room h e (inl l) = let q : (run file out).answer ≡ 25 = rw (e, l) in absurd (omega arith)
    room h e (inr l) = (h, record { opens = good_opened file h e; room = ltb-false (length out) (3 * h.events) l; run_is = rw (e, l) })

    from : (r : Result Header Refusal) → header file ≡ r → (h : Header) × Whole file out h
    from (Ok h) e = room h e (passes_or_fails (ltb (length out) (3 * h.events)))
    from (Err e) q = absurd (not_accepted e (sym (ap (λ (x : Run). x.answer) (run-refused file out e q)) ∙ z))

-- What the listing asks for.
pub record Ended (file out : List ℕ) (s : State) (answers : List ℕ) : Type 0 where
  pub long : 6 ≤ length file
  pub short : length file ≤ 36870
  pub room : 3 * events_in file ≤ length answers
  pub few : events_in file ≤ 4096
  pub size : s.group.n ≤ 64

pub run-ended : (file out : List ℕ) (a : ℕ) (s : State) (answers : List ℕ) → a ≡ (run file out).answer → s ≡ (run file out).state → answers ≡ (run file out).answers → a ≡ 0 → Ended file out s answers
run-ended file out a s answers ea es ev z =
    let r = run_whole file out (sym ea ∙ z) in
    let n = r.0.n in
    let events = r.0.events in
    let w = r.1 in
    let o = w.opens in
    let f = fresh_in_order flat n flat_form 1 (flat_shapely n o.size) in
    let st : s ≡ (played flat (event_at file) events 0 (fresh_state flat n flat_form 1) out).state = es ∙ ap (λ (x : Run). x.state) w.run_is in
    let an : answers ≡ (played flat (event_at file) events 0 (fresh_state flat n flat_form 1) out).answers = ev ∙ ap (λ (x : Run). x.answers) w.run_is in
    let kept : length answers ≡ length out = ap length an ∙ played-long flat (event_at file) events 0 (fresh_state flat n flat_form 1) out in
    record {
      long = omega (arith, o.whole);
      short = o.short;
      room = omega (arith, w.room, o.events_are);
      few = omega (arith, o.whole, o.short, o.events_are);
      size = subst (λ (x : State). x.group.n ≤ 64) (sym st) (in_order_facts flat (played flat (event_at file) events 0 (fresh_state flat n flat_form 1) out).state (played_in_order flat (event_at file) events 0 (fresh_state flat n flat_form 1) out f)).shape.small;
    }

-- The same of what an accepted run tells.
pub told-ended : (file out : List ℕ) (s : State) (answers : List ℕ) → told (Ok s) answers ≡ run file out → Ended file out s answers
told-ended file out s answers e = run-ended file out 0 s answers (ap (λ (x : Run). x.answer) e) (ap (λ (x : Run). x.state) e) (ap (λ (x : Run). x.answers) e) refl
