-- The report along its code. Assumes nothing.
use mathlib.Core.Path.{◌≡◌, refl, sym, ap, subst, ◌∙◌}
use mathlib.Core.Bool.{cond}
use mathlib.Core.List.{List}
use mathlib.Core.Logic.{◌⊎◌, inl, inr}
use Prim.Native.Nat.{ℕ, ◌≤◌}
use native.Mathlib.Omega.{arith}
use lib.Dec.{eqb}
use lib.ListN.{length}
use borrow.Author.Tests.{eq-eqb, ne_eqb, eqb-false}
use Rattle.std.specs.Prelude.{Ok, Err}
use Rattle.answers.specs.Answers.{number}
use Rattle.answers.proofs.Laws.Numbers.{number-not_0}
use Rattle.sets.proofs.Laws.Bools.{eq_or_ne}
use Rattle.state.specs.declared.State.{State}
use Rattle.text.specs.Text.{Wrote}
use Rattle.text.proofs.Laws.Writing.{wrote_kept}
use Rattle.files.specs.Files.{events_in}
use Rattle.state.specs.declared.Refused.{Refused}
use Rattle.playing.specs.Playing.{Run}
use Rattle.schedule.specs.Runs.{run, told}
use Rattle.schedule.proofs.Laws.Ending.{run-ended}
use Rattle.lines.specs.Lines.{refused_line}
use Rattle.listing.specs.Listings.{text_room, listing, report_of, report}
use Rattle.lines.proofs.Laws.Lines.{length-refused}
use Rattle.listing.proofs.Laws.Lines.{length-listing}

-- ---- the report along its code

-- A refused run is reported by its line alone.
pub report-line : (file out : List ℕ) → ((run file out).answer ≡ 0 → ⊥) → report file out ≡ refused_line (run file out).answer
unfolding report report_of
report-line file out d = rw (ne_eqb (run file out).answer 0 d)

pub report-refused : (file out : List ℕ) (a : ℕ) (text t : List ℕ) (next : ℕ) → a ≡ (run file out).answer → (a ≡ 0 → ⊥) → Wrote text 0 (refused_line a) t next → Wrote text 0 (report file out) t next
unfolding report report_of
report-refused file out a text t next e d w = rw (sym e, ne_eqb a 0 d) w

pub report-listed : (file out : List ℕ) (a : ℕ) (s : State) (answers : List ℕ) (events : ℕ) (text t : List ℕ) (next : ℕ) → a ≡ (run file out).answer → s ≡ (run file out).state → answers ≡ (run file out).answers
    → a ≡ 0 → events ≡ events_in file → Wrote text 0 (listing events answers s) t next → Wrote text 0 (report file out) t next
unfolding report report_of
report-listed file out a s answers events text t next ea es ev z ee w = rw (sym ea ∙ z) (subst (λ (l : List ℕ). Wrote text 0 l t next) (rw (ee, ev, es)) w)

-- the two answers of a run
pub report_told : (file out : List ℕ) (r : Refused) (answers text t : List ℕ) (next : ℕ) → told (Err r) answers ≡ run file out → Wrote text 0 (refused_line (number r.refusal)) t next → Wrote text 0 (report file out) t next
report_told file out r answers text t next e w = report-refused file out (number r.refusal) text t next (ap (λ (x : Run). x.answer) e) (eqb-false (number r.refusal) 0 (number-not_0 r.refusal)) w

pub listed_told : (file out : List ℕ) (s : State) (answers : List ℕ) (events : ℕ) (text t : List ℕ) (next : ℕ) → told (Ok s) answers ≡ run file out → events ≡ events_in file → Wrote text 0 (listing events answers s) t next
    → Wrote text 0 (report file out) t next
listed_told file out s answers events text t next e ee w =
    report-listed file out 0 s answers events text t next (ap (λ (x : Run). x.answer) e) (ap (λ (x : Run). x.state) e) (ap (λ (x : Run). x.answers) e) refl ee w

-- A report fits the buffer that it asks for.
report_short : (file out : List ℕ) → length (report file out) ≤ text_room
unfolding report report_of
report_short file out = go (eq_or_ne (run file out).answer 0)
  where
    go : ((run file out).answer ≡ 0) ⊎ ((run file out).answer ≡ 0 → ⊥) → length (cond (eqb (run file out).answer 0) (listing (events_in file) (run file out).answers (run file out).state) (refused_line (run file out).answer)) ≤ text_room
    go (inl z) =
        let e = run-ended file out (run file out).answer (run file out).state (run file out).answers refl refl refl z in
        rw (eq-eqb (run file out).answer 0 z) (let l : length (listing (events_in file) (run file out).answers (run file out).state) ≤ text_room = omega (arith, e.few, e.size, length-listing (events_in file) (run file out).answers (run file out).state) in l)
    go (inr d) = rw (ne_eqb (run file out).answer 0 d) (let l : length (refused_line (run file out).answer) ≤ text_room = omega (arith, length-refused (run file out).answer) in l)

pub report_fits : (file out text t : List ℕ) (next : ℕ) → Wrote text 0 (report file out) t next → text_room ≤ length text → next ≤ length t
report_fits file out text t next w r = omega (arith, report_short file out, w.next_is, wrote_kept w)
