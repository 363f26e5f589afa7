-- What the program prints is a matter of the file alone, and of no more than its first 36,871 bytes: the slice that is lent may hold anything.
-- Assumes nothing.
use mathlib.Core.Path.{◌≡◌, sym, ap, ◌∙◌}
use mathlib.Core.List.{List}
use mathlib.Core.Logic.{⊎_elim}
use Prim.Native.Nat.{ℕ, ◌+◌, ◌*◌, ◌<◌, ◌≤◌}
use native.Mathlib.Omega.{arith}
use lib.ListN.{length, take}
use lib.Seq.{take_all}
use borrow.Author.Tests.{eq-eqb, ne_eqb}
use Rattle.sets.proofs.Laws.Bools.{eq_or_ne, lt-or-le}
use Rattle.state.specs.declared.State.{State}
use Rattle.files.specs.Files.{longest, events_in}
use Rattle.schedule.specs.Runs.{run}
use Rattle.schedule.proofs.Laws.Opening.{long-refused, long_alike}
use Rattle.schedule.proofs.Laws.Slices.{Agree, same-run}
use Rattle.text.specs.Text.{lines}
use Rattle.text.proofs.Laws.Lines.{lines_same}
use Rattle.lines.specs.Lines.{event_line, refused_line}
use Rattle.lines.proofs.Laws.Lines.{event-same}
use Rattle.listing.specs.Listings.{file_room, answers_room, listing, report_of, report}

line_same : (a b : List ℕ) (k : ℕ) → Agree a b (3 * k + 3) → event_line a k ≡ event_line b k
line_same a b k h = event-same a b k (h (3 * k) (omega arith)) (h (3 * k + 1) (omega arith)) (h (3 * k + 2) (omega arith))

listing-same : (events : ℕ) (a b : List ℕ) (s t : State) → s ≡ t → Agree a b (3 * events) → listing events a s ≡ listing events b t
unfolding listing
listing-same events a b s t e h =
    let l : lines (event_line a) events ≡ lines (event_line b) events = lines_same (event_line a) (event_line b) events (λ i m. line_same a b i (λ j k. h j (omega arith))) in
    rw (e, l)

-- What is reported does not depend on what the slice held, or on its length where it has room for the most events.
pub report_of_the_file : (file a b : List ℕ) → answers_room ≤ length a → answers_room ≤ length b → report file a ≡ report file b
unfolding report report_of
report_of_the_file file a b ra rb = ⊎_elim accepted refused (eq_or_ne (run file a).answer 0)
  where
    accepted : (run file a).answer ≡ 0 → report file a ≡ report file b
    accepted z =
        let s = same-run file a b ra rb in
        rw (eq-eqb (run file a).answer 0 z, eq-eqb (run file b).answer 0 (sym s.answer-same ∙ z))
        (listing-same (events_in file) (run file a).answers (run file b).answers (run file a).state (run file b).state s.state-same (s.answers-same z))

    refused : ((run file a).answer ≡ 0 → ⊥) → report file a ≡ report file b
    refused d =
        let s = same-run file a b ra rb in
        rw (ne_eqb (run file a).answer 0 d, ne_eqb (run file b).answer 0 (λ z. d (s.answer-same ∙ z))) (ap refused_line s.answer-same)

refused-same : (file start out : List ℕ) → ((run file out).answer ≡ 0 → ⊥) → run start out ≡ run file out → report start out ≡ report file out
unfolding report report_of
refused-same file start out d e = rw (e, ne_eqb (run file out).answer 0 d)

-- What is reported of a file is what is reported of its first 36,871 bytes.
pub report_of_the_start : (file out : List ℕ) → report (take file_room file) out ≡ report file out
report_of_the_start file out = ⊎_elim long short (lt-or-le longest (length file))
  where
    long : longest < length file → report (take file_room file) out ≡ report file out
    long l = refused-same file (take file_room file) out (long-refused file out l) (long_alike file out file_room (omega arith) (omega arith))

    short : length file ≤ longest → report (take file_room file) out ≡ report file out
    short l = ap (λ (f : List ℕ). report f out) (take_all file_room file (omega arith))
