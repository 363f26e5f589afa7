-- What the program draws is a matter of the file alone, and of no more than its first 36,871 bytes; and each living rank's picture is that of a
-- view, so that it can be read back. Assumes nothing.
use mathlib.Core.Path.{◌≡◌, sym, ap}
use mathlib.Core.Bool.{false}
use mathlib.Core.List.{List}
use mathlib.Core.Logic.{⊎_elim}
use Prim.Native.Nat.{ℕ, ◌<◌, ◌≤◌}
use native.Mathlib.Omega.{arith}
use lib.ListN.{length, take}
use lib.Seq.{take_all}
use borrow.Author.Tests.{ne_eqb}
use Rattle.sets.specs.Sets.{has}
use Rattle.sets.proofs.Laws.Bools.{lt-or-le}
use Rattle.tree.specs.Tree.{flat}
use Rattle.state.specs.States.{rank_at}
use Rattle.order.proofs.Laws.Ordering.{in_order_facts}
use Rattle.group.proofs.Laws.Reached.{reached_in_order}
use Rattle.playing.specs.Playing.{Run}
use Rattle.files.specs.Files.{longest, byte_at}
use Rattle.schedule.specs.Runs.{run}
use Rattle.schedule.proofs.Laws.Opening.{long_alike}
use Rattle.schedule.proofs.Laws.Slices.{same-run}
use Rattle.schedule.proofs.Reaching.{run_reaches}
use Rattle.listing.specs.Listings.{file_room, answers_room, report}
use Rattle.listing.proofs.Laws.Reporting.{report-line}
use Rattle.pictures.specs.Reading.{IsView, Viewed, Reads}
use Rattle.pictures.proofs.Laws.Calls.{is_view}
use Rattle.pictures.proofs.RoundTrip.{a_picture_is_read}
use Rattle.drawing.specs.Drawings.{rank_picture, drawing_of, drawing}

drawn_same : (r s : Run) → r.answer ≡ s.answer → r.state ≡ s.state → drawing_of r ≡ drawing_of s
unfolding drawing_of
drawn_same r s e f = rw (e, f)

-- What is drawn does not depend on what the slice held, or on its length where it has room for the most events.
pub drawing_of_the_file : (file a b : List ℕ) → answers_room ≤ length a → answers_room ≤ length b → drawing file a ≡ drawing file b
unfolding drawing
drawing_of_the_file file a b ra rb = let s = same-run file a b ra rb in drawn_same (run file a) (run file b) s.answer-same s.state-same

-- What is drawn of a file is what is drawn of its first 36,871 bytes.
pub drawing_of_the_start : (file out : List ℕ) → drawing (take file_room file) out ≡ drawing file out
unfolding drawing
drawing_of_the_start file out = ⊎_elim long short (lt-or-le longest (length file))
  where
    long : longest < length file → drawing_of (run (take file_room file) out) ≡ drawing_of (run file out)
    long l = ap drawing_of (long_alike file out file_room (omega arith) (omega arith))

    short : length file ≤ longest → drawing_of (run (take file_room file) out) ≡ drawing_of (run file out)
    short l = ap (λ (f : List ℕ). drawing_of (run f out)) (take_all file_room file (omega arith))

-- Of a refused file is printed what `agr` prints.
pub a_refused_file_is_drawn_as_it_is_listed : (file out : List ℕ) → ((run file out).answer ≡ 0 → ⊥) → drawing file out ≡ report file out
unfolding drawing drawing_of
a_refused_file_is_drawn_as_it_is_listed file out d = rw (ne_eqb (run file out).answer 0 d) (sym (report-line file out d))

-- At the end of a run each rank has a view that leaves itself.
pub each_rank_has_a_view : (file out : List ℕ) (i : ℕ) → (run file out).answer ≡ 0 → i < (run file out).state.group.n → IsView (run file out).state.group.n (rank_at (run file out).state i).marks
each_rank_has_a_view file out i z l =
    let s = (run file out).state in
    let facts = in_order_facts flat s (reached_in_order flat (byte_at file 5) s (run_reaches file out z)) in
    let marks = (facts.member i l).in_order.to_settle.marks_inside in
    is_view s.group.n (rank_at s i).marks i facts.shape.some facts.shape.small l marks.inside marks.without

-- So a living rank's picture is read as its view.
pub a_drawn_view_is_read : (file out : List ℕ) (i : ℕ) (r : Viewed) → (run file out).answer ≡ 0 → i < (run file out).state.group.n → has (run file out).state.group.dead i ≡ false
    → Reads (rank_picture (run file out).state.group.n (run file out).state.group.dead i (rank_at (run file out).state i).marks) r
    → r ≡ record { answer = 0; n = (run file out).state.group.n; marks = (rank_at (run file out).state i).marks }
unfolding rank_picture
a_drawn_view_is_read file out i r z l d h =
    a_picture_is_read (run file out).state.group.n (rank_at (run file out).state i).marks r (each_rank_has_a_view file out i z l) (rw d at h)
