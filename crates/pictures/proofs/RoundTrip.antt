-- The round trip: every view that leaves a rank is written where there is room, reading what was written gives the view, and two views with the
-- same picture are the same view. Assumes nothing.
use mathlib.Core.Path.{◌≡◌, refl, sym, ap, subst, ◌∙◌}
use mathlib.Core.List.{List}
use Prim.Native.Nat.{ℕ, ◌≤◌}
use contract.Lifetimes.{Lfts}
use lib.ListN.{length, take}
use Rattle.pictures.specs.Pictures.{picture}
use Rattle.pictures.specs.Writing.{written, Outcome, writing}
use Rattle.pictures.specs.Reading.{IsView, Viewed, viewed, Reads, a_picture}
use Rattle.pictures.proofs.Laws.Calls.{accepted-writing, written-view, writing-cases, same_view_lem, reads_alike}
use Rattle.pictures.proofs.write.Reads as write
use Rattle.pictures.proofs.read.Reads as read

pub a_picture_has_one_view : (n marks k others : ℕ) → IsView n marks → IsView k others → picture n marks ≡ picture k others → (n ≡ k) × (marks ≡ others)
a_picture_has_one_view n marks k others v w e = same_view_lem (picture n marks) n marks k others v w refl e

-- A picture is read as its view.
pub a_picture_is_read : (n marks : ℕ) (r : Viewed) → IsView n marks → Reads (picture n marks) r → r ≡ record { answer = 0; n = n; marks = marks }
a_picture_is_read n marks r v h = reads_alike h (a_picture n marks v refl)

-- A view is written in every buffer that has the room.
pub a_view_is_written : (n marks : ℕ) (text : List ℕ) → IsView n marks → length (picture n marks) ≤ length text → (writing n marks text).answer ≡ 0
a_view_is_written n marks text v l = written-view n marks text (writing n marks text) (writing-cases n marks text) v l

read_back : (n marks : ℕ) (text : List ℕ) (r : Viewed) → (writing n marks text).answer ≡ 0 → Reads (take (writing n marks text).length (writing n marks text).text) r → r ≡ record { answer = 0; n = n; marks = marks }
read_back n marks text r z h = let w = accepted-writing n marks text z in a_picture_is_read n marks r w.0 (subst (λ (l : List ℕ). Reads l r) w.1 h)

-- Whoever writes and is answered 0, and then reads what was written, gets the size and the marks.
pub reading_what_was_written : (κs : Lfts 1) (a : _) (t : _) (x : _) → write.Post κs a t x → (written t).answer ≡ 0
    → (λs : Lfts 1) (b : _) (u : _) (y : _) → read.Post λs b u y → b.0.now ≡ take (written t).length x.1.1.0.now → viewed u ≡ record { answer = 0; n = a.0; marks = a.1.0 }
reading_what_was_written κs a t x e z λs b u y h s =
    let text = a.1.1.0.now in
    let left : b.0.now ≡ take (writing a.0 a.1.0 text).length (writing a.0 a.1.0 text).text = s ∙ ap (λ (w : Outcome). take w.length w.text) e in
    read_back a.0 a.1.0 text (viewed u) (sym (ap (λ (w : Outcome). w.answer) e) ∙ z) (subst (λ (l : List ℕ). Reads l (viewed u)) left h)
