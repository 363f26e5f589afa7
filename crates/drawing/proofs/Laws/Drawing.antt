-- The drawing along its code, and the room that it takes. Assumes nothing.
use mathlib.Core.Path.{◌≡◌, refl, sym, ap, subst, ◌∙◌}
use mathlib.Core.Bool.{Bool, true, false, cond}
use mathlib.Core.List.{List, []}
use mathlib.Core.Logic.{⊎_elim}
use Prim.Native.Nat.{ℕ, ◌+◌, ◌-◌, ◌*◌, ◌≤◌}
use native.Mathlib.Nat.{mul-le-mul_right}
use native.Mathlib.Omega.{arith}
use lib.ListN.{length, get_or}
use borrow.Author.Tests.{eq-eqb, ne_eqb, eqb-false}
use Rattle.std.specs.Prelude.{Ok, Err}
use Rattle.answers.specs.Answers.{number}
use Rattle.answers.proofs.Laws.Numbers.{number-not_0}
use Rattle.sets.specs.Sets.{has}
use Rattle.sets.proofs.Laws.Bools.{eq_or_ne}
use Rattle.state.specs.declared.State.{State}
use Rattle.state.specs.declared.Group.{Group}
use Rattle.state.specs.States.{rank_at, zero_rank}
use Rattle.text.specs.Text.{Wrote}
use Rattle.text.specs.Pages.{Puts, Lines}
use Rattle.text.specs.declared.Page.{Page}
use Rattle.text.proofs.Laws.Writing.{puts_nothing, wrote_kept}
use Rattle.text.proofs.Laws.Lines.{length-lines}
use Rattle.state.specs.declared.Refused.{Refused}
use Rattle.playing.specs.Playing.{Run}
use Rattle.schedule.specs.Runs.{run, told}
use Rattle.schedule.proofs.Laws.Ending.{run-ended}
use Rattle.lines.specs.Lines.{refused_line}
use Rattle.lines.proofs.Laws.Lines.{length-refused}
use Rattle.pictures.specs.Pictures.{picture, picture_room}
use Rattle.pictures.proofs.Laws.Room.{length_any, length-picture}
use Rattle.drawing.specs.Drawings.{rank_picture, rank_pictures, drawing_of, drawing, rank_room, drawing_room}

-- ---- one picture

pub rank_dead : (page : Page) (n dead i marks : ℕ) (b : Bool) → b ≡ has dead i → b ≡ true → Puts page (rank_picture n dead i marks) page
unfolding rank_picture
rank_dead page n dead i marks b e t = rw (sym e ∙ t) (puts_nothing page)

pub rank-living : (page q : Page) (n dead i marks : ℕ) (b : Bool) → b ≡ has dead i → b ≡ false → Puts page (picture n marks) q → Puts page (rank_picture n dead i marks) q
unfolding rank_picture
rank-living page q n dead i marks b e f w = rw (sym e ∙ f) w

pub length_rank_any : (n dead i marks : ℕ) → length (rank_picture n dead i marks) ≤ 24 + 50 * n
unfolding rank_picture
length_rank_any n dead i marks = go (has dead i)
  where
    go : (b : Bool) → length (cond b [] (picture n marks)) ≤ 24 + 50 * n
    go true = omega arith
    go false = length_any n marks

abbrev pub pictures_of : Group → Lines
pictures_of g = record {
  line = λ i. rank_picture g.n g.dead i (get_or g.ranks i zero_rank).marks;
  most = rank_room g.n;
  short = λ i. omega (arith, length_rank_any g.n g.dead i (get_or g.ranks i zero_rank).marks);
}

pub room_pictures : (at size n : ℕ) → n ≤ 64 → at + drawing_room ≤ size → at + n * rank_room n ≤ size
room_pictures at size n l r = let z : n - 64 ≡ 0 = omega arith in rw z (omega arith)

pub length-rank : (n dead i marks : ℕ) → n ≤ 64 → length (rank_picture n dead i marks) ≤ picture_room
unfolding rank_picture
length-rank n dead i marks l = go (has dead i)
  where
    go : (b : Bool) → length (cond b [] (picture n marks)) ≤ picture_room
    go true = omega arith
    go false = length-picture n marks l

-- ---- all pictures

length-ranks : (s : State) → s.group.n ≤ 64 → length (rank_pictures s) ≤ drawing_room
unfolding rank_pictures
length-ranks s l =
    omega (
      arith,
      length-lines (λ i. rank_picture s.group.n s.group.dead i (rank_at s i).marks) picture_room s.group.n (λ i. length-rank s.group.n s.group.dead i (rank_at s i).marks l),
      mul-le-mul_right picture_room l,
    )

-- ---- the report along its code

pub drawing-refused : (file out : List ℕ) (a : ℕ) (text t : List ℕ) (next : ℕ) → a ≡ (run file out).answer → (a ≡ 0 → ⊥) → Wrote text 0 (refused_line a) t next → Wrote text 0 (drawing file out) t next
unfolding drawing drawing_of
drawing-refused file out a text t next e d w = rw (sym e, ne_eqb a 0 d) w

pub drawing_drawn : (file out : List ℕ) (a : ℕ) (s : State) (text t : List ℕ) (next : ℕ) → a ≡ (run file out).answer → s ≡ (run file out).state → a ≡ 0 → Wrote text 0 (rank_pictures s) t next → Wrote text 0 (drawing file out) t next
unfolding drawing drawing_of
drawing_drawn file out a s text t next ea es z w = rw (sym ea ∙ z) (subst (λ (x : State). Wrote text 0 (rank_pictures x) t next) es w)

-- the two answers of a run
pub drawing_told : (file out : List ℕ) (r : Refused) (answers text t : List ℕ) (next : ℕ) → told (Err r) answers ≡ run file out → Wrote text 0 (refused_line (number r.refusal)) t next → Wrote text 0 (drawing file out) t next
drawing_told file out r answers text t next e w = drawing-refused file out (number r.refusal) text t next (ap (λ (x : Run). x.answer) e) (eqb-false (number r.refusal) 0 (number-not_0 r.refusal)) w

pub drawn_told : (file out : List ℕ) (s : State) (answers text t : List ℕ) (next : ℕ) → told (Ok s) answers ≡ run file out → Wrote text 0 (rank_pictures s) t next → Wrote text 0 (drawing file out) t next
drawn_told file out s answers text t next e w = drawing_drawn file out 0 s text t next (ap (λ (x : Run). x.answer) e) (ap (λ (x : Run). x.state) e) refl w

-- A drawing fits the buffer that it asks for.
drawing_short : (file out : List ℕ) → length (drawing file out) ≤ drawing_room
unfolding drawing drawing_of
drawing_short file out = ⊎_elim accepted refused (eq_or_ne (run file out).answer 0)
  where
    accepted : (run file out).answer ≡ 0 → length (drawing file out) ≤ drawing_room
    accepted z =
        let e = run-ended file out (run file out).answer (run file out).state (run file out).answers refl refl refl z in
        rw (eq-eqb (run file out).answer 0 z) (length-ranks (run file out).state e.size)

    refused : ((run file out).answer ≡ 0 → ⊥) → length (drawing file out) ≤ drawing_room
    refused d = rw (ne_eqb (run file out).answer 0 d) (let l : length (refused_line (run file out).answer) ≤ drawing_room = omega (arith, length-refused (run file out).answer) in l)

pub drawing_fits : (file out text t : List ℕ) (next : ℕ) → Wrote text 0 (drawing file out) t next → drawing_room ≤ length text → next ≤ length t
drawing_fits file out text t next w r = omega (arith, drawing_short file out, w.next_is, wrote_kept w)
