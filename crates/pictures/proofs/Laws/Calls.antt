-- The calls along their code. Assumes nothing.
use mathlib.Core.Path.{◌≡◌, refl, sym, ap, ◌∙◌}
use mathlib.Core.Bool.{Bool, true, false, cond, not, ◌||◌}
use mathlib.Core.List.{List, ◌++◌}
use mathlib.Core.Logic.{⊎_elim}
use Prim.Native.Nat.{ℕ, ◌^◌, ◌≤◌, ◌<◌}
use native.Mathlib.Omega.{arith}
use lib.Dec.{eqb, ltb}
use lib.Pointwise.{pointwise}
use Rattle.std.specs.Prelude.{None, Some, Result, Ok, Err}
use Rattle.std.proofs.lemmas.Bool.Decides.{Decides-eqb}
use Rattle.std.proofs.lemmas.Slice.Eq.{slice_eq-Decides}
use lib.ListN.{length, take, drop}
use lib.Seq.{length-take-le}
use borrow.Author.Tests.{lt-ltb, le-ltb, ltb-true, ltb-false, eq-eqb, ne_eqb, eqb-true, eqb-false, not-false}
use Rattle.sets.specs.Sets.{none, found, has, minus, below}
use Rattle.sets.proofs.Laws.Bools.{clash, fails, passes_or_fails, or-none, or_neither, not_o}
use Rattle.sets.proofs.Laws.Found.{nobody_found, is_found}
use Rattle.sets.proofs.Laws.Members.{has-zero, has-below-lt, has_below_ge, minus_i, minus_l, minus_r, none_in, high_lt}
use Rattle.tree.specs.Calls.{wrong_size}
use Rattle.tree.proofs.Laws.Calls.{size-le, size_right}
use Rattle.answers.specs.declared.Refusal.{Refusal}
use Rattle.answers.specs.Answers.{number}
use Rattle.answers.proofs.Laws.Numbers.{number-one_to_one, number-not_0}
use Rattle.text.specs.Text.{Wrote, pasted}
use Rattle.text.proofs.Laws.Writing.{wrote_kept, wrote_taken, pasted_whole}
use Rattle.proposing.specs.Proposing.{size_in, marks_in}
use Rattle.pictures.specs.Pictures.{picture, picture_room}
use Rattle.pictures.specs.Writing.{wrong_marks, Written, written, Outcome, reply, refused_writing, accepted_writing, room_for, writing}
use Rattle.pictures.specs.declared.View.{View}
use Rattle.pictures.specs.Reading.{IsView, Viewed, viewed, Reads, a_picture, not_a_picture}
use Rattle.pictures.proofs.Laws.Room.{length-picture}
use Rattle.pictures.proofs.Laws.Proposals.{size_proposed, marks_proposed}

-- ---- marks

pub marks_wrong : (n marks group a b : ℕ) → group ≡ below n → a ≡ minus marks group → b ≡ minus group marks → not (eqb a 0) || eqb b 0 ≡ wrong_marks n marks
unfolding wrong_marks
marks_wrong n marks group a b e f g = rw (f, g, e)

-- Marks that lie within the group are below its power of two.
marks_within : (n marks : ℕ) → wrong_marks n marks ≡ false → marks < 2 ^ n
unfolding wrong_marks
marks_within n marks e = high_lt marks n out
  where
    none_out : minus marks (below n) ≡ 0
    none_out = eqb-true (minus marks (below n)) 0 (not-false (eqb (minus marks (below n)) 0) (or_neither (not (eqb (minus marks (below n)) 0)) (eqb (minus (below n) marks) 0) e).0)

    out : (k : ℕ) → n ≤ k → has marks k ≡ false
    out k l = fails (has marks k) (λ t. clash (has (minus marks (below n)) k) (minus_i marks (below n) k t (has_below_ge n k l)) (ap (λ (w : ℕ). has w k) none_out ∙ has-zero k))

-- A rank of the group that marks within the group leave out makes them a view.
pub is_view : (n marks i : ℕ) → 0 < n → n ≤ 64 → i < n → ((k : ℕ) → has marks k ≡ true → k < n) → has marks i ≡ false → IsView n marks
unfolding wrong_marks
is_view n marks i pos small l inside free = record {
  sized = size_right n pos small;
  leaves = or-none (not (eqb (minus marks (below n)) 0)) (eqb (minus (below n) marks) 0) (not_o (eqb (minus marks (below n)) 0) (eq-eqb (minus marks (below n)) 0 none_out)) (ne_eqb (minus (below n) marks) 0 left);
}
  where
    none_out : minus marks (below n) ≡ 0
    none_out = none_in (minus marks (below n)) (λ k t. clash (has (below n) k) (has-below-lt n k (inside k (minus_l marks (below n) k t))) (minus_r marks (below n) k t))

    left : minus (below n) marks ≡ 0 → ⊥
    left z = clash (has (minus (below n) marks) i) (minus_i (below n) marks i (has-below-lt n i l) free) (ap (λ (w : ℕ). has w i) z ∙ has-zero i)

-- ---- the picture in a local buffer

pub picture_fits : (n marks : ℕ) (l t : List ℕ) (a : ℕ) → n ≤ 64 → picture_room ≤ length l → Wrote l 0 (picture n marks) t a → a ≤ length t
picture_fits n marks l t a b r w = omega (arith, w.next_is, wrote_kept w, length-picture n marks b)

pub picture-length : (n marks : ℕ) (l t : List ℕ) (a : ℕ) → n ≤ 64 → picture_room ≤ length l → Wrote l 0 (picture n marks) t a → a ≡ length (take a t)
picture-length n marks l t a b r w = sym (length-take-le a t (picture_fits n marks l t a b r w))

picture_taken : (n marks : ℕ) (l t : List ℕ) (a : ℕ) → n ≤ 64 → picture_room ≤ length l → Wrote l 0 (picture n marks) t a → take a t ≡ picture n marks
picture_taken n marks l t a b r w = wrote_taken w (omega (arith, length-picture n marks b))

-- ---- write

pub write-size : (n marks : ℕ) (text : List ℕ) (b : Bool) → b ≡ wrong_size n → b ≡ true → reply (record { answer = 1; length = 0 }) text ≡ writing n marks text
unfolding writing refused_writing
write-size n marks text b e t = rw (sym e ∙ t)

pub write-marks : (n marks : ℕ) (text : List ℕ) (b c : Bool) → b ≡ wrong_size n → b ≡ false → c ≡ wrong_marks n marks → c ≡ true → reply (record { answer = 2; length = 0 }) text ≡ writing n marks text
unfolding writing refused_writing
write-marks n marks text b c e t f u = rw (sym e ∙ t, sym f ∙ u)

pub write-fit : (n marks : ℕ) (text : List ℕ) (b c : Bool) (r : Written) (u : List ℕ) → b ≡ wrong_size n → b ≡ false → c ≡ wrong_marks n marks → c ≡ false → reply r u ≡ room_for (picture n marks) text → reply r u ≡ writing n marks text
unfolding writing
write-fit n marks text b c r u e t f v g = rw (sym e ∙ t, sym f ∙ v) g

pub fit-not : (n marks : ℕ) (text l t : List ℕ) (a : ℕ) → Wrote l 0 (picture n marks) t a → length text < a → reply (record { answer = 30; length = 0 }) text ≡ room_for (picture n marks) text
unfolding room_for refused_writing
fit-not n marks text l t a w s = rw (lt-ltb (length text) (length (picture n marks)) (omega (arith, w.next_is)))

pub fit_all : (n marks : ℕ) (text l t : List ℕ) (a : ℕ) (new : List ℕ) → n ≤ 64 → picture_room ≤ length l → Wrote l 0 (picture n marks) t a → a ≤ length text → new ≡ take a t
    → ◌≡◌ {A = Outcome} (record { answer = 0; length = a; text = new ++ drop a text }) (room_for (picture n marks) text)
unfolding room_for accepted_writing
fit_all n marks text l t a new b r w s v =
    let z : a ≡ length (picture n marks) = omega (arith, w.next_is) in
    let u : new ++ drop a text ≡ pasted text 0 (picture n marks) = rw (v, picture_taken n marks l t a b r w, w.next_is) (sym (pasted_whole text 0 (picture n marks) (omega arith))) in
    rw (le-ltb (length text) (length (picture n marks)) (omega arith), u, z)

-- What is written, by cases.
pub data OutcomeIs (n marks : ℕ) (text : List ℕ) : Outcome → Type 0 where
  size_is_bad : wrong_size n ≡ true → OutcomeIs n marks text (refused_writing 1 text)
  bad_marks : wrong_size n ≡ false → wrong_marks n marks ≡ true → OutcomeIs n marks text (refused_writing 2 text)
  without_room : IsView n marks → length text < length (picture n marks) → OutcomeIs n marks text (refused_writing 30 text)
  whole : IsView n marks → length (picture n marks) ≤ length text → OutcomeIs n marks text (accepted_writing (picture n marks) text)

pub writing-cases : (n marks : ℕ) (text : List ℕ) → OutcomeIs n marks text (writing n marks text)
unfolding writing room_for
writing-cases n marks text = go (wrong_size n) refl (wrong_marks n marks) refl (ltb (length text) (length (picture n marks))) refl
  where
    go : (b : Bool) → wrong_size n ≡ b → (c : Bool) → wrong_marks n marks ≡ c → (d : Bool) → ltb (length text) (length (picture n marks)) ≡ d
        → OutcomeIs n marks text (cond b (refused_writing 1 text) (cond c (refused_writing 2 text) (cond d (refused_writing 30 text) (accepted_writing (picture n marks) text))))
    go true e c f d g = size_is_bad e
    go false e true f d g = bad_marks e f
    go false e false f true g = without_room (record { sized = e; leaves = f }) (ltb-true (length text) (length (picture n marks)) g)
    go false e false f false g = whole (record { sized = e; leaves = f }) (ltb-false (length text) (length (picture n marks)) g)

-- An accepted write is of a view, and the picture stands at the buffer's start.
written_is : (n marks : ℕ) (text : List ℕ) (w : Outcome) → OutcomeIs n marks text w → w.answer ≡ 0 → IsView n marks × (take w.length w.text ≡ picture n marks)
unfolding refused_writing accepted_writing
written_is n marks text w (size_is_bad e) z = absurd (omega arith)
written_is n marks text w (bad_marks e f) z = absurd (omega arith)
written_is n marks text w (without_room v l) z = absurd (omega arith)
written_is n marks text w (whole v l) z =
    let p : Wrote text 0 (picture n marks) (pasted text 0 (picture n marks)) (length (picture n marks)) = record { text_is = refl; next_is = omega arith } in
    (v, wrote_taken p l)

pub accepted-writing : (n marks : ℕ) (text : List ℕ) → (writing n marks text).answer ≡ 0 → IsView n marks × (take (writing n marks text).length (writing n marks text).text ≡ picture n marks)
accepted-writing n marks text z = written_is n marks text (writing n marks text) (writing-cases n marks text) z

-- A view is written where there is room.
pub written-view : (n marks : ℕ) (text : List ℕ) (w : Outcome) → OutcomeIs n marks text w → IsView n marks → length (picture n marks) ≤ length text → w.answer ≡ 0
unfolding refused_writing accepted_writing
written-view n marks text w (size_is_bad e) v l = absurd (clash (wrong_size n) e v.sized)
written-view n marks text w (bad_marks e f) v l = absurd (clash (wrong_marks n marks) f v.leaves)
written-view n marks text w (without_room v m) u l = absurd (omega arith)
written-view n marks text w (whole v m) u l = refl

-- ---- read

-- The proposal is the only view whose picture the text can be.
only-view : (text : List ℕ) (n marks : ℕ) → IsView n marks → text ≡ picture n marks → (size_in text ≡ n) × (marks_in text (size_in text) ≡ marks)
only-view text n marks v e =
    let b : n ≤ 64 = size-le n false (sym v.sized) refl in
    let s : size_in text ≡ n = ap size_in e ∙ size_proposed n marks b in
    (s, rw (s, e) (marks_proposed n marks b (marks_within n marks v.leaves)))

-- Two views with the same picture are the same view, and so two readings of a text are the same.
pub same_view_lem : (text : List ℕ) (n marks k others : ℕ) → IsView n marks → IsView k others → text ≡ picture n marks → text ≡ picture k others → (n ≡ k) × (marks ≡ others)
same_view_lem text n marks k others v w e f =
    let a = only-view text n marks v e in
    let b = only-view text k others w f in
    (sym a.0 ∙ b.0, sym a.1 ∙ b.1)

pub reads_alike : {text : List ℕ} {r s : Viewed} → Reads text r → Reads text s → r ≡ s
reads_alike {text} (a_picture n marks v e) (a_picture k others w f) = let h = same_view_lem text n marks k others v w e f in rw (h.0, h.1)
reads_alike (a_picture n marks v e) (not_a_picture h) = absurd (h n marks v e)
reads_alike (not_a_picture h) (a_picture n marks v e) = absurd (h n marks v e)
reads_alike (not_a_picture h) (not_a_picture i) = refl

-- So a text is no picture where the proposal is no view, or its picture another text.
unread : (text : List ℕ) → ((n marks : ℕ) → IsView n marks → text ≡ picture n marks → ⊥) → Reads text (record { answer = 31; n = 0; marks = 0 })
unread text h = not_a_picture h

pub read-size : (text : List ℕ) (n : ℕ) (b : Bool) → n ≡ size_in text → b ≡ wrong_size n → b ≡ true → Reads text (record { answer = 31; n = 0; marks = 0 })
read-size text n b e f t =
    unread text (λ k m v p. clash (wrong_size n) (sym f ∙ t) (ap wrong_size (e ∙ (only-view text k m v p).0) ∙ v.sized))

-- no size stands there, and none is a bad one
none_is_bad : wrong_size none ≡ true
none_is_bad = ⊎_elim (λ (t : wrong_size none ≡ true). t) (λ (f : wrong_size none ≡ false). absurd (let l = size-le none (wrong_size none) refl f in omega arith)) (passes_or_fails (wrong_size none))

pub read_unsized : (text : List ℕ) → None ≡ found (size_in text) → Reads text (record { answer = 31; n = 0; marks = 0 })
read_unsized text e = read-size text none true (sym (nobody_found (size_in text) e)) (sym none_is_bad) refl

-- the size that was found
pub sized : (text : List ℕ) (n : ℕ) → Some n ≡ found (size_in text) → n ≡ size_in text
sized text n e = (is_found (size_in text) n e).0

pub read-marks : (text : List ℕ) (n marks : ℕ) (c : Bool) → n ≡ size_in text → marks ≡ marks_in text n → c ≡ wrong_marks n marks → c ≡ true → Reads text (record { answer = 31; n = 0; marks = 0 })
read-marks text n marks c e g f t =
    unread text (λ k m v p.
    let o = only-view text k m v p in
    let s : marks ≡ m = g ∙ (ap (marks_in text) e ∙ o.1) in
    clash (wrong_marks n marks) (sym f ∙ t) (rw (e ∙ o.0, s) v.leaves))

pub read-other : (text : List ℕ) (n marks : ℕ) (d : Bool) → n ≡ size_in text → marks ≡ marks_in text n → (text ≡ picture n marks → d ≡ true) → d ≡ false → Reads text (record { answer = 31; n = 0; marks = 0 })
read-other text n marks d e g f t =
    unread text (λ k m v p.
    let o = only-view text k m v p in
    let s : marks ≡ m = g ∙ (ap (marks_in text) e ∙ o.1) in
    clash d (f (rw (e ∙ o.0, s) p)) t)

pub read_view : (text : List ℕ) (n marks : ℕ) (b c d : Bool) → b ≡ wrong_size n → b ≡ false → c ≡ wrong_marks n marks → c ≡ false → (d ≡ true → text ≡ picture n marks) → d ≡ true → Reads text (record { answer = 0; n = n; marks = marks })
read_view text n marks b c d e t f u p s = a_picture n marks (record { sized = sym e ∙ t; leaves = sym f ∙ u }) (p s)

-- ---- answers

not_0 : (r : Refusal) → number r ≡ 0 → ⊥
not_0 r = eqb-false (number r) 0 (number-not_0 r)

-- Two results that answer alike are the same.
pub written_alike : (t u : Result ℕ Refusal) → written t ≡ written u → t ≡ u
written_alike (Ok a) (Ok b) e = ap (λ (w : Written). Ok w.length) e
written_alike (Ok a) (Err r) e = absurd (not_0 r (sym (ap (λ (w : Written). w.answer) e)))
written_alike (Err r) (Ok a) e = absurd (not_0 r (ap (λ (w : Written). w.answer) e))
written_alike (Err r) (Err s) e = ap Err (number-one_to_one r s (ap (λ (w : Written). w.answer) e))

pub viewed_alike : (t u : Result View Refusal) → viewed t ≡ viewed u → t ≡ u
viewed_alike (Ok a) (Ok b) e = ap (λ (w : Viewed). Ok (record { n = w.n; marks = w.marks })) e
viewed_alike (Ok a) (Err r) e = absurd (not_0 r (sym (ap (λ (w : Viewed). w.answer) e)))
viewed_alike (Err r) (Ok a) e = absurd (not_0 r (ap (λ (w : Viewed). w.answer) e))
viewed_alike (Err r) (Err s) e = ap Err (number-one_to_one r s (ap (λ (w : Viewed). w.answer) e))

-- ---- a text is the picture, along its code

pub same_picture : (text : List ℕ) (n marks : ℕ) (l t : List ℕ) (a : ℕ) (d : Bool) → n ≤ 64 → picture_room ≤ length l → Wrote l 0 (picture n marks) t a → d ≡ pointwise eqb text (take a t)
    → (d ≡ true → text ≡ picture n marks) × (text ≡ picture n marks → d ≡ true)
same_picture text n marks l t a d b r w e =
    let p = picture_taken n marks l t a b r w in
    let h = slice_eq-Decides Decides-eqb text (take a t) d e in
    (λ z. h.0 z ∙ p, λ z. h.1 (z ∙ sym p))
