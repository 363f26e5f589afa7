-- Calls of mark, one after another: an accepted one shows one rank more, a refused one leaves all as it was, and which of the two it is does not
-- hang on the calls before it. Assumes nothing.
use mathlib.Core.Path.{◌≡◌, refl, sym, ap, ap₂, subst, ◌∙◌}
use mathlib.Core.List.{List}
use mathlib.Core.Logic.{◌⊎◌, ⊎_elim}
use mathlib.Core.Bool.{false}
use Prim.Native.Nat.{ℕ, ◌≤◌, ◌<◌}
use Rattle.sets.specs.Sets.{add}
use Rattle.sets.proofs.Laws.Bools.{eq_or_ne}
use Rattle.sets.proofs.Laws.Members.{add_swap, add_twice}
use Rattle.tree.specs.Forms.{nested_form, tree_of}
use Rattle.tree.specs.Calls.{wrong_size}
use Rattle.calls.specs.Calls.{Marked, marked}
use Rattle.tree.proofs.Laws.Calls.{size_pos, size-le, size_right}
use Rattle.calls.proofs.Laws.Marks.{Markable, markable_accepted, accepted_markable, refused_keeps}
use Rattle.news.specs.News.{Held, Same, Shows, HeldInOrder, InAnyOrder, calls, in_marked}
use Rattle.news.proofs.Orders.{same-shown, next_in_order, set-shown}

module _ (form span n : ℕ) (right : (form ≤ nested_form) × (wrong_size span ≡ false)) where
  abbrev anc : ℕ → ℕ
  anc = tree_of form span

  -- a call is accepted; a call is refused
  abbrev Accepts : Marked → ℕ → Type 0
  Accepts x q = (calls form span n x q).answer ≡ 0

  abbrev Refuses : Marked → ℕ → Type 0
  Refuses x q = Accepts x q → ⊥

  -- what is held after two calls
  abbrev ends : Marked → ℕ → ℕ → Held
  ends x a b = in_marked (calls form span n (calls form span n x a) b)

  either : (x : Marked) (q : ℕ) → Accepts x q ⊎ Refuses x q
  either x q = eq_or_ne (calls form span n x q).answer 0

  -- accepted: all is in order, and the rank is of the group
  taken : (x : Marked) (q : ℕ) → Accepts x q → HeldInOrder anc n (in_marked x) × (q < n)
  taken x q e =
      let m = accepted_markable n form span x.marks x.table q e in
      (record { size = (m.shape.some, m.shape.small); inside = m.inside; table_is = m.table_is }, m.rank_in)

  able : (x : Marked) (q : ℕ) → HeldInOrder anc n (in_marked x) → q < n → Markable n form span x.marks x.table q
  able x q i l = record { shape = record { some = i.size.0; small = i.size.1; boxed = size_pos span right.1; box_small = size-le span (wrong_size span) refl right.1; known = right.0 }; inside = i.inside; table_is = i.table_is; rank_in = l }

  accepts : (x : Marked) (q : ℕ) → HeldInOrder anc n (in_marked x) → q < n → Accepts x q
  accepts x q i l = ap (λ (r : Marked). r.answer) (markable_accepted n form span x.marks x.table q (able x q i l))

  shown : (x : Marked) (q : ℕ) → HeldInOrder anc n (in_marked x) → q < n → Shows anc n (add x.marks q) (in_marked (calls form span n x q))
  shown x q i l =
      let e = markable_accepted n form span x.marks x.table q (able x q i l) in
      (ap (λ (r : Marked). r.marks) e, ap (λ (r : Marked). r.table) e)

  next : (x : Marked) (q : ℕ) → HeldInOrder anc n (in_marked x) → q < n → HeldInOrder anc n (in_marked (calls form span n x q))
  next x q i l = next_in_order anc n q (in_marked x) (in_marked (calls form span n x q)) l i (shown x q i l)

  -- refused: the next call is as if this one had not been
  skipped : (x : Marked) (q p : ℕ) → Refuses x q → calls form span n (calls form span n x q) p ≡ calls form span n x p
  skipped x q p d = let k = refused_keeps n form span x.marks x.table q d in ap₂ (λ (m : ℕ) (t : List ℕ). marked n form span m t p) k.0 k.1

  unmoved : (x : Marked) (q : ℕ) → Refuses x q → Same (in_marked x) (in_marked (calls form span n x q))
  unmoved x q d = let k = refused_keeps n form span x.marks x.table q d in (sym k.0, sym k.1)

  -- what is refused is refused after another call too
  refused-after : (x : Marked) (a b : ℕ) → Refuses x a → Refuses (calls form span n x b) a
  refused-after x a b d e =
      ⊎_elim (λ (t : Accepts x b). d (accepts x a (taken x b t).0 (taken (calls form span n x b) a e).1))
      (λ (r : Refuses x b). d (ap (λ (y : Marked). y.answer) (sym (skipped x b a r)) ∙ e))
      (either x b)

  both : (x : Marked) (a b : ℕ) → Accepts x a → Accepts x b → Shows anc n (add (add x.marks a) b) (ends x a b)
  both x a b s t =
      let i = taken x a s in
      subst (λ (w : ℕ). Shows anc n (add w b) (ends x a b)) (shown x a i.0 i.1).0
      (shown (calls form span n x a) b (next x a i.0 i.1) (taken x b t).1)

  -- two calls of which the first is refused
  without : (x : Marked) (a b : ℕ) → Refuses x a → Same (ends x a b) (ends x b a)
  without x a b d =
      subst (λ (y : Marked). Same (in_marked y) (ends x b a)) (sym (skipped x a b d))
      (unmoved (calls form span n x b) a (refused-after x a b d))

  calls-swapped : (x : Marked) (a b : ℕ) → Same (ends x a b) (ends x b a)
  calls-swapped x a b = ⊎_elim first (without x a b) (either x a)
    where
      back : Same (ends x b a) (ends x a b) → Same (ends x a b) (ends x b a)
      back s = (sym s.0, sym s.1)

      agree : Accepts x a → Accepts x b → Same (ends x a b) (ends x b a)
      agree s t =
          same-shown anc n (add (add x.marks b) a) (ends x a b) (ends x b a)
          (subst (λ (w : ℕ). Shows anc n w (ends x a b)) (add_swap x.marks a b) (both x a b s t)) (both x b a t s)

      first : Accepts x a → Same (ends x a b) (ends x b a)
      first s = ⊎_elim (agree s) (λ (d : Refuses x b). back (without x b a d)) (either x b)

  calls-again : (x : Marked) (q : ℕ) → Same (ends x q q) (in_marked (calls form span n x q))
  calls-again x q = ⊎_elim taken_twice refused_twice (either x q)
    where
      taken_twice : Accepts x q → Same (ends x q q) (in_marked (calls form span n x q))
      taken_twice s =
          same-shown anc n (add x.marks q) (ends x q q) (in_marked (calls form span n x q))
          (subst (λ (w : ℕ). Shows anc n w (ends x q q)) (add_twice x.marks q) (both x q q s s))
          (shown x q (taken x q s).0 (taken x q s).1)

      refused_twice : Refuses x q → Same (ends x q q) (in_marked (calls form span n x q))
      refused_twice d = let e = skipped x q q d in (ap (λ (y : Marked). y.marks) e, ap (λ (y : Marked). y.table) e)

  pub calls_any_order : InAnyOrder anc n (calls form span n) in_marked
  calls_any_order = record { swapped = calls-swapped; again = calls-again; together = set-shown anc n (calls form span n) in_marked shown }

  -- Of two ranks that are taken one after the other each is taken first as well as second.
  pub calls-accepted : (x : Marked) (a b : ℕ) → Accepts x a → Accepts (calls form span n x a) b → Accepts x b × Accepts (calls form span n x b) a
  calls-accepted x a b s t =
      let i = taken x a s in
      let l : b < n = (taken (calls form span n x a) b t).1 in
      (accepts x b i.0 l, accepts (calls form span n x b) a (next x b i.0 l) i.1)

-- An accepted call tells that form and box size are right.
pub accepted_right : (form span n : ℕ) (x : Marked) (q : ℕ) → (calls form span n x q).answer ≡ 0 → (form ≤ nested_form) × (wrong_size span ≡ false)
accepted_right form span n x q e =
    let m = accepted_markable n form span x.marks x.table q e in
    (m.shape.known, size_right span m.shape.boxed m.shape.box_small)
