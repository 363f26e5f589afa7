-- Of any step that marks: where it shows one rank more, and the table that is fresh then, the order is no matter. Assumes nothing.
use mathlib.Core.Path.{◌≡◌, refl, sym, ap, subst, ◌∙◌}
use mathlib.Core.Bool.{true}
use mathlib.Core.List.{List, [], ◌∷◌, foldl}
use mathlib.Core.Logic.{⊎_elim}
use Prim.Native.Nat.{ℕ, ◌<◌}
use native.Mathlib.Omega.{arith}
use lib.Dec.{eqb}
use borrow.Author.Tests.{eq-eqb, eqb-true}
use Rattle.sets.specs.Sets.{has, add, union}
use Rattle.sets.proofs.Laws.Bools.{or_l, or_r, or_cases}
use Rattle.sets.proofs.Laws.Members.{has-add, add_swap, add_twice}
use Rattle.tree.specs.Tree.{fresh}
use Rattle.news.specs.News.{Held, Same, Shows, Inside, HeldInOrder, is_in, MembersAre, InAnyOrder}
use Rattle.news.proofs.Lists.{added-set}

-- what shows the same marks is the same
pub same-shown : (anc : ℕ → ℕ) (n marks : ℕ) (v w : Held) → Shows anc n marks v → Shows anc n marks w → Same v w
same-shown anc n marks v w x y = (x.0 ∙ sym y.0, x.1 ∙ sym y.1)

-- with one rank of the group more it is still in order
still-inside : (anc : ℕ → ℕ) (n marks q : ℕ) (v : Held) → q < n → Inside n marks → Shows anc n (add marks q) v → Inside n v.marks
still-inside anc n marks q v l i s k h =
    ⊎_elim (i k) (λ (e : eqb k q ≡ true). let f : k ≡ q = eqb-true k q e in omega arith)
    (or_cases (has marks k) (eqb k q) (sym (has-add marks q k) ∙ ap (λ (w : ℕ). has w k) (sym s.0) ∙ h))

pub next_in_order : (anc : ℕ → ℕ) (n q : ℕ) (u v : Held) → q < n → HeldInOrder anc n u → Shows anc n (add u.marks q) v → HeldInOrder anc n v
next_in_order anc n q u v l i s = record {
  size = i.size;
  inside = still-inside anc n u.marks q v l i.inside s;
  table_is = s.1 ∙ ap (fresh anc n) (sym s.0);
}

-- the first of a list is in it, and so is who is in the rest
first_in : (q : ℕ) (l : List ℕ) → is_in q (q ∷ l) ≡ true
unfolding is_in
first_in q l = or_l (eqb q q) (is_in q l) (eq-eqb q q refl)

later_in : (k q : ℕ) (l : List ℕ) → is_in k l ≡ true → is_in k (q ∷ l) ≡ true
unfolding is_in
later_in k q l h = or_r (eqb k q) (is_in k l) h

module _ (anc : ℕ → ℕ) (n : ℕ) {A : Type 0} (step : A → ℕ → A) (held : A → Held) where
  -- where a step shows one rank of the group more as long as all is in order: a list, and a set
  list-shown : ((x : A) (q : ℕ) → HeldInOrder anc n (held x) → q < n → Shows anc n (add (held x).marks q) (held (step x q)))
      → (l : List ℕ) (x : A) → HeldInOrder anc n (held x) → ((k : ℕ) → is_in k l ≡ true → k < n) → Shows anc n (foldl add (held x).marks l) (held (foldl step x l))
  list-shown shows [] x i h = (refl, i.table_is)
  list-shown shows (q ∷ l) x i h =
      let b : q < n = h q (first_in q l) in
      let s : Shows anc n (add (held x).marks q) (held (step x q)) = shows x q i b in
      subst (λ (w : ℕ). Shows anc n (foldl add w l) (held (foldl step (step x q) l))) s.0
      (list-shown shows l (step x q) (next_in_order anc n q (held x) (held (step x q)) b i s) (λ k t. h k (later_in k q l t)))

  pub set-shown : ((x : A) (q : ℕ) → HeldInOrder anc n (held x) → q < n → Shows anc n (add (held x).marks q) (held (step x q)))
      → (x : A) → HeldInOrder anc n (held x) → (set : ℕ) → Inside n set → (l : List ℕ) → MembersAre l set → Shows anc n (union (held x).marks set) (held (foldl step x l))
  set-shown shows x i set h l m =
      subst (λ (w : ℕ). Shows anc n w (held (foldl step x l))) (added-set (held x).marks set l m)
      (list-shown shows l x i (λ k t. h k (sym (m k) ∙ t)))

  -- where it shows one rank more whatever is held: all three claims
  module _ (shows : (x : A) (q : ℕ) → Shows anc n (add (held x).marks q) (held (step x q))) where
    twice : (x : A) (a b : ℕ) → Shows anc n (add (add (held x).marks a) b) (held (step (step x a) b))
    twice x a b = subst (λ (w : ℕ). Shows anc n (add w b) (held (step (step x a) b))) (shows x a).0 (shows (step x a) b)

    pub in_any_order : InAnyOrder anc n step held
    in_any_order = record {
      swapped = λ x a b. same-shown anc n (add (add (held x).marks b) a) (held (step (step x a) b)) (held (step (step x b) a))
          (subst (λ (w : ℕ). Shows anc n w (held (step (step x a) b))) (add_swap (held x).marks a b) (twice x a b)) (twice x b a);
      again = λ x q. same-shown anc n (add (held x).marks q) (held (step (step x q) q)) (held (step x q))
          (subst (λ (w : ℕ). Shows anc n w (held (step (step x q) q))) (add_twice (held x).marks q) (twice x q q)) (shows x q);
      together = set-shown (λ x q i l. shows x q);
    }
