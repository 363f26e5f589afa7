-- Who had q for a parent has, once q is marked, q's own parent; where q had none, the lowest unmarked rank below. Over any ancestor sets that
-- form a chain. Assumes nothing.
use mathlib.Core.Path.{◌≡◌, refl, sym, subst, ◌∙◌}
use mathlib.Core.Bool.{cond, not}
use mathlib.Core.Logic.{⊎_elim}
use Prim.Native.Nat.{ℕ, ◌≤◌, ◌<◌}
use native.Mathlib.Omega.{arith}
use lib.Dec.{ltb}
use borrow.Author.Tests.{lt-ltb, le-ltb, not-true, not-false}
use Rattle.sets.specs.Sets.{none, has, add, minus, below, smallest}
use Rattle.sets.proofs.Laws.Bools.{clash, lt-or-le, eq_or_ne, cond_true, cond_false}
use Rattle.sets.proofs.Laws.Members.{has-add-same, has-add-other, has_add_more}
use Rattle.sets.proofs.Laws.Searches.{LeastOf, least}
use Rattle.tree.specs.Tree.{parent}
use Rattle.tree.specs.Relations.{Above, Ancestry, Chained}
use Rattle.tree.proofs.Laws.Parents.{Marked, Free, Parent, nearest, lowest, nobody, parent-cases, parent_is, no_parent, no_parent_all}
use Rattle.tree.proofs.Laws.Finding.{low-cases}

-- an ancestor of p that is above q, or q, is marked after the mark; of one below q it is to be shown
passed : (anc : ℕ → ℕ) (marks q p k : ℕ) → (q < k → Marked marks k) → (k < q → Marked marks k) → Marked (add marks q) k
passed anc marks q p k over under =
    ⊎_elim (λ (e : k ≡ q). subst (λ (x : ℕ). Marked (add marks q) x) (sym e) (has-add-same marks q))
    (λ (d : k ≡ q → ⊥). has_add_more marks q k (⊎_elim under (λ (l : q ≤ k). over (omega arith)) (lt-or-le k q)))
    (eq_or_ne k q)

-- q had a parent
pub parent_passes : (anc : ℕ → ℕ) → Ancestry anc → Chained anc → (marks q p : ℕ) → q < none → parent anc marks p ≡ q → (parent anc marks q ≡ none → ⊥) → parent anc (add marks q) p ≡ parent anc marks q
parent_passes anc tree chain marks q p s e h = by_p (parent anc marks p) (parent-cases anc marks p) e
  where
    by_q : (r : ℕ) → Parent anc marks q r → (r ≡ none → ⊥) → q < p → Above anc p q → ((k : ℕ) → q < k → k < p → Above anc p k → Marked marks k) → parent anc (add marks q) p ≡ r
    by_q r (nearest l u f b) d o a over =
        parent_is anc (add marks q) p r
        (nearest (omega arith) (tree.through p q r a u) (has-add-other marks q r (λ x. omega arith) ∙ f)
        (λ k c t w. passed anc marks q p k (λ x. over k x t w) (λ x. b k c x (chain p k q w a x))))
    by_q r (lowest l f b u) d o a over =
        parent_is anc (add marks q) p r
        (lowest (omega arith) (has-add-other marks q r (λ x. omega arith) ∙ f) (λ k c. has_add_more marks q k (b k c))
        (λ k t w. passed anc marks q p k (λ x. over k x t w) (λ x. u k x (chain p k q w a x))))
    by_q r (nobody b) d o a over = absurd (d refl)

    by_p : (r : ℕ) → Parent anc marks p r → r ≡ q → parent anc (add marks q) p ≡ parent anc marks q
    by_p r (nearest l u f b) i = by_q (parent anc marks q) (parent-cases anc marks q) h (omega arith) (subst (λ (x : ℕ). Above anc p x) i u) (λ k c t w. b k (omega arith) t w)
    by_p r (lowest l f b u) i = absurd (h (no_parent anc marks q (λ k c. b k (omega arith))))
    by_p r (nobody b) i = absurd (omega arith)

-- whose ancestors are all marked has the lowest unmarked rank of all, or none where that is not below it
pub orphan_passes : (anc : ℕ → ℕ) (marks p low : ℕ) → p < 64 → ((k : ℕ) → k < p → Above anc p k → Marked marks k) → low ≡ smallest (has (minus (below 64) marks)) 64 none → parent anc marks p ≡ cond (ltb low p) low none
orphan_passes anc marks p low l above e = go low (low-cases marks 64 64 (below 64) (minus (below 64) marks) low (omega arith) refl refl e)
  where
    go : (r : ℕ) → LeastOf (λ k. not (has marks k)) 64 none r → parent anc marks p ≡ cond (ltb r p) r none
    go r (least x) = ⊎_elim
        (λ (b : r < p). parent_is anc marks p r (lowest b (not-true (has marks r) x.passes) (λ k c. not-false (has marks k) (x.first k c)) above) ∙ sym (cond_true (ltb r p) r none (lt-ltb r p b)))
        (λ (b : p ≤ r). no_parent anc marks p (λ k c. not-false (has marks k) (x.first k (omega arith))) ∙ sym (cond_false (ltb r p) r none (le-ltb r p b)))
        (lt-or-le r p)
    go r (LeastOf.empty x) = no_parent anc marks p (λ k c. not-false (has marks k) (x k (omega arith))) ∙ sym (cond_false (ltb none p) none none (le-ltb none p (omega arith)))

-- an ancestor above one's parent is marked
pub over_marked : (anc : ℕ → ℕ) (marks q p : ℕ) → parent anc marks p ≡ q → (k : ℕ) → k < p → Above anc p k → q < k → Marked marks k
over_marked anc marks q p e = go (parent anc marks p) (parent-cases anc marks p) e
  where
    go : (r : ℕ) → Parent anc marks p r → r ≡ q → (k : ℕ) → k < p → Above anc p k → q < k → Marked marks k
    go r (nearest c u f b) i k t w x = b k (omega arith) t w
    go r (lowest c f b u) i k t w x = u k t w
    go r (nobody b) i k t w x = b k t

-- q had none
pub root_passes : (anc : ℕ → ℕ) (marks q p low : ℕ) → p < 64 → q < none → parent anc marks p ≡ q → parent anc marks q ≡ none → low ≡ smallest (has (minus (below 64) (add marks q))) 64 none → parent anc (add marks q) p ≡ cond (ltb low p) low none
root_passes anc marks q p low l s e h =
    orphan_passes anc (add marks q) p low l (λ k t w. passed anc marks q p k (over_marked anc marks q p e k t w) (λ x. no_parent_all anc marks q (omega arith) h k x))

-- All who had q for a parent and are unmarked have one heir: if it is p for one of them, it is p for every other but p itself.
pub one_heir : (anc : ℕ → ℕ) → Ancestry anc → Chained anc → (marks q a b p : ℕ) → a < 64 → b < 64 → q < none → p < none → parent anc marks a ≡ q → parent anc marks b ≡ q → Free (add marks q) b
    → parent anc (add marks q) a ≡ p → (b ≡ p → ⊥) → parent anc (add marks q) b ≡ p
one_heir anc tree chain marks q a b p la lb s l ea eb f e d = ⊎_elim rootless led (eq_or_ne (parent anc marks q) none)
  where
    led : (parent anc marks q ≡ none → ⊥) → parent anc (add marks q) b ≡ p
    led h = parent_passes anc tree chain marks q b s eb h ∙ sym (parent_passes anc tree chain marks q a s ea h) ∙ e

    -- the lowest unmarked rank is below a, so it is p; b is unmarked, so p is below b
    go : (r : ℕ) → LeastOf (λ k. not (has (add marks q) k)) 64 none r → parent anc (add marks q) a ≡ cond (ltb r a) r none → parent anc (add marks q) b ≡ cond (ltb r b) r none → parent anc (add marks q) b ≡ p
    go r (LeastOf.empty x) ua ub = absurd (clash (has (add marks q) b) (not-false (has (add marks q) b) (x b lb)) f)
    go r (least x) ua ub = ⊎_elim below_a past_a (lt-or-le r a)
      where
        past_a : a ≤ r → parent anc (add marks q) b ≡ p
        past_a h = let z : p ≡ none = sym e ∙ ua ∙ cond_false (ltb r a) r none (le-ltb r a h) in absurd (omega arith)

        below_a : r < a → parent anc (add marks q) b ≡ p
        below_a h =
            let i : r ≡ p = sym (cond_true (ltb r a) r none (lt-ltb r a h)) ∙ sym ua ∙ e in
            let o : b < r → ⊥ = λ c. clash (has (add marks q) b) (not-false (has (add marks q) b) (x.first b c)) f in
            let c : r < b = ⊎_elim (λ (c : r < b). c) (λ (c : b ≤ r). absurd (o (omega arith))) (lt-or-le r b) in
            ub ∙ cond_true (ltb r b) r none (lt-ltb r b c) ∙ i

    rootless : parent anc marks q ≡ none → parent anc (add marks q) b ≡ p
    rootless h =
        let low : ℕ = smallest (has (minus (below 64) (add marks q))) 64 none in
        go low (low-cases (add marks q) 64 64 (below 64) (minus (below 64) (add marks q)) low (omega arith) refl refl refl) (root_passes anc marks q a low la s ea h refl) (root_passes anc marks q b low lb s eb h refl)
