-- What a parent is, over any ancestor sets: the nearest unmarked ancestor, the lowest unmarked rank, or none. Later laws go by
-- these three cases and open no definition. Assumes nothing.
use mathlib.Core.Path.{◌≡◌, refl, ap, subst, ◌∙◌}
use mathlib.Core.Bool.{Bool, true, false, not, ◌&&◌, ◌||◌}
use mathlib.Core.Logic.{◌⊎◌, inl, inr, ⊎_elim}
use Prim.Native.Nat.{ℕ, ◌≤◌, ◌<◌}
use native.Mathlib.Omega.{arith}
use borrow.Author.Tests.{not-true, not-false}
use Rattle.sets.specs.Sets.{none, has, add, union, below, largest, smallest}
use Rattle.sets.proofs.Laws.Bools.{clash, fails, passes, lt-or-le, and_i, and_l, and_r, not_i, not_o, or_l, or_r, or_false_r}
use Rattle.sets.proofs.Laws.Searches.{Nobody, TopOf, LeastOf, top, least, largest-cases, largest_is, largest-none, smallest-cases, smallest_is, smallest-none}
use Rattle.sets.proofs.Laws.Members.{has-add-same, has-add-other, has_add_more, has-union, has-below-lt, has_below_ge}
use Rattle.tree.specs.Tree.{parent}
use Rattle.tree.specs.Relations.{Above, Ancestry}
use Rattle.tree.proofs.Kin.{MayLead}

abbrev pub Marked : ℕ → ℕ → Type 0
Marked marks p = has marks p ≡ true

abbrev pub Free : ℕ → ℕ → Type 0
Free marks p = has marks p ≡ false

pub data Parent (anc : ℕ → ℕ) (marks p : ℕ) : ℕ → Type 0 where
  nearest : {a : ℕ} → a < p → Above anc p a → Free marks a → ((k : ℕ) → a < k → k < p → Above anc p k → Marked marks k) → Parent anc marks p a
  lowest : {a : ℕ} → a < p → Free marks a → ((k : ℕ) → k < a → Marked marks k) → ((k : ℕ) → k < p → Above anc p k → Marked marks k) → Parent anc marks p a
  nobody : ((k : ℕ) → k < p → Marked marks k) → Parent anc marks p none

-- an ancestor that fails the test is marked
test_fails : (anc : ℕ → ℕ) (marks p k : ℕ) → has (anc p) k && not (has marks k) ≡ false → Above anc p k → Marked marks k
test_fails anc marks p k e h = passes (has marks k) (λ f. clash (has (anc p) k && not (has marks k)) (and_i (has (anc p) k) (not (has marks k)) h (not_i (has marks k) f)) e)

test_marked : (anc : ℕ → ℕ) (marks p k : ℕ) → (Above anc p k → Marked marks k) → has (anc p) k && not (has marks k) ≡ false
test_marked anc marks p k h = fails (has (anc p) k && not (has marks k)) (λ t. clash (has marks k) (h (and_l (has (anc p) k) (not (has marks k)) t)) (not-true (has marks k) (and_r (has (anc p) k) (not (has marks k)) t)))

pub parent-cases : (anc : ℕ → ℕ) (marks p : ℕ) → Parent anc marks p (parent anc marks p)
unfolding parent
parent-cases anc marks p = go (largest near p low) (largest-cases near p low)
  where
    near : ℕ → Bool
    near a = has (anc p) a && not (has marks a)

    free : ℕ → Bool
    free a = not (has marks a)

    low : ℕ
    low = smallest free p none

    all : Nobody near p → (k : ℕ) → k < p → Above anc p k → Marked marks k
    all h k l u = test_fails anc marks p k (h k l) u

    under : Nobody near p → (r : ℕ) → LeastOf free p none r → Parent anc marks p r
    under h r (least s) = lowest s.within (not-true (has marks r) s.passes) (λ k l. not-false (has marks k) (s.first k l)) (all h)
    under h r (LeastOf.empty f) = nobody (λ k l. not-false (has marks k) (f k l))

    go : (r : ℕ) → TopOf near p low r → Parent anc marks p r
    go r (top l) = nearest l.within (and_l (has (anc p) r) (not (has marks r)) l.passes) (not-true (has marks r) (and_r (has (anc p) r) (not (has marks r)) l.passes)) (λ k a b u. test_fails anc marks p k (l.last k a b) u)
    go r (TopOf.empty h) = under h low (smallest-cases free p none)

-- there is one parent
pub parent_is : (anc : ℕ → ℕ) (marks p r : ℕ) → Parent anc marks p r → parent anc marks p ≡ r
unfolding parent
parent_is anc marks p r (nearest l u f b) =
    largest_is (λ a. has (anc p) a && not (has marks a)) p (smallest (λ a. not (has marks a)) p none) r
    (record { within = l; passes = and_i (has (anc p) r) (not (has marks r)) u (not_i (has marks r) f); last = λ k a c. test_marked anc marks p k (b k a c) })
parent_is anc marks p r (lowest l f b u) =
    largest-none (λ a. has (anc p) a && not (has marks a)) p (smallest (λ a. not (has marks a)) p none) (λ k c. test_marked anc marks p k (u k c))
    ∙ smallest_is (λ a. not (has marks a)) p none r (record { within = l; passes = not_i (has marks r) f; first = λ k c. not_o (has marks k) (b k c) })
parent_is anc marks p r (nobody b) =
    largest-none (λ a. has (anc p) a && not (has marks a)) p (smallest (λ a. not (has marks a)) p none) (λ k c. test_marked anc marks p k (λ u. b k c))
    ∙ smallest-none (λ a. not (has marks a)) p none (λ k c. not_o (has marks k) (b k c))

-- ---- a parent is smaller and unmarked; there is none exactly when every rank below is marked (T3)

pub parent-lt : (anc : ℕ → ℕ) (marks p : ℕ) → (parent anc marks p ≡ none → ⊥) → parent anc marks p < p
parent-lt anc marks p h = go (parent anc marks p) (parent-cases anc marks p) h
  where
    go : (r : ℕ) → Parent anc marks p r → (r ≡ none → ⊥) → r < p
    go r (nearest l u f b) h = l
    go r (lowest l f b u) h = l
    go r (nobody b) h = absurd (h refl)

pub parent_free : (anc : ℕ → ℕ) (marks p : ℕ) → (parent anc marks p ≡ none → ⊥) → Free marks (parent anc marks p)
parent_free anc marks p h = go (parent anc marks p) (parent-cases anc marks p) h
  where
    go : (r : ℕ) → Parent anc marks p r → (r ≡ none → ⊥) → Free marks r
    go r (nearest l u f b) h = f
    go r (lowest l f b u) h = f
    go r (nobody b) h = absurd (h refl)

pub no_parent : (anc : ℕ → ℕ) (marks p : ℕ) → ((k : ℕ) → k < p → Marked marks k) → parent anc marks p ≡ none
no_parent anc marks p h = parent_is anc marks p none (nobody h)

pub no_parent_all : (anc : ℕ → ℕ) (marks p : ℕ) → p ≤ none → parent anc marks p ≡ none → (k : ℕ) → k < p → Marked marks k
no_parent_all anc marks p s e = go (parent anc marks p) (parent-cases anc marks p) e
  where
    go : (r : ℕ) → Parent anc marks p r → r ≡ none → (k : ℕ) → k < p → Marked marks k
    go r (nearest l u f b) e = absurd (omega arith)
    go r (lowest l f b u) e = absurd (omega arith)
    go r (nobody b) e = b

-- an unmarked rank below gives a parent
pub has-parent : (anc : ℕ → ℕ) (marks p k : ℕ) → p ≤ none → k < p → Free marks k → parent anc marks p ≡ none → ⊥
has-parent anc marks p k s l f e = clash (has marks k) (no_parent_all anc marks p s e k l) f

-- ---- what a parent may be (T0)

pub parent_leads : (anc : ℕ → ℕ) → Ancestry anc → (marks q : ℕ) → (parent anc marks q ≡ none → ⊥) → MayLead anc marks q (parent anc marks q)
parent_leads anc tree marks q h = go (parent anc marks q) (parent-cases anc marks q) h
  where
    go : (r : ℕ) → Parent anc marks q r → (r ≡ none → ⊥) → MayLead anc marks q r
    go r (nearest l u f b) h = record { smaller = l; between = λ a c d. b a d (tree.smaller q a c) c; either = inl u }
    go r (lowest l f b u) h = record { smaller = l; between = λ a c d. u a (tree.smaller q a c) c; either = inr b }
    go r (nobody b) h = absurd (h refl)

-- more deaths rule out nothing
pub leads_more : (anc : ℕ → ℕ) (marks dead q b : ℕ) → ((k : ℕ) → Marked marks k → Marked dead k) → MayLead anc marks q b → MayLead anc dead q b
leads_more anc marks dead q b h m = record {
  smaller = m.smaller;
  between = λ a c d. h a (m.between a c d);
  either = ⊎_elim (λ (u : Above anc q b). inl u) (λ (l : (a : ℕ) → a < b → Marked marks a). inr (λ a c. h a (l a c))) m.either;
}

-- ---- one mark more moves exactly the links that ended at the marked rank

-- a link that did not end at q stays
pub parent_stays : (anc : ℕ → ℕ) (marks q p : ℕ) → (parent anc marks p ≡ q → ⊥) → parent anc (add marks q) p ≡ parent anc marks p
parent_stays anc marks q p h = go (parent anc marks p) (parent-cases anc marks p) h
  where
    go : (r : ℕ) → Parent anc marks p r → (r ≡ q → ⊥) → parent anc (add marks q) p ≡ r
    go r (nearest l u f b) h = parent_is anc (add marks q) p r (nearest l u (has-add-other marks q r h ∙ f) (λ k c d e. has_add_more marks q k (b k c d e)))
    go r (lowest l f b u) h = parent_is anc (add marks q) p r (lowest l (has-add-other marks q r h ∙ f) (λ k c. has_add_more marks q k (b k c)) (λ k c d. has_add_more marks q k (u k c d)))
    go r (nobody b) h = no_parent anc (add marks q) p (λ k c. has_add_more marks q k (b k c))

-- after the mark no link ends at q
pub parent-leaves : (anc : ℕ → ℕ) (marks q p : ℕ) → q < none → parent anc (add marks q) p ≡ q → ⊥
parent-leaves anc marks q p l e =
    clash (has (add marks q) q) (has-add-same marks q)
    (subst (λ (r : ℕ). Free (add marks q) r) e (parent_free anc (add marks q) p (λ n. omega arith)))

-- ---- every rank below q marked

-- marks of the two sets joined
pub marked-low : (marks q k : ℕ) → k < q → Marked (union marks (below q)) k
marked-low marks q k l = has-union marks (below q) k ∙ or_r (has marks k) (has (below q) k) (has-below-lt q k l)

pub marked_more : (marks q k : ℕ) → Marked marks k → Marked (union marks (below q)) k
marked_more marks q k h = has-union marks (below q) k ∙ or_l (has marks k) (has (below q) k) h

pub marked-high : (marks q k : ℕ) → q ≤ k → has (union marks (below q)) k ≡ has marks k
marked-high marks q k l = has-union marks (below q) k ∙ ap (λ (b : Bool). has marks k || b) (has_below_ge q k l) ∙ or_false_r (has marks k)

-- the first half of T4: the parent stays, or it is q
pub parent-below : (anc : ℕ → ℕ) (marks q p : ℕ) → q < p → Free marks q
    → (parent anc (union marks (below q)) p ≡ parent anc marks p) ⊎ (parent anc (union marks (below q)) p ≡ q)
parent-below anc marks q p l f = go (parent anc marks p) (parent-cases anc marks p)
  where
    after : ℕ
    after = union marks (below q)

    at_q : ((k : ℕ) → k < p → Above anc p k → Marked after k) → parent anc after p ≡ q
    at_q h = parent_is anc after p q (lowest l (marked-high marks q q (omega arith) ∙ f) (λ k c. marked-low marks q k c) h)

    go : (r : ℕ) → Parent anc marks p r → (parent anc after p ≡ r) ⊎ (parent anc after p ≡ q)
    go r (nearest s u g b) =
        ⊎_elim (λ (c : r < q). inr (at_q (λ k d e. ⊎_elim (λ (x : k < q). marked-low marks q k x) (λ (x : q ≤ k). marked_more marks q k (b k (omega arith) d e)) (lt-or-le k q))))
        (λ (c : q ≤ r). inl (parent_is anc after p r (nearest s u (marked-high marks q r c ∙ g) (λ k d e x. marked_more marks q k (b k d e x)))))
        (lt-or-le r q)
    go r (lowest s g b u) = inr (at_q (λ k d e. marked_more marks q k (u k d e)))
    go r (nobody b) = absurd (clash (has marks q) (b q l) f)

-- and q itself, unmarked or not, has none
pub root_below : (anc : ℕ → ℕ) (marks q : ℕ) → parent anc (union marks (below q)) q ≡ none
root_below anc marks q = no_parent anc (union marks (below q)) q (λ k l. marked-low marks q k l)
