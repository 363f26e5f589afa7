-- How a parent is found, by any `above` that answers a smaller rank: among the ancestors up to the first that is unmarked, or else the lowest
-- unmarked rank. Assumes nothing.
use mathlib.Core.Path.{◌≡◌, refl, sym, ap, subst, ◌∙◌}
use mathlib.Core.Bool.{Bool, true, false, cond, not}
use mathlib.Core.Logic.{◌⊎◌, inl, inr, ⊎_elim}
use Prim.Native.Nat.{ℕ, ◌≤◌, ◌<◌}
use native.Mathlib.Omega.{arith}
use lib.Dec.{eqb}
use borrow.Author.Tests.{ltb-true, eq-eqb, not-true, not-false, ne_eqb, eqb-true}
use Rattle.std.proofs.Common.{◌^◌, None, Some}
use Rattle.std.specs.Option.{unwrap_or}
use Rattle.sets.specs.Sets.{none, found, has, minus, below, smallest, add, largest}
use Rattle.sets.proofs.Laws.Bools.{clash, passes_or_fails, lt-or-le, not_i, not_o, cond_true, cond_false, fails, or_cases}
use Rattle.sets.proofs.Laws.Members.{minus_l, minus_r, minus-not, has-below-lt, has-below, none_in, has-zero, has-add, has-add-same, minus_i}
use Rattle.sets.proofs.Laws.Searches.{LeastOf, least, smallest-cases, largest_is}
use Rattle.sets.proofs.Laws.Found.{found-none, found-some, first_found, none_first, last_or}
use Rattle.tree.specs.Tree.{ancestors, parent}
use Rattle.tree.specs.Relations.{Above}
use Rattle.tree.proofs.Kin.{Smaller, IsTree}
use Rattle.tree.proofs.Laws.Ancestors.{above_cases, next-above, ancestors_are_a_tree}
use Rattle.tree.proofs.Laws.Parents.{Marked, Free, Parent, nearest, lowest, nobody, parent_is, no_parent, has-parent}

-- The loop of `parent_of`, at a rank: each ancestor of p above that rank is marked, and while the lowest unmarked rank is below it, it is an
-- ancestor of p.
pub record Rising (above : ℕ → ℕ) (marks p low at : ℕ) : Type 0 where
  pub passed : (k : ℕ) → Above (ancestors above) p k → at < k → Marked marks k
  pub ahead : low < at → Above (ancestors above) p at

-- along the code: the ranks below p, those unmarked, and the lowest of them
pub low-cases : (marks p m under unmarked low : ℕ) → p ≤ m → under ≡ below p → unmarked ≡ minus under marks → low ≡ smallest (has unmarked) m none → LeastOf (λ k. not (has marks k)) p none low
low-cases marks p m under unmarked low l u v e = go low (subst (λ (x : ℕ). LeastOf (has unmarked) m none x) (sym e) (smallest-cases (has unmarked) m none))
  where
    same : (k : ℕ) → has (minus (below p) marks) k ≡ has unmarked k
    same k = sym (ap (λ (x : ℕ). has x k) (v ∙ ap (λ (x : ℕ). minus x marks) u))

    marked : (k : ℕ) → k < p → has unmarked k ≡ false → not (has marks k) ≡ false
    marked k b t = not_o (has marks k) (minus-not (below p) marks k (same k ∙ t) (has-below-lt p k b))

    go : (r : ℕ) → LeastOf (has unmarked) m none r → LeastOf (λ k. not (has marks k)) p none r
    go r (least s) =
        let t : has (minus (below p) marks) r ≡ true = same r ∙ s.passes in
        let b : r < p = ltb-true r p (sym (has-below p r) ∙ minus_l (below p) marks r t) in
        least (record { within = b; passes = not_i (has marks r) (minus_r (below p) marks r t); first = λ k c. marked k (omega arith) (s.first k c) })
    go r (LeastOf.empty f) = LeastOf.empty (λ k b. marked k b (f k (omega arith)))

-- the rank next above p is one, where the lowest unmarked rank is below it
pub low_within : (marks p low at : ℕ) → p < 64 → low ≡ smallest (has (minus (below p) marks)) 64 none → low < at → at ≤ none → (0 < p → at < p) → at < 64
low_within marks p low at l e h n s = go low (low-cases marks p 64 (below p) (minus (below p) marks) low (omega arith) refl refl e) h
  where
    go : (r : ℕ) → LeastOf (λ k. not (has marks k)) p none r → r < at → at < 64
    go r (least x) h = let b : at < p = s (omega (arith, x.within)) in omega arith
    go r (LeastOf.empty x) h = absurd (omega arith)

module _ (above : ℕ → ℕ) (smaller : Smaller above) where
  abbrev anc : ℕ → ℕ
  anc = ancestors above

  tree : IsTree anc
  tree = ancestors_are_a_tree above smaller

  -- no ancestor is nearer than the rank next above
  none_nearer : (p k : ℕ) → Above anc p k → k ≤ above p
  none_nearer p k u =
      let l : k < p = tree.ancestry.smaller p k u in
      ⊎_elim (λ (e : k ≡ above p). omega arith) (λ (v : Above anc (above p) k). omega (arith, tree.ancestry.smaller (above p) k v)) (above_cases above smaller p k (omega arith) u)

  pub rising_start : (marks p m under unmarked low at : ℕ) → p < m → at ≤ none → under ≡ below p → unmarked ≡ minus under marks → low ≡ smallest (has unmarked) m none → at ≡ above p → Rising above marks p low at
  rising_start marks p m under unmarked low at l s u v f e = record {
    passed = λ k a c. absurd (omega (arith, none_nearer p k a));
    ahead = ahead low (low-cases marks p m under unmarked low (omega arith) u v f);
  }
    where
      ahead : (r : ℕ) → LeastOf (λ k. not (has marks k)) p none r → r < at → Above anc p at
      ahead r (least x) c = subst (λ (a : ℕ). Above anc p a) (sym e) (next-above above smaller p (omega (arith, x.within)))
      ahead r (LeastOf.empty x) c = absurd (omega arith)

  -- a marked ancestor is passed
  pub rising_step : (marks p low at up : ℕ) (t : Bool) → Rising above marks p low at → low < at → t ≡ has marks at → t ≡ true → up ≡ above at → Rising above marks p low up
  rising_step marks p low at up t g h m n u = record {
    passed = λ k a c. ⊎_elim (λ (b : at < k). g.passed k a b) (λ (b : k ≤ at). subst (λ (x : ℕ). Marked marks x) (reached k a c b) (sym m ∙ n)) (lt-or-le at k);
    ahead = λ c. subst (λ (a : ℕ). Above anc p a) (sym u) (tree.ancestry.through p at (above at) (g.ahead h) (next-above above smaller at (omega arith)));
  }
    where
      reached : (k : ℕ) → Above anc p k → up < k → k ≤ at → at ≡ k
      reached k a c b = ⊎_elim (λ (d : k < at). absurd (omega (arith, none_nearer at k (tree.chained p k at a (g.ahead h) d)))) (λ (d : at ≤ k). omega arith) (lt-or-le k at)

  -- an unmarked one is the nearest
  pub rising_found : (marks p low at : ℕ) (t : Bool) → Rising above marks p low at → low < at → t ≡ has marks at → t ≡ false → at ≡ parent anc marks p
  rising_found marks p low at t g h m n = sym (parent_is anc marks p at (nearest (tree.ancestry.smaller p at (g.ahead h)) (g.ahead h) (sym m ∙ n) (λ k a b u. g.passed k u a)))

  -- down to the lowest unmarked rank every ancestor is marked: that rank is the parent, an ancestor or not
  pub rising_end : (marks p m under unmarked low at : ℕ) → Rising above marks p low at → at ≤ low → p < m → under ≡ below p → unmarked ≡ minus under marks → low ≡ smallest (has unmarked) m none → low ≡ parent anc marks p
  rising_end marks p m under unmarked low at g h l u v e = sym (parent_is anc marks p low (go low h (low-cases marks p m under unmarked low (omega arith) u v e)))
    where
      go : (r : ℕ) → at ≤ r → LeastOf (λ k. not (has marks k)) p none r → Parent anc marks p r
      go r h (LeastOf.empty x) = nobody (λ k b. not-false (has marks k) (x k b))
      go r h (least x) = ⊎_elim is_above is_not (passes_or_fails (has (anc p) r))
        where
          free : Free marks r
          free = not-true (has marks r) x.passes

          smaller_ones : (k : ℕ) → k < r → Marked marks k
          smaller_ones k b = not-false (has marks k) (x.first k b)

          others : (k : ℕ) → (k ≡ r → ⊥) → Above anc p k → Marked marks k
          others k d a = ⊎_elim (smaller_ones k) (λ (b : r ≤ k). g.passed k a (omega arith)) (lt-or-le k r)

          is_above : Above anc p r → Parent anc marks p r
          is_above a = nearest x.within a free (λ k b c w. g.passed k w (omega arith))

          is_not : has (anc p) r ≡ false → Parent anc marks p r
          is_not n = lowest x.within free smaller_ones (λ k b w. others k (λ q. clash (has (anc p) r) (subst (λ (y : ℕ). Above anc p y) q w) n) w)

-- ---- what is read off the ancestors that were found: those passed are marked

pub record Passed (above : ℕ → ℕ) (marks p low at found : ℕ) : Type 0 where
  pub rising : Rising above marks p low at
  pub marked : (k : ℕ) → has found k ≡ true → Marked marks k

pub passed_start : (above : ℕ → ℕ) (marks p low at : ℕ) → Rising above marks p low at → Passed above marks p low at 0
passed_start above marks p low at g = record { rising = g; marked = λ k t. absurd (clash (has 0 k) t (has-zero k)) }

pub passed_step : (above : ℕ → ℕ) (marks p low at up found more : ℕ) (t : Bool) → Passed above marks p low at found → Rising above marks p low up → more ≡ add found at → t ≡ has marks at → t ≡ true → Passed above marks p low up more
passed_step above marks p low at up found more t g r e m n = record { rising = r; marked = λ k u. go k (or_cases (has found k) (eqb k at) (sym (has-add found at k) ∙ ap (λ (x : ℕ). has x k) (sym e) ∙ u)) }
  where
    go : (k : ℕ) → (has found k ≡ true) ⊎ (eqb k at ≡ true) → Marked marks k
    go k (inl u) = g.marked k u
    go k (inr u) = subst (λ (x : ℕ). Marked marks x) (sym (eqb-true k at u)) (sym m ∙ n)

-- none is unmarked
pub none_left : (marks found : ℕ) → ((k : ℕ) → has found k ≡ true → Marked marks k) → minus found marks ≡ 0
none_left marks found h = none_in (minus found marks) (λ k t. clash (has marks k) (h k (minus_l found marks k t)) (minus_r found marks k t))

pub passed_end : (above : ℕ → ℕ) (marks p low at found r : ℕ) → Passed above marks p low at found → low ≡ r → cond (eqb (minus found marks) 0) low (largest (has (minus found marks)) 64 none) ≡ r
passed_end above marks p low at found r g e = cond_true (eqb (minus found marks) 0) low (largest (has (minus found marks)) 64 none) (eq-eqb (minus found marks) 0 (none_left marks found g.marked)) ∙ e

-- the one unmarked is the last that was found
pub passed_found : (above : ℕ → ℕ) (marks p low at found more r : ℕ) (t : Bool) → at < 64 → Passed above marks p low at found → more ≡ add found at → t ≡ has marks at → t ≡ false → at ≡ r
    → cond (eqb (minus more marks) 0) low (largest (has (minus more marks)) 64 none) ≡ r
passed_found above marks p low at found more r t l g e m n q =
    cond_false (eqb (minus more marks) 0) low (largest (has (minus more marks)) 64 none) (ne_eqb (minus more marks) 0 (λ z. clash (has 0 at) (ap (λ (x : ℕ). has x at) (sym z) ∙ here) (has-zero at)))
    ∙ largest_is (has (minus more marks)) 64 none at (record { within = l; passes = here; last = λ k a b. fails (has (minus more marks) k) (λ u. beyond k a u) })
    ∙ q
  where
    free : Free marks at
    free = sym m ∙ n

    here : has (minus more marks) at ≡ true
    here = minus_i more marks at (ap (λ (x : ℕ). has x at) e ∙ has-add-same found at) free

    beyond : (k : ℕ) → at < k → has (minus more marks) k ≡ true → ⊥
    beyond k a u = ⊎_elim
        (λ (v : has found k ≡ true). clash (has marks k) (g.marked k v) (minus_r more marks k u))
        (λ (v : eqb k at ≡ true). let w : k ≡ at = eqb-true k at v in omega arith)
        (or_cases (has found k) (eqb k at) (sym (has-add found at k) ∙ ap (λ (x : ℕ). has x k) (sym e) ∙ minus_l more marks k u))

-- along the code of `parent_of`
pub low_is : (marks p under unmarked low : ℕ) → under ≡ below p → unmarked ≡ minus under marks → low ≡ smallest (has unmarked) 64 none → low ≡ smallest (has (minus (below p) marks)) 64 none
low_is marks p under unmarked low u v e = e ∙ ap (λ (x : ℕ). smallest (has x) 64 none) (v ∙ ap (λ (x : ℕ). minus x marks) u)

-- nobody below p is unmarked
pub no_parent_found : (anc : ℕ → ℕ) (marks p under unmarked : ℕ) → p ≤ 64 → unmarked < 2 ^ 64 → under ≡ below p → unmarked ≡ minus under marks → None ≡ found (smallest (has unmarked) 64 none) → None ≡ found (parent anc marks p)
no_parent_found anc marks p under unmarked l h u v e = found-none (parent anc marks p) (no_parent anc marks p (λ k b. minus-not (below p) marks k (here k) (has-below-lt p k b)))
  where
    here : (k : ℕ) → has (minus (below p) marks) k ≡ false
    here k = ap (λ (x : ℕ). has x k) (sym (v ∙ ap (λ (x : ℕ). minus x marks) u) ∙ none_first unmarked 64 h (omega arith) e) ∙ has-zero k

-- or somebody is, and p has a parent
pub parent_found : (anc : ℕ → ℕ) (marks p under unmarked low line near r : ℕ) → p ≤ 64 → unmarked < 2 ^ 64 → near < 2 ^ 64 → under ≡ below p → unmarked ≡ minus under marks → Some low ≡ found (smallest (has unmarked) 64 none)
    → near ≡ minus line marks → r ≡ unwrap_or (found (largest (has near) 64 none)) low → cond (eqb (minus line marks) 0) low (largest (has (minus line marks)) 64 none) ≡ parent anc marks p → Some r ≡ found (parent anc marks p)
parent_found anc marks p under unmarked low line near r l h g u v e i j q =
    found-some (parent anc marks p) r is
    (λ z. has-parent anc marks p low (omega arith) (ltb-true low p (sym (has-below p low) ∙ minus_l (below p) marks low here)) (minus_r (below p) marks low here) (sym is ∙ z))
  where
    here : has (minus (below p) marks) low ≡ true
    here = ap (λ (x : ℕ). has x low) (sym (v ∙ ap (λ (x : ℕ). minus x marks) u)) ∙ (first_found unmarked 64 low h (omega arith) e).passes

    is : r ≡ parent anc marks p
    is = j ∙ last_or near 64 low g (omega arith) ∙ ap (λ (x : ℕ). cond (eqb x 0) low (largest (has x) 64 none)) i ∙ q
