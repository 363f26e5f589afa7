-- Climbing: what the path of a rank is, how long it may be, and how a climb follows it link by link. Assumes nothing.
use mathlib.Core.Path.{◌≡◌, refl, sym, ap, subst, ◌∙◌}
use mathlib.Core.Bool.{false}
use mathlib.Core.List.{List, [], ◌∷◌}
use mathlib.Core.Logic.{⊎_elim}
use Prim.Native.Nat.{ℕ, zero, suc, ◌+◌, ◌-◌, ◌/◌, ◌^◌, ◌≤◌, ◌<◌}
use native.Mathlib.Nat.{two-pow-succ, le_refl, le_of_lt, add-zero}
use native.Mathlib.Omega.{arith}
use lib.Arith.{bin_ind}
use lib.Dec.{eqb, ltb}
use lib.ListN.{length, get_or, drop, length-drop}
use lib.Seq.{get_or-drop, drop-drop}
use borrow.Author.Tests.{eq-eqb, ne_eqb, lt-ltb, ltb-true}
use Rattle.std.proofs.Common.{Some}
use Rattle.sets.specs.Sets.{none, found, has, count, smallest}
use Rattle.sets.proofs.Laws.Bools.{clash, fails, eq_or_ne, lt-or-le, cond_true, cond_false}
use Rattle.sets.proofs.Laws.Searches.{count_fewer, count_wide, count-le, count_add, Smallest, LeastOf, least, smallest-cases}
use Rattle.sets.proofs.Laws.Found.{is_found}
use Rattle.tree.specs.Tree.{ancestor_count, flat, parent, upwards, path, links, reached, IsRoot, digits}
use Rattle.tree.specs.Relations.{Above, Ancestry}
use Rattle.tree.proofs.Kin.{Rooted}
use Rattle.tree.proofs.Laws.Flat.{flat-suc, flat_ancestry, flat_rooted}
use Rattle.tree.proofs.Laws.Parents.{Free, Parent, nearest, lowest, nobody, parent-cases, parent-lt, parent_free, no_parent, has-parent}

-- ---- the path, one link at a time

no_links : (anc : ℕ → ℕ) (marks d p : ℕ) → parent anc marks p ≡ none → upwards anc marks d p ≡ []
unfolding upwards
no_links anc marks zero p e = refl
no_links anc marks (suc d) p e = cond_true (eqb (parent anc marks p) none) [] (parent anc marks p ∷ upwards anc marks d (parent anc marks p)) (eq-eqb (parent anc marks p) none e)

a_link : (anc : ℕ → ℕ) (marks d p : ℕ) → (parent anc marks p ≡ none → ⊥) → upwards anc marks (suc d) p ≡ parent anc marks p ∷ upwards anc marks d (parent anc marks p)
unfolding upwards
a_link anc marks d p h = cond_false (eqb (parent anc marks p) none) [] (parent anc marks p ∷ upwards anc marks d (parent anc marks p)) (ne_eqb (parent anc marks p) none h)

-- p's number bounds its links
enough : (anc : ℕ → ℕ) (marks d e p : ℕ) → p ≤ d → p ≤ e → upwards anc marks d p ≡ upwards anc marks e p
enough anc marks zero e p a b = let z : parent anc marks p ≡ none = no_parent anc marks p (λ k l. absurd (omega arith)) in no_links anc marks zero p z ∙ sym (no_links anc marks e p z)
enough anc marks (suc d) zero p a b = let z : parent anc marks p ≡ none = no_parent anc marks p (λ k l. absurd (omega arith)) in no_links anc marks (suc d) p z ∙ sym (no_links anc marks zero p z)
enough anc marks (suc d) (suc e) p a b = ⊎_elim root (link (enough anc marks d e (parent anc marks p))) (eq_or_ne (parent anc marks p) none)
  where
    root : parent anc marks p ≡ none → upwards anc marks (suc d) p ≡ upwards anc marks (suc e) p
    root z = no_links anc marks (suc d) p z ∙ sym (no_links anc marks (suc e) p z)

    link : (parent anc marks p ≤ d → parent anc marks p ≤ e → upwards anc marks d (parent anc marks p) ≡ upwards anc marks e (parent anc marks p)) → (parent anc marks p ≡ none → ⊥) → upwards anc marks (suc d) p ≡ upwards anc marks (suc e) p
    link ih z =
        let l : parent anc marks p < p = parent-lt anc marks p z in
        a_link anc marks d p z ∙ ap (λ (t : List ℕ). parent anc marks p ∷ t) (ih (omega arith) (omega arith)) ∙ sym (a_link anc marks e p z)

pub path-root : (anc : ℕ → ℕ) (marks p : ℕ) → parent anc marks p ≡ none → path anc marks p ≡ []
unfolding path
path-root anc marks p e = no_links anc marks p p e

pub path_link : (anc : ℕ → ℕ) (marks p : ℕ) → (parent anc marks p ≡ none → ⊥) → path anc marks p ≡ parent anc marks p ∷ path anc marks (parent anc marks p)
unfolding path
path_link anc marks p h =
    let l : parent anc marks p < p = parent-lt anc marks p h in
    enough anc marks p (suc p) p (omega arith) (omega arith) ∙ a_link anc marks p p h ∙ ap (λ (t : List ℕ). parent anc marks p ∷ t) (enough anc marks p (parent anc marks p) (parent anc marks p) (omega arith) (omega arith))

pub links-root : (anc : ℕ → ℕ) (marks p : ℕ) → parent anc marks p ≡ none → links anc marks p ≡ 0
unfolding links
links-root anc marks p e = ap length (path-root anc marks p e)

pub links_link : (anc : ℕ → ℕ) (marks p r : ℕ) → parent anc marks p ≡ r → (r ≡ none → ⊥) → links anc marks p ≡ suc (links anc marks r)
unfolding links
links_link anc marks p r e h = ap length (path_link anc marks p (λ x. h (sym e ∙ x))) ∙ ap (λ (x : ℕ). suc (length (path anc marks x))) e

-- ---- where the path ends

reached-root : (anc : ℕ → ℕ) (marks p : ℕ) → parent anc marks p ≡ none → reached anc marks p (links anc marks p) ≡ p
unfolding reached
reached-root anc marks p e = ap (λ (k : ℕ). get_or (p ∷ path anc marks p) k none) (links-root anc marks p e)

reached_link : (anc : ℕ → ℕ) (marks p : ℕ) → (parent anc marks p ≡ none → ⊥) → reached anc marks p (links anc marks p) ≡ reached anc marks (parent anc marks p) (links anc marks (parent anc marks p))
unfolding reached
reached_link anc marks p h =
    ap (λ (k : ℕ). get_or (p ∷ path anc marks p) k none) (links_link anc marks p (parent anc marks p) refl h)
    ∙ ap (λ (l : List ℕ). get_or l (links anc marks (parent anc marks p)) none) (path_link anc marks p h)

root_ends : (anc : ℕ → ℕ) (n marks p : ℕ) → p < n → Free marks p → parent anc marks p ≡ none → IsRoot anc n marks (reached anc marks p (links anc marks p))
root_ends anc n marks p l f e = subst (IsRoot anc n marks) (sym (reached-root anc marks p e)) (record { inside = l; unmarked = f; parentless = e })

-- From an unmarked rank of the group all links lead to a root.
ends : (anc : ℕ → ℕ) (n marks d p : ℕ) → p ≤ d → p < n → Free marks p → IsRoot anc n marks (reached anc marks p (links anc marks p))
ends anc n marks zero p h l f = root_ends anc n marks p l f (no_parent anc marks p (λ k m. absurd (omega arith)))
ends anc n marks (suc d) p h l f = ⊎_elim (root_ends anc n marks p l f) (link (ends anc n marks d (parent anc marks p))) (eq_or_ne (parent anc marks p) none)
  where
    link : (parent anc marks p ≤ d → parent anc marks p < n → Free marks (parent anc marks p) → IsRoot anc n marks (reached anc marks (parent anc marks p) (links anc marks (parent anc marks p)))) → (parent anc marks p ≡ none → ⊥) → IsRoot anc n marks (reached anc marks p (links anc marks p))
    link ih e =
        let m : parent anc marks p < p = parent-lt anc marks p e in
        subst (IsRoot anc n marks) (sym (reached_link anc marks p e)) (ih (omega arith) (omega arith) (parent_free anc marks p e))

pub path-ends : (anc : ℕ → ℕ) (n marks p : ℕ) → p < n → Free marks p → IsRoot anc n marks (reached anc marks p (links anc marks p))
path-ends anc n marks p = ends anc n marks p p (le_refl p)

-- A view has one root: of two ranks without a parent the smaller would be marked.
pub one-root : (anc : ℕ → ℕ) (n marks p q : ℕ) → n ≤ none → IsRoot anc n marks p → IsRoot anc n marks q → p ≡ q
one-root anc n marks p q s a b = ⊎_elim (λ (e : p ≡ q). e) (λ (d : p ≡ q → ⊥). absurd (⊎_elim (after p q a b) (λ (l : q ≤ p). after q p b a (let d' : p ≡ q → ⊥ = d in omega arith)) (lt-or-le p q))) (eq_or_ne p q)
  where
    after : (x y : ℕ) → IsRoot anc n marks x → IsRoot anc n marks y → x < y → ⊥
    after x y c d l = has-parent anc marks y x (let m : y < n = d.inside in omega arith) l c.unmarked d.parentless

-- ---- no more links than ancestors, where 0 is above every other rank

module _ (anc : ℕ → ℕ) (tree : Ancestry anc) (rooted : Rooted anc) (marks : ℕ) where
  size : ℕ → ℕ
  size p = count (has (anc p)) p

  -- an ancestor has fewer ancestors
  past : (a k : ℕ) → a ≤ k → has (anc a) k ≡ false
  past a k h = fails (has (anc a) k) (λ v. let l : k < a = tree.smaller a k v in omega arith)

  fewer : (p a : ℕ) → Above anc p a → size a < size p
  unfolding size
  fewer p a u =
      let l : a < p = tree.smaller p a u in
      subst (λ (x : ℕ). x < count (has (anc p)) p) (count_wide (has (anc a)) a p (le_of_lt l) (past a))
      (count_fewer (has (anc a)) (has (anc p)) p a (λ k b v. tree.through p a k u v) l (past a a (le_refl a)) u)

  bound : (d p : ℕ) → p ≤ d → p ≤ none → links anc marks p ≤ size p
  bound zero p h s = let e : links anc marks p ≡ 0 = links-root anc marks p (no_parent anc marks p (λ k l. absurd (omega arith))) in omega arith
  bound (suc d) p h s = go (bound d) (parent anc marks p) refl (parent-cases anc marks p)
    where
      go : ((r : ℕ) → r ≤ d → r ≤ none → links anc marks r ≤ size r) → (r : ℕ) → parent anc marks p ≡ r → Parent anc marks p r → links anc marks p ≤ size p
      go rest r e (nearest l u f b) = omega (arith, links_link anc marks p r e (λ x. omega arith), rest r (omega arith) (omega arith), fewer p r u)
      go rest r e (lowest l f b u) = omega (arith, links_link anc marks p r e (λ x. omega arith), links-root anc marks r (no_parent anc marks r b), fewer p 0 (rooted p (omega arith)))
      go rest r e (nobody b) = omega (arith, links-root anc marks p e)

  pub links-bound : (p : ℕ) → p ≤ none → links anc marks p ≤ ancestor_count anc p
  unfolding size
  links-bound p s = bound p p (le_refl p) s

-- ---- ancestors and binary digits

flat-size : (p d : ℕ) → p < 2 ^ d → count (has (flat p)) p ≤ d
flat-size = bin_ind (λ (p : ℕ). (d : ℕ) → p < 2 ^ d → count (has (flat p)) p ≤ d) (λ d h. omega (arith, count-le (has (flat 0)) 0)) step
  where
    step : (p : ℕ) → ((d : ℕ) → p / 2 < 2 ^ d → count (has (flat (p / 2))) (p / 2) ≤ d) → (d : ℕ) → p < 2 ^ d → count (has (flat p)) p ≤ d
    step zero ih d h = omega (arith, count-le (has (flat 0)) 0)
    step (suc p) ih zero h = absurd (omega arith)
    step (suc p) ih (suc d) h =
        let q : ℕ = suc p / 2 in
        let more : count (has (flat (suc p))) (suc p) ≤ suc (count (has (flat q)) (suc p)) = subst (λ (w : ℕ). count (has w) (suc p) ≤ suc (count (has (flat q)) (suc p))) (sym (flat-suc (suc p) (omega arith))) (count_add (flat q) q (suc p)) in
        let wide : count (has (flat q)) (suc p) ≡ count (has (flat q)) q = count_wide (has (flat q)) q (suc p) (omega arith) (past flat flat_ancestry flat_rooted 0 q) in
        let rest : count (has (flat q)) q ≤ d = ih d (omega (arith, two-pow-succ d)) in
        omega arith

lt_two_pow : (p : ℕ) → p < 2 ^ p
lt_two_pow zero = omega arith
lt_two_pow (suc p) = omega (arith, two-pow-succ p, lt_two_pow p)

-- The digits of p are the least d with p below 2 ^ d.
digits_found : (p : ℕ) → Smallest (λ d. ltb p (2 ^ d)) (suc p) (digits p)
unfolding digits
digits_found p = go (smallest (λ d. ltb p (2 ^ d)) (suc p) p) (smallest-cases (λ d. ltb p (2 ^ d)) (suc p) p)
  where
    go : (r : ℕ) → LeastOf (λ d. ltb p (2 ^ d)) (suc p) p r → Smallest (λ d. ltb p (2 ^ d)) (suc p) r
    go r (least s) = s
    go r (LeastOf.empty f) = absurd (clash (ltb p (2 ^ p)) (lt-ltb p (2 ^ p) (lt_two_pow p)) (f p (omega arith)))

pub digits_enough : (p : ℕ) → p < 2 ^ digits p
digits_enough p = ltb-true p (2 ^ digits p) (digits_found p).passes

pub digits_least : (p d : ℕ) → p < 2 ^ d → digits p ≤ d
digits_least p d l = ⊎_elim (λ (h : d < digits p). absurd (clash (ltb p (2 ^ d)) (lt-ltb p (2 ^ d) l) ((digits_found p).first d h))) (λ (h : digits p ≤ d). h) (lt-or-le d (digits p))

-- A rank of the flat tree has no more ancestors than its number has binary digits, rank 0 counting as none.
pub flat_within_digits : (p : ℕ) → ancestor_count flat p ≤ digits p
flat_within_digits p = flat-size p (digits p) (digits_enough p)

-- ---- the loop of a climb: after k links it stands at `at`, and what is left of the path is `at`'s own

pub record Climbing (anc : ℕ → ℕ) (marks p k at : ℕ) : Type 0 where
  pub within : at ≤ p
  pub left : drop k (p ∷ path anc marks p) ≡ at ∷ path anc marks at

pub climbing-start : (anc : ℕ → ℕ) (marks p : ℕ) → Climbing anc marks p 0 p
climbing-start anc marks p = record { within = le_refl p; left = refl }

pub climbing-step : (anc : ℕ → ℕ) (marks p k at up : ℕ) → Climbing anc marks p k at → Some up ≡ found (parent anc marks at) → Climbing anc marks p (k + 1) up
climbing-step anc marks p k at up c e =
    let u = is_found (parent anc marks at) up e in
    let l : parent anc marks at < at = parent-lt anc marks at u.1 in
    record {
      within = omega (arith, c.within, u.0);
      left = sym (drop-drop 1 k (p ∷ path anc marks p)) ∙ ap (drop 1) c.left ∙ path_link anc marks at u.1 ∙ ap (λ (x : ℕ). x ∷ path anc marks x) (sym u.0);
    }

-- the rank reached, and the links that are left above it
pub climbing-reached : (anc : ℕ → ℕ) (marks p k at : ℕ) → Climbing anc marks p k at → reached anc marks p k ≡ at
unfolding reached
climbing-reached anc marks p k at c =
    ap (λ (x : ℕ). get_or (p ∷ path anc marks p) x none) (sym (add-zero k)) ∙ sym (get_or-drop k (p ∷ path anc marks p) 0 none) ∙ ap (λ (l : List ℕ). get_or l 0 none) c.left

pub climbing-links : (anc : ℕ → ℕ) (marks p k at : ℕ) → Climbing anc marks p k at → links anc marks p ≡ k + links anc marks at
unfolding links
climbing-links anc marks p k at c =
    let e : length (p ∷ path anc marks p) - k ≡ suc (length (path anc marks at)) = sym (length-drop k (p ∷ path anc marks p)) ∙ ap length c.left in
    omega arith

pub climbing_less : (anc : ℕ → ℕ) (marks at up : ℕ) → Some up ≡ found (parent anc marks at) → up < at
climbing_less anc marks at up e = let u = is_found (parent anc marks at) up e in subst (λ (r : ℕ). r < at) (sym u.0) (parent-lt anc marks at u.1)
