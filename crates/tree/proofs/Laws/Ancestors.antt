-- Ancestors by any `above` that answers a smaller rank: those of p > 0 are the rank above p and that one's ancestors. All that a tree must
-- have follows from this, one step up after the other. Assumes nothing.
use mathlib.Core.Path.{◌≡◌, refl, sym, ap, subst, ◌∙◌}
use mathlib.Core.Bool.{true}
use mathlib.Core.Logic.{◌⊎◌, inl, inr, ⊎_elim}
use Prim.Native.Nat.{ℕ, zero, suc, ◌≤◌, ◌<◌}
use native.Mathlib.Nat.{le_refl}
use native.Mathlib.Omega.{arith}
use lib.Dec.{eqb}
use borrow.Author.Tests.{eqb-true}
use Rattle.sets.specs.Sets.{has, add}
use Rattle.sets.proofs.Laws.Bools.{clash, eq_or_ne, or_cases}
use Rattle.sets.proofs.Laws.Members.{has-zero, has-add, has-add-same, has_add_more}
use Rattle.tree.specs.Tree.{lineage, ancestors}
use Rattle.tree.specs.Relations.{Above, Chained}
use Rattle.tree.proofs.Kin.{Rooted, Smaller, IsTree}

module _ (above : ℕ → ℕ) (smaller : Smaller above) where
  abbrev anc : ℕ → ℕ
  anc = ancestors above

  -- p's number bounds the steps up
  enough : (d e p : ℕ) → p ≤ d → p ≤ e → lineage above d p ≡ lineage above e p
  unfolding lineage
  enough zero zero zero a b = refl
  enough zero (suc e) zero a b = refl
  enough (suc d) zero zero a b = refl
  enough (suc d) (suc e) zero a b = refl
  enough zero e (suc p) a b = absurd (omega arith)
  enough (suc d) zero (suc p) a b = absurd (omega arith)
  enough (suc d) (suc e) (suc p) a b =
      let l : above (suc p) < suc p = smaller (suc p) (omega arith) in
      ap (λ (w : ℕ). add w (above (suc p))) (enough d e (above (suc p)) (omega arith) (omega arith))

  -- one step up, by any bounds that are enough
  one_up : (d e p : ℕ) → 0 < p → p ≤ d → above p ≤ e → lineage above d p ≡ add (lineage above e (above p)) (above p)
  unfolding lineage
  one_up d e zero h a b = absurd (omega arith)
  one_up zero e (suc p) h a b = absurd (omega arith)
  one_up (suc d) e (suc p) h a b = ap (λ (w : ℕ). add w (above (suc p))) (enough d e (above (suc p)) (omega (arith, smaller (suc p) h)) b)

  pub ancestors-zero : anc 0 ≡ 0
  unfolding ancestors lineage
  ancestors-zero = refl

  pub ancestors-suc : (p : ℕ) → 0 < p → anc p ≡ add (anc (above p)) (above p)
  unfolding ancestors
  ancestors-suc p h = one_up _ _ p h (omega arith) (omega arith)

  -- what holds of 0, and of a rank where it holds of the rank above, holds of all
  by_steps : (P : ℕ → Type 0) → P 0 → ((p : ℕ) → 0 < p → P (above p) → P p) → (p : ℕ) → P p
  by_steps P z s p = go p p (le_refl p)
    where
      go : (d p : ℕ) → p ≤ d → P p
      go zero p h = subst P (omega arith) z
      go (suc d) p h = ⊎_elim (λ (e : p ≡ 0). subst P (sym e) z) (λ (n : p ≡ 0 → ⊥). let l : above p < p = smaller p (omega arith) in s p (omega arith) (go d (above p) (omega arith))) (eq_or_ne p 0)

  -- an ancestor of p is the rank above p or one of that rank's ancestors
  pub above_cases : (p a : ℕ) → 0 < p → Above anc p a → (a ≡ above p) ⊎ Above anc (above p) a
  above_cases p a h u =
      ⊎_elim (λ (v : Above anc (above p) a). inr v) (λ (e : eqb a (above p) ≡ true). inl (eqb-true a (above p) e))
      (or_cases (has (anc (above p)) a) (eqb a (above p)) (sym (ap (λ (w : ℕ). has w a) (ancestors-suc p h) ∙ has-add (anc (above p)) (above p) a) ∙ u))

  pub next-above : (p : ℕ) → 0 < p → Above anc p (above p)
  next-above p h = ap (λ (w : ℕ). has w (above p)) (ancestors-suc p h) ∙ has-add-same (anc (above p)) (above p)

  pub further_above : (p a : ℕ) → 0 < p → Above anc (above p) a → Above anc p a
  further_above p a h u = ap (λ (w : ℕ). has w a) (ancestors-suc p h) ∙ has_add_more (anc (above p)) (above p) a u

  nobody-above-zero : (a : ℕ) → Above anc 0 a → ⊥
  nobody-above-zero a u = clash (has 0 a) (subst (λ (w : ℕ). has w a ≡ true) ancestors-zero u) (has-zero a)

  -- ---- what a tree must have

  ancestors-smaller : (p a : ℕ) → Above anc p a → a < p
  ancestors-smaller =
      by_steps (λ (p : ℕ). (a : ℕ) → Above anc p a → a < p) (λ a u. absurd (nobody-above-zero a u))
      (λ p h ih a u. let l : above p < p = smaller p h in ⊎_elim (λ (e : a ≡ above p). omega arith) (λ (v : Above anc (above p) a). let m : a < above p = ih a v in omega arith) (above_cases p a h u))

  ancestors-through : (p a b : ℕ) → Above anc p a → Above anc a b → Above anc p b
  ancestors-through =
      by_steps (λ (p : ℕ). (a b : ℕ) → Above anc p a → Above anc a b → Above anc p b) (λ a b u. absurd (nobody-above-zero a u))
      (λ p h ih a b u v. further_above p b h (⊎_elim (λ (e : a ≡ above p). subst (λ (x : ℕ). Above anc x b) e v) (λ (w : Above anc (above p) a). ih a b w v) (above_cases p a h u)))

  ancestors_chained : Chained anc
  ancestors_chained =
      by_steps (λ (x : ℕ). (a b : ℕ) → Above anc x a → Above anc x b → a < b → Above anc b a) (λ a b u. absurd (nobody-above-zero a u))
      (λ x h ih a b u v l. go x a b l (λ w z. ih a b w z l) (above_cases x a h u) (above_cases x b h v))
    where
      go : (x a b : ℕ) → a < b → (Above anc (above x) a → Above anc (above x) b → Above anc b a) → (a ≡ above x) ⊎ Above anc (above x) a → (b ≡ above x) ⊎ Above anc (above x) b → Above anc b a
      go x a b l ih (inl e) (inl q) = absurd (omega arith)
      go x a b l ih (inl e) (inr w) = absurd (omega (arith, ancestors-smaller (above x) b w))
      go x a b l ih (inr u) (inl q) = subst (λ (y : ℕ). Above anc y a) (sym q) u
      go x a b l ih (inr u) (inr w) = ih u w

  ancestors_rooted : Rooted anc
  ancestors_rooted =
      by_steps (λ (p : ℕ). 0 < p → Above anc p 0) (λ h. absurd (omega arith))
      (λ p h ih g. ⊎_elim (λ (e : above p ≡ 0). subst (λ (a : ℕ). Above anc p a) e (next-above p h)) (λ (d : above p ≡ 0 → ⊥). further_above p 0 h (ih (omega arith))) (eq_or_ne (above p) 0))

  pub ancestors_are_a_tree : IsTree anc
  ancestors_are_a_tree = record { ancestry = record { smaller = ancestors-smaller; through = ancestors-through }; chained = ancestors_chained; rooted = ancestors_rooted }
