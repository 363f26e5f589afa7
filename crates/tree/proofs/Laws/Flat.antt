-- The flat tree: half of a rank is smaller, so it is a tree; and its ancestor sets are those of document 01. Assumes nothing.
use mathlib.Core.Path.{◌≡◌, refl, sym, ap, subst, ◌∙◌}
use mathlib.Core.Logic.{◌⊎◌, ⊎_elim}
use Prim.Native.Nat.{ℕ, zero, suc, ◌/◌, ◌^◌, ◌<◌}
use native.Mathlib.Nat.{zero-div}
use native.Mathlib.Numerals.{one-add}
use native.Mathlib.Omega.{arith}
use lib.Arith.{bin_ind}
use lib.Pow.{shr-shr}
use Rattle.sets.specs.Sets.{add}
use Rattle.sets.proofs.Laws.Bools.{eq_or_ne}
use Rattle.tree.specs.Tree.{half, flat}
use Rattle.tree.specs.Relations.{Above, Ancestry, Chained}
use Rattle.tree.proofs.Kin.{Rooted, Smaller, IsTree}
use Rattle.tree.proofs.Laws.Ancestors.{ancestors-suc, above_cases, next-above, further_above, ancestors_are_a_tree}

pub half-smaller : Smaller half
unfolding half
half-smaller p h = omega arith

pub flat-suc : (p : ℕ) → 0 < p → flat p ≡ add (flat (p / 2)) (p / 2)
unfolding flat half
flat-suc p h = ancestors-suc half half-smaller p h

-- ---- the properties

pub flat_is_a_tree : IsTree flat
unfolding flat
flat_is_a_tree = ancestors_are_a_tree half half-smaller

pub flat_ancestry : Ancestry flat
flat_ancestry = flat_is_a_tree.ancestry

pub flat_chained : Chained flat
flat_chained = flat_is_a_tree.chained

pub flat_rooted : Rooted flat
flat_rooted = flat_is_a_tree.rooted

-- ---- document 01's own words

half-cases : (p a : ℕ) → 0 < p → Above flat p a → (a ≡ p / 2) ⊎ Above flat (p / 2) a
unfolding flat half
half-cases p a h u = above_cases half half-smaller p a h u

half-above : (p : ℕ) → 0 < p → Above flat p (p / 2)
unfolding flat half
half-above p h = next-above half half-smaller p h

above_half : (p a : ℕ) → 0 < p → Above flat (p / 2) a → Above flat p a
unfolding flat half
above_half p a h u = further_above half half-smaller p a h u

-- The ancestors of p are floor(p/2^i) for i from 1, up to and including 0; rank 0 has none.
pub flat_halves : (p a : ℕ) → Above flat p a → (i : ℕ) × (0 < p) × (a ≡ p / 2 ^ suc i)
flat_halves =
    bin_ind (λ (p : ℕ). (a : ℕ) → Above flat p a → (i : ℕ) × (0 < p) × (a ≡ p / 2 ^ suc i)) (λ a u. absurd (let l : a < 0 = flat_ancestry.smaller 0 a u in omega arith))
    (λ p ih a u. let l : a < p = flat_ancestry.smaller p a u in ⊎_elim (λ (e : a ≡ p / 2). (0, omega arith, e)) (λ (v : Above flat (p / 2) a). later p a (omega arith) (ih a v)) (half-cases p a (omega arith) u))
  where
    later : (p a : ℕ) → 0 < p → (i : ℕ) × (0 < p / 2) × (a ≡ p / 2 / 2 ^ suc i) → (i : ℕ) × (0 < p) × (a ≡ p / 2 ^ suc i)
    later p a h t = (suc t.0, h, t.2 ∙ shr-shr p 1 (suc t.0) ∙ ap (λ (x : ℕ). p / 2 ^ x) (one-add (suc t.0)))

pub halves_flat : (i p : ℕ) → 0 < p → Above flat p (p / 2 ^ suc i)
halves_flat zero p h = half-above p h
halves_flat (suc i) p h = ⊎_elim at_zero (further (halves_flat i (p / 2))) (eq_or_ne (p / 2) 0)
  where
    same : p / 2 ^ suc (suc i) ≡ p / 2 / 2 ^ suc i
    same = sym (shr-shr p 1 (suc i) ∙ ap (λ (x : ℕ). p / 2 ^ x) (one-add (suc i)))

    at_zero : p / 2 ≡ 0 → Above flat p (p / 2 ^ suc (suc i))
    at_zero e = subst (λ (a : ℕ). Above flat p a) (sym (same ∙ ap (λ (x : ℕ). x / 2 ^ suc i) e ∙ zero-div (2 ^ suc i)) ∙ refl) (subst (λ (a : ℕ). Above flat p a) e (half-above p h))

    further : (0 < p / 2 → Above flat (p / 2) (p / 2 / 2 ^ suc i)) → (p / 2 ≡ 0 → ⊥) → Above flat p (p / 2 ^ suc (suc i))
    further ih d = subst (λ (a : ℕ). Above flat p a) (sym same) (above_half p (p / 2 / 2 ^ suc i) h (ih (omega arith)))
