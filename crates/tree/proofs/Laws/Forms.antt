-- Each form of tree: whatever the box size, the rank next above is smaller, so it is a tree; and with form 0 it is the flat one. Assumes nothing.
use mathlib.Core.Path.{◌≡◌, refl, sym, ap, subst, ◌∙◌}
use mathlib.Core.Bool.{Bool, true, false, cond}
use mathlib.Core.Logic.{⊎_elim}
use Prim.Native.Nat.{ℕ, ◌+◌, ◌-◌, ◌*◌, ◌/◌, ◌%◌, ◌≤◌, ◌<◌}
use native.Mathlib.Nat.{div-mul-le_self, mod-eq-sub-div-mul, mod-zero, zero-mul, mul-lt-mul_of_pos_right}
use native.Mathlib.Omega.{arith}
use lib.Dec.{eqb}
use borrow.Author.Tests.{eq-eqb, ne_eqb}
use Rattle.sets.proofs.Laws.Bools.{eq_or_ne}
use Rattle.tree.specs.Tree.{ancestors, half, flat, parent}
use Rattle.tree.specs.Relations.{Ancestry, Chained}
use Rattle.tree.specs.Forms.{head_of, place_of, head_above, in_star, in_nest, above_in, tree_of, flat_form, star_form, nested_form}
use Rattle.tree.proofs.Kin.{Rooted, Smaller, IsTree}
use Rattle.tree.proofs.Laws.Ancestors.{ancestors_are_a_tree}
use Rattle.tree.proofs.Laws.Flat.{half-smaller}

-- A rank is the head of its box and its place there.
pub head_and_place : (s p : ℕ) → p / s * s + p % s ≡ p
head_and_place s p = go (p / s * s) (p % s) (div-mul-le_self p s) (mod-eq-sub-div-mul p s)
  where
    go : (h m : ℕ) → h ≤ p → m ≡ p - h → h + m ≡ p
    go h m l e = omega arith

-- The head of the box with half the number is smaller: there is a box below.
head_above_smaller : (s p : ℕ) → 0 < p → p % s ≡ 0 → p / s / 2 * s < p
head_above_smaller s p h e = subst (λ (x : ℕ). p / s / 2 * s < x) whole (mul-lt-mul_of_pos_right fewer some)
  where
    whole : p / s * s ≡ p
    whole = go (p / s * s) (p % s) (head_and_place s p) e
      where
        go : (x m : ℕ) → x + m ≡ p → m ≡ 0 → x ≡ p
        go x m f g = omega arith

    some : 0 < s
    some = ⊎_elim (λ (z : s ≡ 0). absurd (let f : p ≡ 0 = sym (mod-zero p) ∙ ap (λ (x : ℕ). p % x) (sym z) ∙ e in omega arith)) (λ (d : s ≡ 0 → ⊥). let f : 0 < s = omega arith in f) (eq_or_ne s 0)

    fewer : p / s / 2 < p / s
    fewer = ⊎_elim (λ (z : p / s ≡ 0). absurd (let f : p ≡ 0 = sym whole ∙ ap (λ (x : ℕ). x * s) z ∙ zero-mul s in omega arith)) (less (p / s)) (eq_or_ne (p / s) 0)
      where
        less : (b : ℕ) → (b ≡ 0 → ⊥) → b / 2 < b
        less b d = omega arith

-- A rank at another place is past its head by that place.
past_head : (s p : ℕ) → (p % s ≡ 0 → ⊥) → (p / s * s < p) × (p / s * s + p % s / 2 < p)
past_head s p d = go (p / s * s) (p % s) (head_and_place s p) d
  where
    go : (x m : ℕ) → x + m ≡ p → (m ≡ 0 → ⊥) → (x < p) × (x + m / 2 < p)
    go x m f g = (omega arith, omega arith)

pub star_smaller : (s : ℕ) → Smaller (in_star s)
unfolding in_star place_of head_above head_of
star_smaller s p h = ⊎_elim (λ (e : p % s ≡ 0). rw (eq-eqb (p % s) 0 e) (head_above_smaller s p h e)) (λ (d : p % s ≡ 0 → ⊥). rw (ne_eqb (p % s) 0 d) (past_head s p d).0) (eq_or_ne (p % s) 0)

pub nested_smaller : (s : ℕ) → Smaller (in_nest s)
unfolding in_nest place_of head_above head_of
nested_smaller s p h = ⊎_elim (λ (e : p % s ≡ 0). rw (eq-eqb (p % s) 0 e) (head_above_smaller s p h e)) (λ (d : p % s ≡ 0 → ⊥). rw (ne_eqb (p % s) 0 d) (past_head s p d).1) (eq_or_ne (p % s) 0)

pub form_smaller : (form s : ℕ) → Smaller (above_in form s)
unfolding above_in
form_smaller form s = go (eqb form star_form) (eqb form nested_form)
  where
    go : (a b : Bool) → Smaller (cond a (in_star s) (cond b (in_nest s) half))
    go true b = star_smaller s
    go false true = nested_smaller s
    go false false = half-smaller

pub form_is_a_tree : (form s : ℕ) → IsTree (tree_of form s)
unfolding tree_of
form_is_a_tree form s = ancestors_are_a_tree (above_in form s) (form_smaller form s)

pub form_ancestry : (form s : ℕ) → Ancestry (tree_of form s)
form_ancestry form s = (form_is_a_tree form s).ancestry

pub form_chained : (form s : ℕ) → Chained (tree_of form s)
form_chained form s = (form_is_a_tree form s).chained

pub form_rooted : (form s : ℕ) → Rooted (tree_of form s)
form_rooted form s = (form_is_a_tree form s).rooted

-- With form 0 the tree is the flat one for every box size.
pub flat_form_lem : (s : ℕ) → tree_of flat_form s ≡ flat
unfolding tree_of above_in flat
flat_form_lem s = refl

-- ---- along the code

pub star_head : (s p r : ℕ) → p % s ≡ 0 → r ≡ head_above s p → r ≡ in_star s p
unfolding in_star place_of
star_head s p r z f = f ∙ rw (eq-eqb (p % s) 0 z)

pub nest_head : (s p r : ℕ) → p % s ≡ 0 → r ≡ head_above s p → r ≡ in_nest s p
unfolding in_nest place_of
nest_head s p r z f = f ∙ rw (eq-eqb (p % s) 0 z)

-- p less its place is its head
less_place : (s p : ℕ) → p - p % s ≡ p / s * s
less_place s p = go (p / s * s) (p % s) (head_and_place s p)
  where
    go : (x m : ℕ) → x + m ≡ p → p - m ≡ x
    go x m f = omega arith

pub star_other : (s p : ℕ) → (p % s ≡ 0 → ⊥) → p - p % s ≡ in_star s p
unfolding in_star place_of head_of
star_other s p d = less_place s p ∙ rw (ne_eqb (p % s) 0 d)

pub nest_other : (s p : ℕ) → (p % s ≡ 0 → ⊥) → p - p % s + p % s / 2 ≡ in_nest s p
unfolding in_nest place_of head_of
nest_other s p d = ap (λ (x : ℕ). x + p % s / 2) (less_place s p) ∙ rw (ne_eqb (p % s) 0 d)

-- the ancestors are those of the form
pub near_star : (form s marks p x : ℕ) → form ≡ 1 → x ≡ parent (ancestors (in_star s)) marks p → x ≡ parent (tree_of form s) marks p
unfolding tree_of above_in
near_star form s marks p x e f = f ∙ rw (eq-eqb form 1 e)

pub near_nest : (form s marks p x : ℕ) → form ≡ 2 → x ≡ parent (ancestors (in_nest s)) marks p → x ≡ parent (tree_of form s) marks p
unfolding tree_of above_in
near_nest form s marks p x e f = f ∙ rw e

pub near_flat : (form s marks p x : ℕ) → (form ≡ 1 → ⊥) → (form ≡ 2 → ⊥) → x ≡ parent (ancestors half) marks p → x ≡ parent (tree_of form s) marks p
unfolding tree_of above_in
near_flat form s marks p x d e f = f ∙ rw (ne_eqb form 1 d, ne_eqb form 2 e)
