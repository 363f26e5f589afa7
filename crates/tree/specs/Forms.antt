-- Request 2026-09: trees that know the machines. Three forms of tree, each by the rank next above. Ranks stand in boxes: runs of s ranks, s the
-- box size, the last box possibly shorter.
use Rattle.std.specs.Prelude.{ℕ, ◌+◌, ◌*◌, ◌/◌, ◌%◌, cond, eqb}
use Rattle.tree.specs.Tree.{ancestors, half}

-- The lowest rank of p's box, its head, and p's place in the box. The head stands for the box in a tree that halves box numbers: next above it
-- is the head of that box.
unfoldable pub head_of : ℕ → ℕ → ℕ
head_of s p = p / s * s

unfoldable pub place_of : ℕ → ℕ → ℕ
place_of s p = p % s

unfoldable pub head_above : ℕ → ℕ → ℕ
head_above s p = p / s / 2 * s

-- A box's other ranks report to its head directly (star), or along a tree that halves places inside the box (nested).
unfoldable pub in_star : ℕ → ℕ → ℕ
in_star s p = cond (eqb (place_of s p) 0) (head_above s p) (head_of s p)

unfoldable pub in_nest : ℕ → ℕ → ℕ
in_nest s p = cond (eqb (place_of s p) 0) (head_above s p) (head_of s p + place_of s p / 2)

-- The forms and their numbers. The flat tree ignores box size. No caller gets as far as a form that is none of these (51).
abbrev pub flat_form : ℕ
flat_form = 0

abbrev pub star_form : ℕ
star_form = 1

abbrev pub nested_form : ℕ
nested_form = 2

unfoldable pub above_in : ℕ → ℕ → ℕ → ℕ
above_in form s = cond (eqb form star_form) (in_star s) (cond (eqb form nested_form) (in_nest s) half)

-- The ancestor sets of a form with a box size.
unfoldable pub tree_of : ℕ → ℕ → ℕ → ℕ
tree_of form s = ancestors (above_in form s)
