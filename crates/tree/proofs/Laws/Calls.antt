-- Sizes, and a table that was checked. Assumes nothing.
use mathlib.Core.Path.{◌≡◌, refl, sym, ◌∙◌}
use mathlib.Core.Bool.{Bool, true, false, not, ◌||◌}
use mathlib.Core.List.{List}
use Prim.Native.Nat.{ℕ, ◌≤◌, ◌<◌}
use native.Mathlib.Omega.{arith}
use mir.Syntax.{w8}
use mir.Val.{Fits}
use lib.Dec.{eqb, ltb}
use borrow.Author.Tests.{ltb-false, le-ltb, eq-eqb, ne_eqb, not-false}
use Rattle.sets.proofs.Laws.Bools.{fails, clash, or_l, or_r}
use Rattle.tree.specs.Tree.{fresh}
use Rattle.tree.specs.Calls.{wrong_size, same}
use Rattle.tree.proofs.Laws.Rows.{same-eq}

-- ---- sizes

-- a group of none is refused
pub size_none : wrong_size 0 ≡ true
unfolding wrong_size
size_none = refl

pub size-le : (n : ℕ) (b : Bool) → b ≡ wrong_size n → b ≡ false → n ≤ 64
unfolding wrong_size
size-le n b e f = ltb-false 64 n (fails (ltb 64 n) (λ t. clash (eqb n 0 || ltb 64 n) (or_r (eqb n 0) (ltb 64 n) t) (sym e ∙ f)))

pub size_pos : (n : ℕ) → wrong_size n ≡ false → 0 < n
unfolding wrong_size
size_pos n e = pos (λ z. clash (eqb n 0 || ltb 64 n) (or_l (eqb n 0) (ltb 64 n) (eq-eqb n 0 z)) e)
  where
    pos : (n ≡ 0 → ⊥) → 0 < n
    pos h = omega arith

pub size_right : (n : ℕ) → 0 < n → n ≤ 64 → wrong_size n ≡ false
unfolding wrong_size
size_right n a b = let e : eqb n 0 ≡ false = ne_eqb n 0 (λ z. omega arith) in rw e (le-ltb 64 n b)

pub size_fits : (n : ℕ) (b : Bool) → b ≡ wrong_size n → b ≡ false → Fits w8 n
size_fits n b e f = record { fits = omega (arith, size-le n b e f) }

-- ---- tables

pub checked_fresh : (anc : ℕ → ℕ) (n marks : ℕ) (t w : List ℕ) (k : Bool) → w ≡ fresh anc n marks → k ≡ same t w → not k ≡ false → t ≡ fresh anc n marks
checked_fresh anc n marks t w k i j l = same-eq t w (sym j ∙ not-false k l) ∙ i
