-- Tests that pass and tests that fail: what `&&`, `||`, `not` and `cond` say of their parts, and how two numbers compare.
-- Assumes nothing.
use mathlib.Core.Path.{◌≡◌, refl, sym, ◌∙◌}
use mathlib.Core.Bool.{Bool, true, false, cond, not, ◌&&◌, ◌||◌, true≢false}
use mathlib.Core.List.{List, [], ◌∷◌}
use mathlib.Core.Logic.{◌⊎◌, inl, inr}
use Prim.Native.Nat.{ℕ, ◌≤◌, ◌<◌}
use lib.Dec.{eqb, ltb}
use Rattle.sets.specs.Sets.{all}
use borrow.Author.Tests.{eqb-true, eqb-false, ltb-true, ltb-false}

-- a test passes or fails, and never both
pub passes_or_fails : (b : Bool) → (b ≡ true) ⊎ (b ≡ false)
passes_or_fails true = inl refl
passes_or_fails false = inr refl

pub clash : (b : Bool) → b ≡ true → b ≡ false → ⊥
clash b p q = true≢false (sym p ∙ q)

pub fails : (b : Bool) → (b ≡ true → ⊥) → b ≡ false
fails true h = absurd (h refl)
fails false h = refl

pub passes : (b : Bool) → (b ≡ false → ⊥) → b ≡ true
passes true h = refl
passes false h = absurd (h refl)

-- two numbers compare one way or the other
pub lt-or-le : (a b : ℕ) → (a < b) ⊎ (b ≤ a)
lt-or-le a b = go (ltb a b) refl
  where
    go : (t : Bool) → ltb a b ≡ t → (a < b) ⊎ (b ≤ a)
    go true e = inl (ltb-true a b e)
    go false e = inr (ltb-false a b e)

pub eq_or_ne : (a b : ℕ) → (a ≡ b) ⊎ (a ≡ b → ⊥)
eq_or_ne a b = go (eqb a b) refl
  where
    go : (t : Bool) → eqb a b ≡ t → (a ≡ b) ⊎ (a ≡ b → ⊥)
    go true e = inl (eqb-true a b e)
    go false e = inr (eqb-false a b e)

-- two tests that pass together are the same
pub same_test : (a b : Bool) → (a ≡ true → b ≡ true) → (b ≡ true → a ≡ true) → a ≡ b
same_test true b f g = sym (f refl)
same_test false true f g = g refl
same_test false false f g = refl

pub and_i : (a b : Bool) → a ≡ true → b ≡ true → a && b ≡ true
and_i true b p q = q
and_i false b p q = p

pub and_l : (a b : Bool) → a && b ≡ true → a ≡ true
and_l true b p = refl
and_l false b p = p

pub and_r : (a b : Bool) → a && b ≡ true → b ≡ true
and_r true b p = p
and_r false b p = absurd (true≢false (sym p))

pub and_not_l : (a b : Bool) → a ≡ false → a && b ≡ false
and_not_l true b p = absurd (true≢false p)
and_not_l false b p = refl

pub and_not_r : (a b : Bool) → b ≡ false → a && b ≡ false
and_not_r true b p = p
and_not_r false b p = refl

pub and_assoc : (a b c : Bool) → a && b && c ≡ a && (b && c)
and_assoc true b c = refl
and_assoc false b c = refl

pub and_true : (a : Bool) → a && true ≡ a
and_true true = refl
and_true false = refl

pub or_l : (a b : Bool) → a ≡ true → a || b ≡ true
or_l true b p = refl
or_l false b p = absurd (true≢false (sym p))

pub or_r : (a b : Bool) → b ≡ true → a || b ≡ true
or_r true b p = refl
or_r false b p = p

pub or_cases : (a b : Bool) → a || b ≡ true → (a ≡ true) ⊎ (b ≡ true)
or_cases true b p = inl refl
or_cases false b p = inr p

pub or-none : (a b : Bool) → a ≡ false → b ≡ false → a || b ≡ false
or-none true b p q = absurd (true≢false p)
or-none false b p q = q

pub or_neither : (a b : Bool) → a || b ≡ false → (a ≡ false) × (b ≡ false)
or_neither true b h = absurd (true≢false h)
or_neither false b h = (refl, h)

pub or_assoc : (a b c : Bool) → a || b || c ≡ a || (b || c)
or_assoc true b c = refl
or_assoc false b c = refl

pub or_swap : (a b c : Bool) → a || b || c ≡ a || c || b
or_swap true b c = refl
or_swap false true true = refl
or_swap false true false = refl
or_swap false false true = refl
or_swap false false false = refl

pub or_false_r : (a : Bool) → a || false ≡ a
or_false_r true = refl
or_false_r false = refl

pub not_i : (a : Bool) → a ≡ false → not a ≡ true
not_i true p = sym p
not_i false p = refl

pub not_o : (a : Bool) → a ≡ true → not a ≡ false
not_o true p = refl
not_o false p = sym p

module _ {A : Type 0} where
  pub cond_true : (b : Bool) (x y : A) → b ≡ true → cond b x y ≡ x
  cond_true true x y p = refl
  cond_true false x y p = absurd (true≢false (sym p))

  pub cond_false : (b : Bool) (x y : A) → b ≡ false → cond b x y ≡ y
  cond_false true x y p = absurd (true≢false p)
  cond_false false x y p = refl

  pub cond_same : (b : Bool) (x : A) → cond b x x ≡ x
  cond_same true x = refl
  cond_same false x = refl

-- ---- a list of tests

pub all_head : (b : Bool) (bs : List Bool) → all (b ∷ bs) ≡ true → b ≡ true
unfolding all
all_head b bs e = and_l b (all bs) e

pub all_tail : (b : Bool) (bs : List Bool) → all (b ∷ bs) ≡ true → all bs ≡ true
unfolding all
all_tail b bs e = and_r b (all bs) e

pub all_nil : all [] ≡ true
unfolding all
all_nil = refl

pub all-step : (b : Bool) (bs : List Bool) → all (b ∷ bs) ≡ b && all bs
unfolding all
all-step b bs = refl

pub all_cons : (b : Bool) (bs : List Bool) → b ≡ true → all bs ≡ true → all (b ∷ bs) ≡ true
unfolding all
all_cons b bs p q = and_i b (all bs) p q

-- `not a || b`: a means b
pub means : (a b : Bool) → not a || b ≡ true → a ≡ true → b ≡ true
means true b e p = e
means false b e p = absurd (true≢false (sym p))

pub meant : (a b : Bool) → (a ≡ true → b ≡ true) → not a || b ≡ true
meant true b h = h refl
meant false b h = refl
