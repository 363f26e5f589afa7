-- The processor's bit counts are the sets' definitions: the zeros below give the smallest member, the zeros above the
-- largest, the ones the size. Over any width. Assumes nothing.
use mathlib.Core.Path.{◌≡◌, refl, sym, ap, subst, ◌∙◌}
use mathlib.Core.Bool.{true, false, cond}
use mathlib.Core.Logic.{◌⊎◌, inl, inr}
use Prim.Native.Nat.{ℕ, zero, suc, ◌+◌, ◌/◌, ◌%◌, ◌^◌, ◌≤◌, ◌<◌}
use native.Mathlib.Nat.{mod-lt, div-lt_iff_lt-mul, div-eq_of_lt-le, one-mul, pow-succ'}
use native.Mathlib.Omega.{arith}
use lib.Dec.{eqb}
use lib.Arith.{lt-one}
use lib.Pow.{pow_pos, split}
use lib.Count.{ones, count_leading_zeros, count_trailing_zeros, under, ones_cat, leading_top}
use Rattle.sets.specs.Sets.{has, count, largest, smallest}
use Rattle.sets.proofs.Laws.Bools.{clash}
use Rattle.sets.proofs.Laws.Members.{has-zero, has_mod, has-high, halved, lowest, digit}
use Rattle.sets.proofs.Laws.Searches.{Nobody, Smallest, Largest, smallest_is, smallest-none, largest_is, largest-none, count_cong, count_none}

-- ---- the zeros below the smallest member

-- the k lowest ranks: nobody among them is a member, or the zeros are as many as the smallest member's number
data Zeros (w k : ℕ) : ℕ → Type 0 where
  all : Nobody (has w) k → Zeros w k k
  up_to : {r : ℕ} → Smallest (has w) k r → Zeros w k r

zeros : (k w : ℕ) → Zeros w k (count_trailing_zeros k w)
unfolding count_trailing_zeros
zeros zero w = all (λ j h. absurd (omega arith))
zeros (suc k) w = go (w % 2) (digit w) refl (count_trailing_zeros k (w / 2)) (zeros k (w / 2))
  where
    first : w % 2 ≡ 1 → Smallest (has w) (suc k) 0
    first e = record { within = omega arith; passes = lowest w ∙ ap (λ (x : ℕ). eqb x 1) e; first = λ j h. absurd (omega arith) }

    none-at : w % 2 ≡ 0 → has w 0 ≡ false
    none-at e = lowest w ∙ ap (λ (x : ℕ). eqb x 1) e

    nobody : w % 2 ≡ 0 → Nobody (has (w / 2)) k → Nobody (has w) (suc k)
    nobody e h zero l = none-at e
    nobody e h (suc j) l = sym (halved w j) ∙ h j (omega arith)

    before : w % 2 ≡ 0 → (r : ℕ) → Smallest (has (w / 2)) k r → (j : ℕ) → j < suc r → has w j ≡ false
    before e r s zero l = none-at e
    before e r s (suc j) l = sym (halved w j) ∙ s.first j (omega arith)

    later : w % 2 ≡ 0 → (r : ℕ) → Smallest (has (w / 2)) k r → Smallest (has w) (suc k) (suc r)
    later e r s = record { within = omega (arith, s.within); passes = sym (halved w r) ∙ s.passes; first = before e r s }

    go : (d : ℕ) → (d ≡ 0) ⊎ (d ≡ 1) → w % 2 ≡ d → (t : ℕ) → Zeros (w / 2) k t → Zeros w (suc k) (under d t)
    go zero c e t (all h) = all (nobody e h)
    go zero c e t (up_to s) = up_to (later e t s)
    go (suc d) (inl q) e t v = absurd (omega arith)
    go (suc d) (inr q) e t v = up_to (first (e ∙ q))

-- the smallest member of a word that has one among its n lowest ranks
pub trailing_smallest : (n w d k : ℕ) → k < n → has w k ≡ true → smallest (has w) n d ≡ count_trailing_zeros n w
trailing_smallest n w d k l t = go (count_trailing_zeros n w) (zeros n w)
  where
    go : (r : ℕ) → Zeros w n r → smallest (has w) n d ≡ r
    go r (all h) = absurd (clash (has w k) t (h k l))
    go r (up_to s) = smallest_is (has w) n d r s

pub empty_smallest : (n d : ℕ) → smallest (has 0) n d ≡ d
empty_smallest n d = smallest-none (has 0) n d (λ k h. has-zero k)

-- ---- the zeros above the largest member

-- a word that is not empty has a largest member, with count_leading_zeros above it
pub top_member : (n w : ℕ) → 0 < w → w < 2 ^ n → (j : ℕ) × (count_leading_zeros n w + suc j ≡ n) × Largest (has w) n j
unfolding has
top_member n w p h =
    let t = leading_top n w p h in
    let j = t.0 in
    let one : w / 2 ^ j ≡ 1 = div-eq_of_lt-le (2 ^ j) (subst (λ (x : ℕ). x ≤ w) (sym (one-mul (2 ^ j))) t.2) (subst (λ (x : ℕ). w < x) (pow-succ' 2 j) t.3) in
    (j, t.1, record { within = omega (arith, t.1); passes = ap (λ (x : ℕ). eqb (x % 2) 1) one; last = λ k a b. has-high w (suc j) k t.3 a })

pub leading_largest : (n w d : ℕ) → 0 < w → w < 2 ^ n → suc (largest (has w) n d) + count_leading_zeros n w ≡ n
leading_largest n w d p h =
    let t = top_member n w p h in
    let e : largest (has w) n d ≡ t.0 = largest_is (has w) n d t.0 t.2 in
    omega (arith, t.1, e)

pub empty_largest : (n d : ℕ) → largest (has 0) n d ≡ d
empty_largest n d = largest-none (has 0) n d (λ k h. has-zero k)

-- ---- the ones

-- the digit at n is counted where it is set
top_digit : (w n a c : ℕ) → w / 2 ^ n ≡ a → a < 2 → ones a + c ≡ cond (has w n) (suc c) c
unfolding has ones
top_digit w n zero c e l = rw e (omega arith)
top_digit w n (suc zero) c e l = rw e (omega arith)
top_digit w n (suc (suc a)) c e l = absurd (omega arith)

pub ones_count : (n w : ℕ) → w < 2 ^ n → ones w ≡ count (has w) n
unfolding count ones
ones_count zero w h = ap ones (lt-one h)
ones_count (suc n) w h =
    let low : ones (w % 2 ^ n) ≡ count (has w) n = ones_count n (w % 2 ^ n) (mod-lt w (pow_pos n)) ∙ count_cong (has (w % 2 ^ n)) (has w) n (λ k l. has_mod w n k l) in
    let high : w / 2 ^ n < 2 = (div-lt_iff_lt-mul (pow_pos n)).1 (subst (λ (x : ℕ). w < x) (pow-succ' 2 n) h) in
    ap ones (sym (split w n)) ∙ ones_cat n (w / 2 ^ n) (w % 2 ^ n) (mod-lt w (pow_pos n)) ∙ ap (λ (x : ℕ). ones (w / 2 ^ n) + x) low
    ∙ top_digit w n (w / 2 ^ n) (count (has w) n) refl high

pub empty_count : (n : ℕ) → count (has 0) n ≡ 0
empty_count n = count_none (has 0) n (λ k h. has-zero k)
