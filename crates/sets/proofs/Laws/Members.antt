-- The members of each set that is made of others, for words of any width. Two words with the same members are equal.
-- Each law rests on one fact: a word's digit at k is its lowest digit after k halvings. Assumes nothing.
use mathlib.Core.Path.{◌≡◌, refl, sym, ap, ap₂, subst, ◌∙◌}
use mathlib.Core.Bool.{Bool, true, false, cond, not, ◌&&◌, ◌||◌}
use mathlib.Core.Logic.{◌⊎◌, inl, inr, ⊎_elim}
use Prim.Native.Nat.{ℕ, zero, suc, ◌+◌, ◌-◌, ◌*◌, ◌/◌, ◌%◌, ◌^◌, ◌≤◌, ◌<◌}
use native.Mathlib.Nat.{div-one, div-eq_of_lt, mod-lt, mod-eq_of_lt, pow-suc, mul-mod_left, mul-div_cancel_left, one-mul, le_dest, lt_of_lt_of_le, div_self, two-pow-succ}
use native.Mathlib.Numerals.{one-add, add-one}
use native.Mathlib.Omega.{arith}
use lib.Dec.{eqb, ltb, lit<}
use lib.Arith.{bin_ind}
use lib.Pow.{pow_pos, pow_mono, pow-lt, pow-add, shr-shr, shl_exact}
use lib.Bits.{bit_and, bit_or, bit_xor, and_comm, and_self, or_comm, or_self, and_shr, or_shr, xor_shr, and_mod, or_mod, xor_mod, or_lt, or_shifted_r, and_mask, xor_add_and}
use borrow.Author.Tests.{not-true, eq-eqb, ne_eqb, eqb-true, lt-ltb, le-ltb, ltb-true}
use Rattle.sets.specs.Sets.{has, only, union, meet, minus, add, below, set_of}
use Rattle.sets.proofs.Laws.Bools.{and_true, same_test, and_i, and_l, and_r, or_l, or_r, or_cases, or_assoc, or_swap, clash, fails, passes, not_i, lt-or-le, eq_or_ne, or_false_r, cond_true, and_not_l, and_assoc}

-- ---- digits

pub digit : (n : ℕ) → (n % 2 ≡ 0) ⊎ (n % 2 ≡ 1)
digit n = go (n % 2) (mod-lt n (lit< tt))
  where
    go : (d : ℕ) → d < 2 → (d ≡ 0) ⊎ (d ≡ 1)
    go zero h = inl refl
    go (suc d) h = inr (omega arith)

-- an operation on digits, as one on tests
digit_and : (x y : ℕ) → (x ≡ 0) ⊎ (x ≡ 1) → (y ≡ 0) ⊎ (y ≡ 1) → eqb (bit_and x y) 1 ≡ eqb x 1 && eqb y 1
digit_and x y (inl p) q = rw p
digit_and x y (inr p) (inl q) = rw (p, q)
digit_and x y (inr p) (inr q) = rw (p, q)

digit_or : (x y : ℕ) → (x ≡ 0) ⊎ (x ≡ 1) → (y ≡ 0) ⊎ (y ≡ 1) → eqb (bit_or x y) 1 ≡ eqb x 1 || eqb y 1
digit_or x y (inl p) (inl q) = rw (p, q)
digit_or x y (inl p) (inr q) = rw (p, q)
digit_or x y (inr p) (inl q) = rw (p, q)
digit_or x y (inr p) (inr q) = rw (p, q)

digit-minus : (x y : ℕ) → (x ≡ 0) ⊎ (x ≡ 1) → (y ≡ 0) ⊎ (y ≡ 1) → eqb (bit_xor x (bit_and x y)) 1 ≡ eqb x 1 && not (eqb y 1)
digit-minus x y (inl p) q = rw p
digit-minus x y (inr p) (inl q) = rw (p, q)
digit-minus x y (inr p) (inr q) = rw (p, q)

and-digit : (a b k : ℕ) → bit_and a b / 2 ^ k % 2 ≡ bit_and (a / 2 ^ k % 2) (b / 2 ^ k % 2)
and-digit a b k = ap (λ (x : ℕ). x % 2) (and_shr a b k) ∙ and_mod (a / 2 ^ k) (b / 2 ^ k) 1

or-digit : (a b k : ℕ) → bit_or a b / 2 ^ k % 2 ≡ bit_or (a / 2 ^ k % 2) (b / 2 ^ k % 2)
or-digit a b k = ap (λ (x : ℕ). x % 2) (or_shr a b k) ∙ or_mod (a / 2 ^ k) (b / 2 ^ k) 1

xor_digit : (a b k : ℕ) → bit_xor a b / 2 ^ k % 2 ≡ bit_xor (a / 2 ^ k % 2) (b / 2 ^ k % 2)
xor_digit a b k = ap (λ (x : ℕ). x % 2) (xor_shr a b k) ∙ xor_mod (a / 2 ^ k) (b / 2 ^ k) 1

-- ---- members of a set made of two

pub has_meet : (a b k : ℕ) → has (meet a b) k ≡ has a k && has b k
unfolding has meet
has_meet a b k = ap (λ (x : ℕ). eqb x 1) (and-digit a b k) ∙ digit_and (a / 2 ^ k % 2) (b / 2 ^ k % 2) (digit (a / 2 ^ k)) (digit (b / 2 ^ k))

pub has-union : (a b k : ℕ) → has (union a b) k ≡ has a k || has b k
unfolding has union
has-union a b k = ap (λ (x : ℕ). eqb x 1) (or-digit a b k) ∙ digit_or (a / 2 ^ k % 2) (b / 2 ^ k % 2) (digit (a / 2 ^ k)) (digit (b / 2 ^ k))

pub has-minus : (a b k : ℕ) → has (minus a b) k ≡ has a k && not (has b k)
unfolding has minus
has-minus a b k =
    ap (λ (x : ℕ). eqb x 1) (xor_digit a (bit_and a b) k ∙ ap (λ (x : ℕ). bit_xor (a / 2 ^ k % 2) x) (and-digit a b k))
    ∙ digit-minus (a / 2 ^ k % 2) (b / 2 ^ k % 2) (digit (a / 2 ^ k)) (digit (b / 2 ^ k))

pub minus_l : (a b k : ℕ) → has (minus a b) k ≡ true → has a k ≡ true
minus_l a b k t = and_l (has a k) (not (has b k)) (sym (has-minus a b k) ∙ t)

pub minus_r : (a b k : ℕ) → has (minus a b) k ≡ true → has b k ≡ false
minus_r a b k t = not-true (has b k) (and_r (has a k) (not (has b k)) (sym (has-minus a b k) ∙ t))

pub minus_i : (a b k : ℕ) → has a k ≡ true → has b k ≡ false → has (minus a b) k ≡ true
minus_i a b k p q = has-minus a b k ∙ and_i (has a k) (not (has b k)) p (not_i (has b k) q)

-- who is in a and not left over is in b
pub minus-not : (a b k : ℕ) → has (minus a b) k ≡ false → has a k ≡ true → has b k ≡ true
minus-not a b k t p = passes (has b k) (λ q. clash (has (minus a b) k) (minus_i a b k p q) t)

digit_differ : (x y : ℕ) → (x ≡ 0) ⊎ (x ≡ 1) → (y ≡ 0) ⊎ (y ≡ 1) → eqb (bit_xor x y) 1 ≡ cond (eqb y 1) (not (eqb x 1)) (eqb x 1)
digit_differ x y (inl p) (inl q) = rw (p, q)
digit_differ x y (inl p) (inr q) = rw (p, q)
digit_differ x y (inr p) (inl q) = rw (p, q)
digit_differ x y (inr p) (inr q) = rw (p, q)

has_differ : (a b k : ℕ) → has (bit_xor a b) k ≡ cond (has b k) (not (has a k)) (has a k)
unfolding has
has_differ a b k = ap (λ (x : ℕ). eqb x 1) (xor_digit a b k) ∙ digit_differ (a / 2 ^ k % 2) (b / 2 ^ k % 2) (digit (a / 2 ^ k)) (digit (b / 2 ^ k))

-- ---- the word's own bound

pub has-high : (w n k : ℕ) → w < 2 ^ n → n ≤ k → has w k ≡ false
unfolding has
has-high w n k h l = rw (div-eq_of_lt (lt_of_lt_of_le h (pow_mono l)))

pub has-zero : (k : ℕ) → has 0 k ≡ false
has-zero k = has-high 0 0 k (lit< tt) (omega arith)

-- ---- one rank

only_above : (p k : ℕ) → k < p → has (only p) k ≡ false
unfolding has only
only_above p k h = go (le_dest h)
  where
    go : (j : ℕ) × (suc k + j ≡ p) → eqb (2 ^ p / 2 ^ k % 2) 1 ≡ false
    go (j, e) =
        let q : 2 ^ p ≡ 2 ^ k * 2 ^ suc j = ap (λ (x : ℕ). 2 ^ x) (let l : p ≡ k + suc j = omega arith in l) ∙ pow-add 2 k (suc j) in
        rw (q, mul-div_cancel_left (2 ^ suc j) (pow_pos k), pow-suc 2 j, mul-mod_left (2 ^ j) 2)

only_below : (p k : ℕ) → p < k → has (only p) k ≡ false
unfolding only
only_below p k h = has-high (2 ^ p) k k (pow-lt h) (omega arith)

only_self : (p : ℕ) → has (only p) p ≡ true
unfolding has only
only_self p = rw (div_self (pow_pos p))

pub has-only : (p k : ℕ) → has (only p) k ≡ eqb k p
has-only p k = ⊎_elim (λ (h : k < p). below_p h) (λ (h : p ≤ k). from_p h) (lt-or-le k p)
  where
    below_p : k < p → has (only p) k ≡ eqb k p
    below_p h = only_above p k h ∙ sym (ne_eqb k p (λ e. omega arith))

    above : p < k → has (only p) k ≡ eqb k p
    above h = only_below p k h ∙ sym (ne_eqb k p (λ e. omega arith))

    at : k ≡ p → has (only p) k ≡ eqb k p
    at e = ap (has (only p)) e ∙ only_self p ∙ sym (eq-eqb k p e)

    from_p : p ≤ k → has (only p) k ≡ eqb k p
    from_p h = ⊎_elim at (λ (d : k ≡ p → ⊥). above (omega arith)) (eq_or_ne k p)

pub add-union : (w p : ℕ) → add w p ≡ union w (only p)
unfolding add
add-union w p = refl

pub has-add : (w p k : ℕ) → has (add w p) k ≡ has w k || eqb k p
unfolding add
has-add w p k = has-union w (only p) k ∙ ap (λ (b : Bool). has w k || b) (has-only p k)

pub has-add-same : (w p : ℕ) → has (add w p) p ≡ true
has-add-same w p = has-add w p p ∙ or_r (has w p) (eqb p p) (eq-eqb p p refl)

pub has-add-other : (w p k : ℕ) → (k ≡ p → ⊥) → has (add w p) k ≡ has w k
has-add-other w p k h = has-add w p k ∙ ap (λ (b : Bool). has w k || b) (ne_eqb k p h) ∙ or_false_r (has w k)

-- what is in stays in
pub has_add_more : (w p k : ℕ) → has w k ≡ true → has (add w p) k ≡ true
has_add_more w p k h = has-add w p k ∙ or_l (has w k) (eqb k p) h

-- what is in without p being it, was in
pub has_add_less : (w p k : ℕ) → has (add w p) k ≡ false → has w k ≡ false
has_add_less w p k h = fails (has w k) (λ t. clash (has (add w p) k) (has_add_more w p k t) h)

-- ---- two words with the same members are equal

pub halved : (w k : ℕ) → has (w / 2) k ≡ has w (suc k)
unfolding has
halved w k = ap (λ (x : ℕ). eqb (x % 2) 1) (shr-shr w 1 k ∙ ap (λ (x : ℕ). w / 2 ^ x) (one-add k))

pub lowest : (w : ℕ) → has w 0 ≡ eqb (w % 2) 1
unfolding has
lowest w = ap (λ (x : ℕ). eqb (x % 2) 1) (div-one w)

digit-same : (a b : ℕ) → (a ≡ 0) ⊎ (a ≡ 1) → (b ≡ 0) ⊎ (b ≡ 1) → eqb a 1 ≡ eqb b 1 → a ≡ b
digit-same a b (inl p) (inl q) e = p ∙ sym q
digit-same a b (inl p) (inr q) e = absurd (clash (eqb b 1) (eq-eqb b 1 q) (sym e ∙ ap (λ (x : ℕ). eqb x 1) p))
digit-same a b (inr p) (inl q) e = absurd (clash (eqb a 1) (eq-eqb a 1 p) (e ∙ ap (λ (x : ℕ). eqb x 1) q))
digit-same a b (inr p) (inr q) e = p ∙ sym q

same_lowest : (a b : ℕ) → has a 0 ≡ has b 0 → a % 2 ≡ b % 2
same_lowest a b e = digit-same (a % 2) (b % 2) (digit a) (digit b) (sym (lowest a) ∙ e ∙ lowest b)

same_halves : (a b : ℕ) → a / 2 ≡ b / 2 → a % 2 ≡ b % 2 → a ≡ b
same_halves a b p q = omega arith

empty_is : (b : ℕ) → ((k : ℕ) → has 0 k ≡ has b k) → 0 ≡ b
empty_is =
    bin_ind (λ (b : ℕ). ((k : ℕ) → has 0 k ≡ has b k) → 0 ≡ b) (λ h. refl)
    (λ b ih h. same_halves 0 b (ih (λ k. has-zero k ∙ sym (has-zero (suc k)) ∙ h (suc k) ∙ sym (halved b k))) (same_lowest 0 b (h 0)))

pub ext : (a b : ℕ) → ((k : ℕ) → has a k ≡ has b k) → a ≡ b
ext =
    bin_ind (λ (a : ℕ). (b : ℕ) → ((k : ℕ) → has a k ≡ has b k) → a ≡ b) empty_is
    (λ a ih b h. same_halves a b (ih (b / 2) (λ k. halved a k ∙ h (suc k) ∙ sym (halved b k))) (same_lowest a b (h 0)))

-- ---- the ranks below a bound

-- a member of `set_of f n` is below n and passes f
pub has-set_of : (f : ℕ → Bool) (n k : ℕ) → has (set_of f n) k ≡ ltb k n && f k
unfolding set_of
has-set_of f zero k = has-zero k ∙ sym (ap (λ (b : Bool). b && f k) (le-ltb k 0 (omega arith)))
has-set_of f (suc n) k = go (f n) refl (has-set_of f n k) (eq_or_ne k n)
  where
    at : k ≡ n → ltb k (suc n) && f k ≡ f n
    at e = ap₂ (λ (x y : Bool). x && y) (lt-ltb k (suc n) (omega arith)) (ap f e)

    off : (k ≡ n → ⊥) → ltb k (suc n) && f k ≡ ltb k n && f k
    off h = ap (λ (b : Bool). b && f k) (same_test (ltb k (suc n)) (ltb k n) (λ t. lt-ltb k n (omega (arith, ltb-true k (suc n) t))) (λ t. lt-ltb k (suc n) (omega (arith, ltb-true k n t))))

    go : (b : Bool) → f n ≡ b → has (set_of f n) k ≡ ltb k n && f k → (k ≡ n) ⊎ (k ≡ n → ⊥) → has (cond b (add (set_of f n) n) (set_of f n)) k ≡ ltb k (suc n) && f k
    go true e ih (inl q) = ap (has (add (set_of f n) n)) q ∙ has-add-same (set_of f n) n ∙ sym (at q ∙ e)
    go true e ih (inr q) = has-add-other (set_of f n) n k q ∙ ih ∙ sym (off q)
    go false e ih (inl q) = ih ∙ ap (λ (b : Bool). b && f k) (le-ltb k n (omega arith)) ∙ sym (at q ∙ e)
    go false e ih (inr q) = ih ∙ sym (off q)

pub set_of_passes : (f : ℕ → Bool) (n k : ℕ) → has (set_of f n) k ≡ true → f k ≡ true
set_of_passes f n k h = and_r (ltb k n) (f k) (sym (has-set_of f n k) ∙ h)

pub set_of_within : (f : ℕ → Bool) (n k : ℕ) → has (set_of f n) k ≡ true → k < n
set_of_within f n k h = ltb-true k n (and_l (ltb k n) (f k) (sym (has-set_of f n k) ∙ h))

pub set_of-has : (f : ℕ → Bool) (n k : ℕ) → k < n → f k ≡ true → has (set_of f n) k ≡ true
set_of-has f n k l h = has-set_of f n k ∙ and_i (ltb k n) (f k) (lt-ltb k n l) h

add-lt : (w p n : ℕ) → w < 2 ^ n → p < n → add w p < 2 ^ n
unfolding add union only
add-lt w p n h l = or_lt n w (2 ^ p) h (pow-lt l)

set_of_lt_wide : (f : ℕ → Bool) (m n : ℕ) → m ≤ n → set_of f m < 2 ^ n
unfolding set_of
set_of_lt_wide f zero n l = pow_pos n
set_of_lt_wide f (suc m) n l = go (f m) (set_of_lt_wide f m n (omega arith))
  where
    go : (b : Bool) → set_of f m < 2 ^ n → cond b (add (set_of f m) m) (set_of f m) < 2 ^ n
    go true ih = add-lt (set_of f m) m n ih l
    go false ih = ih

pub set_of-lt : (f : ℕ → Bool) (n : ℕ) → set_of f n < 2 ^ n
set_of-lt f n = set_of_lt_wide f n n (omega arith)

-- a word is below 2 ^ n where it has no member from n on
pub high_lt : (w n : ℕ) → ((k : ℕ) → n ≤ k → has w k ≡ false) → w < 2 ^ n
high_lt w n h = subst (λ (x : ℕ). x < 2 ^ n) (sym same) (set_of-lt (has w) n)
  where
    at : (k : ℕ) → (k < n) ⊎ (n ≤ k) → has w k ≡ has (set_of (has w) n) k
    at k (inl l) = sym (has-set_of (has w) n k ∙ ap (λ (b : Bool). b && has w k) (lt-ltb k n l))
    at k (inr l) = h k l ∙ sym (has-high (set_of (has w) n) n k (set_of-lt (has w) n) l)

    same : w ≡ set_of (has w) n
    same = ext w (set_of (has w) n) (λ k. at k (lt-or-le k n))

-- a member of a word below 2 ^ n is below n
pub has-lt : (w n k : ℕ) → w < 2 ^ n → has w k ≡ true → k < n
has-lt w n k h t = ⊎_elim (λ (l : k < n). l) (λ (l : n ≤ k). absurd (clash (has w k) t (has-high w n k h l))) (lt-or-le k n)

-- a word below 2 ^ n is the set of its members below n
pub set_of-members : (w n : ℕ) → w < 2 ^ n → set_of (has w) n ≡ w
set_of-members w n h = ext (set_of (has w) n) w (λ k. same_test (has (set_of (has w) n) k) (has w k) (set_of_passes (has w) n k) (λ t. set_of-has (has w) n k (has-lt w n k h t) t))

-- tests that agree below n have one set there
pub set_of_cong : (f g : ℕ → Bool) (n : ℕ) → ((k : ℕ) → k < n → f k ≡ g k) → set_of f n ≡ set_of g n
set_of_cong f g n h = ext (set_of f n) (set_of g n) (λ k. same_test (has (set_of f n) k) (has (set_of g n) k) (over f g h k) (over g f (λ j l. sym (h j l)) k))
  where
    over : (f g : ℕ → Bool) → ((k : ℕ) → k < n → f k ≡ g k) → (k : ℕ) → has (set_of f n) k ≡ true → has (set_of g n) k ≡ true
    over f g h k t = let l : k < n = set_of_within f n k t in set_of-has g n k l (sym (h k l) ∙ set_of_passes f n k t)

-- a set with nobody in it
pub none_in : (w : ℕ) → ((k : ℕ) → has w k ≡ true → ⊥) → w ≡ 0
none_in w h = ext w 0 (λ k. fails (has w k) (h k) ∙ sym (has-zero k))

-- ---- the ranks below p

below_suc : (p : ℕ) → below (suc p) ≡ add (below p) p
unfolding below add union only
below_suc p =
    let e : 2 ^ suc p - 1 ≡ 1 * 2 ^ p + (2 ^ p - 1) = omega (arith, two-pow-succ p, pow_pos p) in
    e ∙ sym (ap (bit_or (2 ^ p - 1)) (sym (one-mul (2 ^ p))) ∙ or_shifted_r 1 p (2 ^ p - 1) (omega (arith, pow_pos p)))

below_is : (p : ℕ) → below p ≡ set_of (λ k. true) p
unfolding below set_of
below_is zero = refl
below_is (suc p) = below_suc p ∙ ap (λ (w : ℕ). add w p) (below_is p)

pub has-below : (p k : ℕ) → has (below p) k ≡ ltb k p
has-below p k = ap (λ (w : ℕ). has w k) (below_is p) ∙ has-set_of (λ k. true) p k ∙ and_true (ltb k p)

pub has-below-lt : (p k : ℕ) → k < p → has (below p) k ≡ true
has-below-lt p k l = has-below p k ∙ lt-ltb k p l

pub has_below_ge : (p k : ℕ) → p ≤ k → has (below p) k ≡ false
has_below_ge p k l = has-below p k ∙ le-ltb k p l

-- the k low digits of a word
pub has_mod : (w n k : ℕ) → k < n → has (w % 2 ^ n) k ≡ has w k
unfolding below meet
has_mod w n k l = ap (λ (x : ℕ). has x k) (sym (and_mask w n)) ∙ has_meet w (below n) k ∙ ap (λ (b : Bool). has w k && b) (has-below-lt n k l) ∙ and_true (has w k)

-- ---- sets of sets

pub add-again : (w p : ℕ) → has w p ≡ true → add w p ≡ w
add-again w p h = ext (add w p) w (λ k. same_test (has (add w p) k) (has w k) (λ t. was k t) (has_add_more w p k))
  where
    was : (k : ℕ) → has (add w p) k ≡ true → has w k ≡ true
    was k t = ⊎_elim (λ (q : has w k ≡ true). q) (λ (q : eqb k p ≡ true). ap (has w) (eqb-true k p q) ∙ h) (or_cases (has w k) (eqb k p) (sym (has-add w p k) ∙ t))

pub add_twice : (w p : ℕ) → add (add w p) p ≡ add w p
add_twice w p = add-again (add w p) p (has-add-same w p)

-- of two ranks that join a set it is the same which comes first
pub add_swap : (w p q : ℕ) → add (add w p) q ≡ add (add w q) p
add_swap w p q = ext (add (add w p) q) (add (add w q) p) (λ k. same k)
  where
    same : (k : ℕ) → has (add (add w p) q) k ≡ has (add (add w q) p) k
    same k =
        has-add (add w p) q k ∙ ap (λ (x : Bool). x || eqb k q) (has-add w p k) ∙ or_swap (has w k) (eqb k p) (eqb k q)
        ∙ sym (has-add (add w q) p k ∙ ap (λ (x : Bool). x || eqb k p) (has-add w q k))

pub union-none : (w : ℕ) → union w 0 ≡ w
union-none w = ext (union w 0) w (λ k. has-union w 0 k ∙ ap (λ (b : Bool). has w k || b) (has-zero k) ∙ or_false_r (has w k))

-- a set of ranks below n, cut to those, is itself
pub meet_below : (w n : ℕ) → ((k : ℕ) → has w k ≡ true → k < n) → meet w (below n) ≡ w
meet_below w n h = ext (meet w (below n)) w (λ k. has_meet w (below n) k ∙ same_test (has w k && has (below n) k) (has w k) (and_l (has w k) (has (below n) k)) (λ t. and_i (has w k) (has (below n) k) t (has-below-lt n k (h k t))))

-- marking all below k, then k, is marking all below k + 1
pub union-below-suc : (w k : ℕ) → add (union w (below k)) k ≡ union w (below (suc k))
union-below-suc w k = ext (add (union w (below k)) k) (union w (below (suc k))) (λ j. same j)
  where
    same : (j : ℕ) → has (add (union w (below k)) k) j ≡ has (union w (below (suc k))) j
    same j =
        has-add (union w (below k)) k j ∙ ap (λ (b : Bool). b || eqb j k) (has-union w (below k) j)
        ∙ or_assoc (has w j) (has (below k) j) (eqb j k)
        ∙ ap (λ (b : Bool). has w j || b) (sym (has-add (below k) k j) ∙ ap (λ (x : ℕ). has x j) (sym (below_suc k)))
        ∙ sym (has-union w (below (suc k)) j)

pub union-below-zero : (w : ℕ) → union w (below 0) ≡ w
unfolding below
union-below-zero w = union-none w

-- ---- the processor's own operations, at n digits

-- all n digits but those of b
flipped : (n b : ℕ) → b < 2 ^ n → (2 ^ n - 1) - b ≡ bit_xor b (2 ^ n - 1)
flipped n b h =
    let e : bit_and b (2 ^ n - 1) ≡ b = and_mask b n ∙ mod-eq_of_lt h in
    let s : bit_xor b (2 ^ n - 1) + bit_and b (2 ^ n - 1) * 2 ≡ b + (2 ^ n - 1) = xor_add_and b (2 ^ n - 1) in
    omega (arith, pow_pos n)

pub and-not : (n a b : ℕ) → a < 2 ^ n → b < 2 ^ n → bit_and a ((2 ^ n - 1) - b) ≡ minus a b
unfolding below meet
and-not n a b ha hb = ext (bit_and a ((2 ^ n - 1) - b)) (minus a b) (λ k. same k (lt-or-le k n))
  where
    low : (k : ℕ) → k < n → has ((2 ^ n - 1) - b) k ≡ not (has b k)
    low k l = ap (λ (x : ℕ). has x k) (flipped n b hb) ∙ has_differ b (2 ^ n - 1) k ∙ cond_true (has (2 ^ n - 1) k) (not (has b k)) (has b k) (has-below-lt n k l)

    same : (k : ℕ) → (k < n) ⊎ (n ≤ k) → has (bit_and a ((2 ^ n - 1) - b)) k ≡ has (minus a b) k
    same k (inl l) = has_meet a ((2 ^ n - 1) - b) k ∙ ap (λ (t : Bool). has a k && t) (low k l) ∙ sym (has-minus a b k)
    same k (inr l) =
        let none : has a k ≡ false = has-high a n k ha l in
        has_meet a ((2 ^ n - 1) - b) k ∙ and_not_l (has a k) (has ((2 ^ n - 1) - b) k) none ∙ sym (has-minus a b k ∙ and_not_l (has a k) (not (has b k)) none)

pub shifted_one : (n p : ℕ) → p < n → 1 * 2 ^ p % 2 ^ n ≡ 2 ^ p
shifted_one n p h = shl_exact 1 p n (lit< tt) (omega arith) ∙ one-mul (2 ^ p)

-- ---- a set that is gathered from the front, and one without the members of another

pub set_of-put : (f : ℕ → Bool) (i w : ℕ) → w ≡ set_of f i → f i ≡ true → add w i ≡ set_of f (i + 1)
unfolding set_of
set_of-put f i w e h = rw (add-one i, h) (ap (λ (x : ℕ). add x i) e)

pub set_of_skip : (f : ℕ → Bool) (i w : ℕ) → w ≡ set_of f i → f i ≡ false → w ≡ set_of f (i + 1)
unfolding set_of
set_of_skip f i w e h = rw (add-one i, h) e

pub set_of-zero : (f : ℕ → Bool) → set_of f 0 ≡ 0
unfolding set_of
set_of-zero f = refl

pub minus-set_of : (f : ℕ → Bool) (n w : ℕ) → minus (set_of f n) w ≡ set_of (λ k. not (has w k) && f k) n
minus-set_of f n w = ext (minus (set_of f n) w) (set_of (λ k. not (has w k) && f k) n) (λ k. has-minus (set_of f n) w k ∙ ap (λ (b : Bool). b && not (has w k)) (has-set_of f n k) ∙ swap (ltb k n) (f k) (not (has w k)) ∙ sym (has-set_of (λ k. not (has w k) && f k) n k))
  where
    swap : (a b c : Bool) → a && b && c ≡ a && (c && b)
    swap true true true = refl
    swap true true false = refl
    swap true false true = refl
    swap true false false = refl
    swap false b c = refl

-- one more member taken away
pub minus_minus : (a b p : ℕ) → minus (minus a b) (only p) ≡ minus a (add b p)
minus_minus a b p = ext (minus (minus a b) (only p)) (minus a (add b p)) (λ k. same k)
  where
    move : (x y z : Bool) → x && not y && not z ≡ x && not (y || z)
    move true true z = refl
    move true false z = refl
    move false y z = refl

    same : (k : ℕ) → has (minus (minus a b) (only p)) k ≡ has (minus a (add b p)) k
    same k =
        has-minus (minus a b) (only p) k ∙ ap₂ (λ (x y : Bool). x && not y) (has-minus a b k) (has-only p k)
        ∙ move (has a k) (has b k) (eqb k p) ∙ sym (has-minus a (add b p) k ∙ ap (λ (x : Bool). has a k && not x) (has-add b p k))

pub minus-none : (a : ℕ) → minus a 0 ≡ a
minus-none a = ext (minus a 0) a (λ k. has-minus a 0 k ∙ ap (λ (x : Bool). has a k && not x) (has-zero k) ∙ and_true (has a k))

pub meet-nobody : (b : ℕ) → meet 0 b ≡ 0
meet-nobody b = ext (meet 0 b) 0 (λ k. has_meet 0 b k ∙ ap (λ (x : Bool). x && has b k) (has-zero k) ∙ sym (has-zero k))

-- OR and AND of two sets: their order does not matter, nor a set that comes twice, nor which two of three come first
pub meet_comm : (a b : ℕ) → meet a b ≡ meet b a
unfolding meet
meet_comm a b = and_comm a b

pub meet_self : (a : ℕ) → meet a a ≡ a
unfolding meet
meet_self a = and_self a

pub union_comm : (a b : ℕ) → union a b ≡ union b a
unfolding union
union_comm a b = or_comm a b

pub union_self : (a : ℕ) → union a a ≡ a
unfolding union
union_self a = or_self a

pub union_assoc : (a b c : ℕ) → union (union a b) c ≡ union a (union b c)
union_assoc a b c = ext (union (union a b) c) (union a (union b c)) (λ k.
    has-union (union a b) c k ∙ ap (λ (t : Bool). t || has c k) (has-union a b k)
    ∙ or_assoc (has a k) (has b k) (has c k) ∙ sym (has-union a (union b c) k ∙ ap (λ (t : Bool). has a k || t) (has-union b c k)))

pub meet_assoc : (a b c : ℕ) → meet (meet a b) c ≡ meet a (meet b c)
meet_assoc a b c = ext (meet (meet a b) c) (meet a (meet b c)) (λ k.
    has_meet (meet a b) c k ∙ ap (λ (t : Bool). t && has c k) (has_meet a b k)
    ∙ and_assoc (has a k) (has b k) (has c k) ∙ sym (has_meet a (meet b c) k ∙ ap (λ (t : Bool). has a k && t) (has_meet b c k)))

-- the same of the AND of words
pub bits_assoc : (a b c : ℕ) → bit_and (bit_and a b) c ≡ bit_and a (bit_and b c)
unfolding meet
bits_assoc a b c = meet_assoc a b c
