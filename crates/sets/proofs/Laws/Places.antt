-- Sets as sums of digits: a set of 64 ranks from eight bytes, and each byte from eight digits. Assumes nothing.
use mathlib.Core.Path.{◌≡◌, refl, sym, ap, ◌∙◌}
use mathlib.Core.Bool.{Bool, true, false, cond}
use mathlib.Core.List.{List}
use Prim.Native.Nat.{ℕ, zero, suc, ◌+◌, ◌*◌, ◌%◌, ◌^◌, ◌≤◌, ◌<◌}
use native.Mathlib.Omega.{arith}
use native.Mathlib.Nat.{mul-add}
use native.Mathlib.Numerals.{add-one}
use lib.Dec.{eqb}
use lib.Bits.{bit_or, or_shifted_r}
use lib.ListN.{get_or}
use lib.Pow.{pow-add}
use Rattle.sets.specs.Sets.{set_of, add, union, only}
use Rattle.sets.proofs.Laws.Members.{set_of-lt, set_of-zero}

joined : (x p : ℕ) → bit_or x (1 * p) ≡ 1 * p + x → bit_or x p ≡ x + p
joined x p e = let i : 1 * p ≡ p = omega arith in ap (bit_or x) (sym i) ∙ e ∙ omega arith

-- one rank more is one digit more
set_of_sum : (f : ℕ → Bool) (n : ℕ) → set_of f (suc n) ≡ set_of f n + cond (f n) (2 ^ n) 0
unfolding set_of add union only
set_of_sum f n = go (f n)
  where
    go : (b : Bool) → cond b (bit_or (set_of f n) (2 ^ n)) (set_of f n) ≡ set_of f n + cond b (2 ^ n) 0
    go true = joined (set_of f n) (2 ^ n) (or_shifted_r 1 n (set_of f n) (set_of-lt f n))
    go false = omega arith

-- the ranks from m on, as a set of their own
scaled : (b : Bool) (z x : ℕ) → cond b (z * x) 0 ≡ z * cond b x 0
scaled true z x = refl
scaled false z x = omega arith

set_of-joined : (f : ℕ → Bool) (m n : ℕ) → set_of f (m + n) ≡ set_of f m + 2 ^ m * set_of (λ j. f (m + j)) n
set_of-joined f m zero = let e : m + 0 ≡ m = omega arith in rw (e, set_of-zero (λ j. f (m + j))) (omega arith)
set_of-joined f m (suc n) =
    let e : m + suc n ≡ suc (m + n) = omega arith in
    let d : cond (f (m + n)) (2 ^ (m + n)) 0 ≡ 2 ^ m * cond (f (m + n)) (2 ^ n) 0 = ap (λ (x : ℕ). cond (f (m + n)) x 0) (pow-add 2 m n) ∙ scaled (f (m + n)) (2 ^ m) (2 ^ n) in
    ap (set_of f) e ∙ set_of_sum f (m + n)
    ∙ apart (set_of f (m + n)) (set_of f m) (2 ^ m) (set_of (λ j. f (m + j)) n) (cond (f (m + n)) (2 ^ (m + n)) 0) (cond (f (m + n)) (2 ^ n) 0) (set_of-joined f m n) d
    ∙ ap (λ (x : ℕ). set_of f m + 2 ^ m * x) (sym (set_of_sum (λ j. f (m + j)) n))
  where
    apart : (a b z s c x : ℕ) → a ≡ b + z * s → c ≡ z * x → a + c ≡ b + z * (s + x)
    apart a b z s c x e d = let t : z * (s + x) ≡ z * s + z * x = mul-add z s x in omega arith

-- ---- eight flags

pub record Summing (flags : List ℕ) (k j sum : ℕ) : Type 0 where
  pub within : j ≤ 8
  pub small : sum < 2 ^ j
  pub is : (f : ℕ → Bool) → ((i : ℕ) → i < 8 → get_or flags (8 * k + i) 0 ≡ cond (f i) (2 ^ i) 0) → sum ≡ set_of f j

pub summing_start : (flags : List ℕ) (k : ℕ) → Summing flags k 0 0
summing_start flags k = record { within = omega arith; small = omega arith; is = λ f h. sym (set_of-zero f) }

pub summing_step : (flags : List ℕ) (k j sum more : ℕ) → Summing flags k j sum → j < 8 → get_or flags (8 * k + j) 0 ≤ 2 ^ j → more ≡ sum + get_or flags (8 * k + j) 0 → Summing flags k (j + 1) more
summing_step flags k j sum more s l h e = record {
  within = omega arith;
  small = let d : 2 ^ (j + 1) ≡ 2 ^ j * 2 = pow-add 2 j 1 in omega (arith, s.small);
  is = λ f g. e ∙ ap (λ (x : ℕ). x + get_or flags (8 * k + j) 0) (s.is f g) ∙ ap (λ (x : ℕ). set_of f j + x) (g j l) ∙ sym (set_of_sum f j) ∙ ap (set_of f) (sym (add-one j));
}

-- ---- the flags of a row

abbrev pub Flagged : (ℕ → Bool) → List ℕ → ℕ → Type 0
Flagged f flags n = (p : ℕ) → p < n → get_or flags p 0 ≡ cond (f p) (2 ^ (p % 8)) 0

-- eight of them
abbrev pub standing : List ℕ → ℕ → ℕ → Bool
standing row q p = eqb (get_or row p 0) q

pub flagged_eight : (row : List ℕ) (q : ℕ) (flags : List ℕ) (k : ℕ) → Flagged (standing row q) flags 64 → k < 8 → (j : ℕ) → j < 8 → get_or flags (8 * k + j) 0 ≡ cond (standing row q (8 * k + j)) (2 ^ j) 0
flagged_eight row q flags k h a j b = let e : (8 * k + j) % 8 ≡ j = omega arith in h (8 * k + j) (omega arith) ∙ ap (λ (x : ℕ). cond (standing row q (8 * k + j)) (2 ^ x) 0) e

-- and eight bytes
one-octet : (f : ℕ → Bool) (k z o : ℕ) → 2 ^ (8 * k) ≡ z → o ≡ set_of (λ j. f (8 * k + j)) 8 → set_of f (8 * k + 8) ≡ set_of f (8 * k) + z * o
one-octet f k z o e h = set_of-joined f (8 * k) 8 ∙ ap (λ (x : ℕ). set_of f (8 * k) + x * set_of (λ j. f (8 * k + j)) 8) e ∙ ap (λ (x : ℕ). set_of f (8 * k) + z * x) (sym h)

pub eight_octets : (f : ℕ → Bool) (a b c d e g h i : ℕ) → a ≡ set_of (λ j. f (8 * 0 + j)) 8 → b ≡ set_of (λ j. f (8 * 1 + j)) 8 → c ≡ set_of (λ j. f (8 * 2 + j)) 8 → d ≡ set_of (λ j. f (8 * 3 + j)) 8
    → e ≡ set_of (λ j. f (8 * 4 + j)) 8 → g ≡ set_of (λ j. f (8 * 5 + j)) 8 → h ≡ set_of (λ j. f (8 * 6 + j)) 8 → i ≡ set_of (λ j. f (8 * 7 + j)) 8
    → a + 256 * b + 65536 * c + 16777216 * d + 4294967296 * e + 1099511627776 * g + 281474976710656 * h + 72057594037927936 * i ≡ set_of f 64
eight_octets f a b c d e g h i p q r s t u v w =
    omega (
      arith,
      set_of-zero f,
      one-octet f 0 1 a refl p,
      one-octet f 1 256 b refl q,
      one-octet f 2 65536 c refl r,
      one-octet f 3 16777216 d refl s,
      one-octet f 4 4294967296 e refl t,
      one-octet f 5 1099511627776 g refl u,
      one-octet f 6 281474976710656 h refl v,
      one-octet f 7 72057594037927936 i refl w,
    )
