-- Numbers and fields along their code. Assumes nothing.
use mathlib.Core.Path.{◌≡◌, refl, sym, ap, ◌∙◌}
use mathlib.Core.Bool.{Bool, true, false, cond}
use mathlib.Core.List.{List, [], ◌∷◌, ◌++◌}
use mathlib.Core.Logic.{◌⊎◌, inl, inr}
use Prim.Native.Nat.{ℕ, zero, suc, ◌+◌, ◌/◌, ◌%◌, ◌^◌, ◌≤◌, ◌<◌}
use native.Mathlib.Omega.{arith}
use mir.Syntax.{w32}
use mir.Val.{Fits}
use lib.Dec.{ltb}
use lib.ListN.{length, set, length-append}
use borrow.Author.Tests.{lt-ltb, le-ltb, ltb-true, ltb-false}
use Rattle.sets.proofs.Laws.Bools.{passes_or_fails}
use Rattle.text.specs.Text.{Wrote, pasted, digits_of, decimal, field}
use Rattle.text.proofs.Laws.Writing.{wrote_kept, wrote_then}

-- ---- digits

digits_short : (places x : ℕ) (d : List ℕ) (b : Bool) → length d ≤ places → length (cond b ((48 + x) ∷ []) (d ++ ((48 + x % 10) ∷ []))) ≤ suc places
digits_short places x d true h = omega arith
digits_short places x d false h = omega (arith, length-append d ((48 + x % 10) ∷ []))

length_digits : (places x : ℕ) → length (digits_of places x) ≤ places
unfolding digits_of
length_digits zero x = omega arith
length_digits (suc places) x = digits_short places x (digits_of places (x / 10)) (ltb x 10) (length_digits places (x / 10))

-- a place more changes nothing where the digits have room
digits_step : (x : ℕ) (d e : List ℕ) → (10 ≤ x → d ≡ e) → cond (ltb x 10) ((48 + x) ∷ []) (d ++ ((48 + x % 10) ∷ [])) ≡ cond (ltb x 10) ((48 + x) ∷ []) (e ++ ((48 + x % 10) ∷ []))
digits_step x d e h = go (passes_or_fails (ltb x 10))
  where
    go : (ltb x 10 ≡ true) ⊎ (ltb x 10 ≡ false) → cond (ltb x 10) ((48 + x) ∷ []) (d ++ ((48 + x % 10) ∷ [])) ≡ cond (ltb x 10) ((48 + x) ∷ []) (e ++ ((48 + x % 10) ∷ []))
    go (inl t) = rw t
    go (inr t) = rw (h (ltb-false x 10 t))

digits_more : (places x : ℕ) → x < 10 ^ suc places → digits_of (suc (suc places)) x ≡ digits_of (suc places) x
unfolding digits_of
digits_more zero x l = digits_step x (digits_of 1 (x / 10)) [] (λ g. absurd (omega arith))
digits_more (suc places) x l = digits_step x (digits_of (suc (suc places)) (x / 10)) (digits_of (suc places) (x / 10)) (λ g. digits_more places (x / 10) (omega arith))

digits_last : (places x : ℕ) → 10 ≤ x → digits_of (suc places) x ≡ digits_of places (x / 10) ++ ((48 + x % 10) ∷ [])
unfolding digits_of
digits_last places x l = rw (le-ltb x 10 l)

pub length-decimal : (x : ℕ) → length (decimal x) ≤ 10
unfolding decimal
length-decimal x = length_digits 10 x

-- a number below ten is one digit; any other is a tenth's digits and one more
pub decimal-one : (x : ℕ) → x < 10 → decimal x ≡ (48 + x) ∷ []
unfolding decimal digits_of
decimal-one x l = rw (lt-ltb x 10 l)

pub decimal_more : (x : ℕ) → x < 2 ^ 32 → 10 ≤ x → decimal x ≡ decimal (x / 10) ++ ((48 + x % 10) ∷ [])
unfolding decimal
decimal_more x w l = digits_last 9 x l ∙ ap (λ (d : List ℕ). d ++ ((48 + x % 10) ∷ [])) (sym (digits_more 8 (x / 10) (omega arith)))

pub decimal-two : (p : ℕ) → 10 ≤ p → p < 100 → decimal p ≡ (48 + p / 10) ∷ (48 + p % 10) ∷ []
decimal-two p l m = decimal_more p (omega arith) l ∙ rw (decimal-one (p / 10) (omega arith))

pub decimal_short : (p : ℕ) → p < 100 → length (decimal p) ≡ cond (ltb p 10) 1 2
decimal_short p m = go (passes_or_fails (ltb p 10))
  where
    go : (ltb p 10 ≡ true) ⊎ (ltb p 10 ≡ false) → length (decimal p) ≡ cond (ltb p 10) 1 2
    go (inl t) = rw (t, decimal-one p (ltb-true p 10 t))
    go (inr t) = rw (t, decimal-two p (ltb-false p 10 t) m)

-- the code's two ways: one digit, or a tenth's digits and one more
pub number_one : (text : List ℕ) (at x : ℕ) → x < 10 → Wrote text at (decimal x) (set text at (48 + x)) (at + 1)
unfolding pasted
number_one text at x l = rw (decimal-one x l) (record { text_is = refl; next_is = refl })

pub number_more : (text : List ℕ) (at x : ℕ) (t : List ℕ) (a : ℕ) → Fits w32 x → 10 ≤ x → Wrote text at (decimal (x / 10)) t a → Wrote text at (decimal x) (set t a (48 + x % 10)) (a + 1)
unfolding pasted
number_more text at x t a f l v = rw (decimal_more x f.fits l) (wrote_then v (record { text_is = refl; next_is = refl }))

pub number_room : (text : List ℕ) (at x : ℕ) (t : List ℕ) (a : ℕ) → Fits w32 x → at + 10 ≤ length text → Wrote text at (decimal (x / 10)) t a → a < length t
unfolding decimal
number_room text at x t a f r w =
    let e : length (digits_of 10 (x / 10)) ≡ length (digits_of 9 (x / 10)) = ap length (digits_more 8 (x / 10) (omega (arith, f.fits))) in
    omega (arith, w.next_is, wrote_kept w, length_digits 9 (x / 10))

pub length-field : (x : ℕ) → length (field x) ≤ 11
unfolding field
length-field x = omega (arith, length-decimal x)
