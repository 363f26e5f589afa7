-- A number written in decimal is read back, and the place after a node line is found. Assumes nothing.
use mathlib.Core.Path.{◌≡◌, refl, sym, ◌∙◌}
use mathlib.Core.Bool.{true, false, cond}
use mathlib.Core.List.{List, ◌∷◌, ◌++◌, append_assoc}
use mathlib.Core.Logic.{⊎_elim}
use Prim.Native.Nat.{ℕ, ◌+◌, ◌*◌, ◌-◌, ◌/◌, ◌%◌, ◌≤◌, ◌<◌}
use native.Mathlib.Omega.{arith}
use lib.Dec.{eqb, leb}
use lib.ListN.{length, get_or, length-append}
use lib.Seq.{get_or-append_seam, get_or-append-add}
use borrow.Author.Tests.{le-leb}
use Rattle.sets.specs.Sets.{none}
use Rattle.sets.proofs.Laws.Bools.{and_i, lt-or-le}
use Rattle.text.specs.Text.{decimal}
use Rattle.text.proofs.Laws.Digits.{decimal-one, decimal-two, decimal_short}
use Rattle.proposing.specs.Proposing.{is_digit, number_from, number_in, width, after_node, marks_from, size_in, marks_in}

-- ---- bytes that are digits, and bytes that end a number

pub space_ends : is_digit 32 ≡ false
unfolding is_digit
space_ends = refl

pub semicolon_ends : is_digit 59 ≡ false
unfolding is_digit
semicolon_ends = refl

pub brace_ends : is_digit 125 ≡ false
unfolding is_digit
brace_ends = refl

digit_is : (d : ℕ) → d < 10 → is_digit (48 + d) ≡ true
unfolding is_digit
digit_is d l = and_i (leb 48 (48 + d)) (leb (48 + d) 57) (le-leb 48 (48 + d) (omega arith)) (le-leb (48 + d) 57 (omega arith))

-- ---- the width of a number is the length of its decimal

pub width_is : (p : ℕ) → p < 100 → width p ≡ length (decimal p)
unfolding width
width_is p m = sym (decimal_short p m)

-- ---- a number at a place

second : (pre : List ℕ) (x y : ℕ) (rest : List ℕ) → get_or (pre ++ (x ∷ y ∷ rest)) (length pre + 1) 0 ≡ y
second pre x y rest = get_or-append-add pre (x ∷ y ∷ rest) 1 0

number_bytes : (pre : List ℕ) (x y : ℕ) (rest : List ℕ) → number_in (pre ++ (x ∷ y ∷ rest)) (length pre) ≡ number_from x y
unfolding number_in
number_bytes pre x y rest = rw (get_or-append_seam pre x (y ∷ rest) 0, second pre x y rest)

of_one : (p c : ℕ) → p < 10 → is_digit c ≡ false → number_from (48 + p) c ≡ p
unfolding number_from
of_one p c l e = rw (digit_is p l, e) (let z : 48 + p - 48 ≡ p = omega arith in z)

of_two : (p : ℕ) → 10 ≤ p → p < 100 → number_from (48 + p / 10) (48 + p % 10) ≡ p
unfolding number_from
of_two p l m =
    rw (digit_is (p / 10) (omega arith), digit_is (p % 10) (omega arith))
    (let z : 10 * (48 + p / 10 - 48) + (48 + p % 10 - 48) ≡ p = omega arith in z)

-- A number that ends before a byte that is no digit is read.
pub number_read : (pre : List ℕ) (p c : ℕ) (rest : List ℕ) → p < 100 → is_digit c ≡ false → number_in (pre ++ (decimal p ++ (c ∷ rest))) (length pre) ≡ p
number_read pre p c rest m e = ⊎_elim one two (lt-or-le p 10)
  where
    one : p < 10 → number_in (pre ++ (decimal p ++ (c ∷ rest))) (length pre) ≡ p
    one l = rw (decimal-one p l) (number_bytes pre (48 + p) c rest ∙ of_one p c l e)

    two : 10 ≤ p → number_in (pre ++ (decimal p ++ (c ∷ rest))) (length pre) ≡ p
    two l = rw (decimal-two p l m) (number_bytes pre (48 + p / 10) (48 + p % 10) (c ∷ rest) ∙ of_two p l m)

-- Where no digit stands there is none.
pub number-unread : (pre : List ℕ) (c : ℕ) (rest : List ℕ) → is_digit c ≡ false → number_in (pre ++ (c ∷ rest)) (length pre) ≡ none
unfolding number_in number_from
number-unread pre c rest e = rw (get_or-append_seam pre c rest 0, e)

-- The line of a rank ends two bytes after its number, or fourteen.
pub after_read : (pre : List ℕ) (p c : ℕ) (rest : List ℕ) → p < 100 → after_node (pre ++ (decimal p ++ (c ∷ rest))) (length pre) p ≡ length pre + length (decimal p) + cond (eqb c 59) 2 14
unfolding after_node
after_read pre p c rest m =
    let s : length (pre ++ decimal p) ≡ length pre + length (decimal p) = length-append pre (decimal p) in
    let b : get_or (pre ++ (decimal p ++ (c ∷ rest))) (length pre + length (decimal p)) 0 ≡ c = rw (sym (append_assoc pre (decimal p) (c ∷ rest)), sym s) (get_or-append_seam (pre ++ decimal p) c rest 0) in
    rw (width_is p m, b)

pub size_in_lem : (text : List ℕ) → size_in text ≡ number_in text 9
unfolding size_in
size_in_lem text = refl

pub marks_in_lem : (text : List ℕ) (n : ℕ) → marks_in text n ≡ marks_from text n 0 (12 + width n) 0
unfolding marks_in
marks_in_lem text n = refl
