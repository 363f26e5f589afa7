-- The proposal along its code. Assumes nothing.
use mathlib.Core.Path.{◌≡◌, refl, sym, ap, ◌∙◌}
use mathlib.Core.Bool.{Bool, true, false, cond}
use mathlib.Core.List.{List}
use Prim.Native.Nat.{ℕ, zero, suc, ◌+◌, ◌*◌, ◌-◌, ◌≤◌, ◌<◌}
use native.Mathlib.Omega.{arith}
use lib.Dec.{eqb, ltb, leb}
use lib.ListN.{get_or}
use borrow.Author.Tests.{lt-ltb, le-ltb, eq-eqb, ne_eqb, eqb-true, leb-true}
use Rattle.std.specs.Prelude.{Option, None, Some}
use Rattle.std.specs.Option.{option_eq}
use Rattle.std.specs.Char.{is_ascii_digit}
use Rattle.sets.specs.Sets.{none, found, add}
use Rattle.sets.proofs.Laws.Found.{found-some}
use Rattle.sets.proofs.Laws.Bools.{clash, and_r}
use Rattle.proposing.specs.Proposing.{is_digit, number_from, number_in, width, after_node, marks_from, marks_in}

-- ---- digits

-- the library's digits are the definition's
pub digit_is : (b : ℕ) (d : Bool) → d ≡ is_ascii_digit b → d ≡ is_digit b
unfolding is_digit
digit_is b d e = e

digit_to : (b : ℕ) (d : Bool) → d ≡ is_digit b → d ≡ true → b ≤ 57
unfolding is_digit
digit_to b d e t = leb-true b 57 (and_r (leb 48 b) (leb b 57) (sym e ∙ t))

pub number-none : (x y : ℕ) (d : Bool) → d ≡ is_digit x → d ≡ false → None ≡ found (number_from x y)
unfolding number_from
number-none x y d e n = rw (sym e ∙ n)

pub number-one : (x y : ℕ) (d f : Bool) → d ≡ is_digit x → d ≡ true → f ≡ is_digit y → f ≡ false → Some (x - 48) ≡ found (number_from x y)
unfolding number_from
number-one x y d f e t g n = found-some (number_from x y) (x - 48) (rw (sym e ∙ t, sym g ∙ n)) (λ z. omega (arith, digit_to x d e t))

pub number-two : (x y : ℕ) (d f : Bool) → d ≡ is_digit x → d ≡ true → f ≡ is_digit y → f ≡ true → Some (10 * (x - 48) + (y - 48)) ≡ found (number_from x y)
unfolding number_from
number-two x y d f e t g u = found-some (number_from x y) (10 * (x - 48) + (y - 48)) (rw (sym e ∙ t, sym g ∙ u)) (λ z. omega (arith, digit_to x d e t, digit_to y f g u))

-- a number that is compared with a rank
same : (k p : ℕ) (b : Bool) → option_eq eqb (cond b None (Some k)) (Some p) ≡ true → k ≡ p
same k p true h = absurd (clash false h refl)
same k p false h = eqb-true k p h

pub read_same : (k p : ℕ) (d : Bool) (r : Option ℕ) → r ≡ found k → d ≡ option_eq eqb r (Some p) → d ≡ true → k ≡ p
read_same k p d r e f t = same k p (eqb k none) (ap (λ (o : Option ℕ). option_eq eqb o (Some p)) (sym e) ∙ (sym f ∙ t))

pub read_other : (k p : ℕ) (d : Bool) (r : Option ℕ) → p < none → r ≡ found k → d ≡ option_eq eqb r (Some p) → d ≡ false → k ≡ p → ⊥
read_other k p d r l e f t z =
    let n : eqb k none ≡ false = ne_eqb k none (λ y. omega arith) in
    let g : option_eq eqb (found k) (Some p) ≡ true = rw n (eq-eqb k p z) in
    clash d (f ∙ (ap (λ (o : Option ℕ). option_eq eqb o (Some p)) e ∙ g)) t

-- ---- widths and places

pub width_one : (p : ℕ) → p < 10 → 1 ≡ width p
unfolding width
width_one p l = rw (lt-ltb p 10 l)

pub width_two : (p : ℕ) → 10 ≤ p → 2 ≡ width p
unfolding width
width_two p l = rw (le-ltb p 10 l)

width-le : (p : ℕ) → width p ≤ 2
unfolding width
width-le p = go (ltb p 10)
  where
    go : (b : Bool) → cond b 1 2 ≤ 2
    go true = omega arith
    go false = omega arith

pub width_small : (p w : ℕ) → w ≡ width p → w ≤ 2
width_small p w e = omega (arith, width-le p)

pub after_plain : (text : List ℕ) (at p w b : ℕ) → w ≡ width p → b ≡ get_or text (at + w) 0 → b ≡ 59 → at + w + 2 ≡ after_node text at p
unfolding after_node
after_plain text at p w b e f g = rw (sym e, sym f, eq-eqb b 59 g)

pub after_box : (text : List ℕ) (at p w b : ℕ) → w ≡ width p → b ≡ get_or text (at + w) 0 → (b ≡ 59 → ⊥) → at + w + 14 ≡ after_node text at p
unfolding after_node
after_box text at p w b e f g = rw (sym e, sym f, ne_eqb b 59 g)

after-le : (text : List ℕ) (at p : ℕ) → after_node text at p ≤ at + 16
unfolding after_node
after-le text at p = go (eqb (get_or text (at + width p) 0) 59)
  where
    go : (b : Bool) → at + width p + cond b 2 14 ≤ at + 16
    go true = omega (arith, width-le p)
    go false = omega (arith, width-le p)

-- ---- the marks: before rank p, the rest of the proposal is still to come

pub record Proposing (text : List ℕ) (n marks at p : ℕ) : Type 0 where
  pub within : p ≤ n
  pub near : at ≤ 14 + 16 * p
  pub rest : marks_in text n ≡ marks_from text (n - p) p at marks

pub proposing_start : (text : List ℕ) (n w : ℕ) → w ≡ width n → Proposing text n 0 (12 + w) 0
unfolding marks_in
proposing_start text n w e = record { within = omega arith; near = omega (arith, width-le n); rest = let z : n ≡ n - 0 = omega arith in rw e (ap (λ (k : ℕ). marks_from text k 0 (12 + width n) 0) z) }

pub from_take : (text : List ℕ) (left p at marks : ℕ) → number_in text at ≡ p → marks_from text (suc left) p at marks ≡ marks_from text left (p + 1) (after_node text at p) marks
unfolding marks_from
from_take text left p at marks e = rw (eq-eqb (number_in text at) p e)

pub from_skip : (text : List ℕ) (left p at marks : ℕ) → (number_in text at ≡ p → ⊥) → marks_from text (suc left) p at marks ≡ marks_from text left (p + 1) at (add marks p)
unfolding marks_from
from_skip text left p at marks d = rw (ne_eqb (number_in text at) p d)

pub proposing_take : (text : List ℕ) (n marks at p a m b : ℕ) → Proposing text n marks at p → p < n → number_in text at ≡ p → a ≡ after_node text at p → m ≡ marks → b ≡ a → Proposing text n m b (p + 1)
proposing_take text n marks at p a m b h l f g i j = record {
  within = omega arith;
  near = omega (arith, h.near, after-le text at p);
  rest =
      let s : n - p ≡ suc (n - (p + 1)) = omega arith in
      h.rest ∙ (ap (λ (k : ℕ). marks_from text k p at marks) s ∙ (from_take text (n - (p + 1)) p at marks f ∙ rw (i, j, g)));
}

pub proposing_skip : (text : List ℕ) (n marks at p m m' b : ℕ) → Proposing text n marks at p → p < n → (number_in text at ≡ p → ⊥) → m ≡ add marks p → m' ≡ m → b ≡ at → Proposing text n m' b (p + 1)
proposing_skip text n marks at p m m' b h l f g i j = record {
  within = omega arith;
  near = omega (arith, h.near);
  rest =
      let s : n - p ≡ suc (n - (p + 1)) = omega arith in
      h.rest ∙ (ap (λ (k : ℕ). marks_from text k p at marks) s ∙ (from_skip text (n - (p + 1)) p at marks f ∙ rw (i, j, g)));
}

pub from_none : (text : List ℕ) (p at marks : ℕ) → marks_from text zero p at marks ≡ marks
unfolding marks_from
from_none text p at marks = refl

pub proposing_end : (text : List ℕ) (n marks at p : ℕ) → Proposing text n marks at p → n ≤ p → marks ≡ marks_in text n
unfolding marks_from
proposing_end text n marks at p h l =
    let z : n - p ≡ zero = omega arith in
    sym (h.rest ∙ ap (λ (k : ℕ). marks_from text k p at marks) z)
