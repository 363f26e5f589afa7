-- Size, form and box size: what the check of them finds. Assumes nothing.
use mathlib.Core.Path.{◌≡◌, refl, sym, ap}
use mathlib.Core.Bool.{Bool, true, false, cond}
use Prim.Native.Nat.{ℕ, ◌≤◌, ◌<◌}
use native.Mathlib.Omega.{arith}
use mir.Syntax.{w8}
use mir.Val.{Fits}
use lib.Dec.{eqb, ltb}
use borrow.Author.Tests.{ltb-false, le-ltb, eq-eqb}
use Rattle.std.proofs.Common.{Result, Ok, Err}
use Rattle.sets.proofs.Laws.Bools.{clash}
use Rattle.answers.specs.declared.Refusal.{Refusal}
use Rattle.answers.specs.Answers.{number, answer_of}
use Rattle.answers.proofs.Laws.Numbers.{number-not_0, number-one_to_one}
use Rattle.answers.specs.Refusals.{accepted, bad_size, dead_rank, too_short, bad_box, bad_form}
use Rattle.tree.specs.Forms.{flat_form}
use Rattle.tree.specs.Calls.{wrong_size}
use Rattle.tree.proofs.Laws.Calls.{size_none, size-le, size_pos, size_right}
use Rattle.calls.specs.Calls.{misshapen}

-- What start, mark and climb ask of them.
pub record Shapely (n form span : ℕ) : Type 0 where
  pub some : 0 < n
  pub small : n ≤ 64
  pub boxed : 0 < span
  pub box_small : span ≤ 64
  pub known : form ≤ 2

pub shapely : (n form span : ℕ) → misshapen n form span ≡ 0 → Shapely n form span
unfolding misshapen
shapely n form span = go (wrong_size n) (wrong_size span) (ltb 2 form) refl refl refl
  where
    go : (a b c : Bool) → wrong_size n ≡ a → wrong_size span ≡ b → ltb 2 form ≡ c → cond a bad_size (cond b bad_box (cond c bad_form accepted)) ≡ 0 → Shapely n form span
    go true b c x y z e = absurd (omega arith)
    go false true c x y z e = absurd (omega arith)
    go false false true x y z e = absurd (omega arith)
    go false false false x y z e = record { some = size_pos n x; small = size-le n (wrong_size n) refl x; boxed = size_pos span y; box_small = size-le span (wrong_size span) refl y; known = ltb-false 2 form z }

pub shape_right : (n form span : ℕ) → Shapely n form span → misshapen n form span ≡ 0
unfolding misshapen
shape_right n form span s = rw (size_right n s.some s.small, size_right span s.boxed s.box_small, le-ltb 2 form s.known)

-- no refusal of these names a rank: it is 1, 50 or 51, and neither 6 nor 12
pub shape_numbers : (n form span : ℕ) → (misshapen n form span ≡ dead_rank → ⊥) × (misshapen n form span ≡ too_short → ⊥)
unfolding misshapen
shape_numbers n form span = go (wrong_size n) (wrong_size span) (ltb 2 form)
  where
    go : (a b c : Bool) → (cond a bad_size (cond b bad_box (cond c bad_form accepted)) ≡ dead_rank → ⊥) × (cond a bad_size (cond b bad_box (cond c bad_form accepted)) ≡ too_short → ⊥)
    go true b c = (λ e. omega arith, λ e. omega arith)
    go false true c = (λ e. omega arith, λ e. omega arith)
    go false false true = (λ e. omega arith, λ e. omega arith)
    go false false false = (λ e. omega arith, λ e. omega arith)

-- a group of none is refused with 1
pub shape-none : (form span : ℕ) → misshapen 0 form span ≡ 1
unfolding misshapen
shape-none form span = rw size_none

-- of two right box sizes neither changes the number
pub both_right : (n form x y : ℕ) → wrong_size x ≡ false → wrong_size y ≡ false → misshapen n form y ≡ misshapen n form x
unfolding misshapen
both_right n form x y e f = rw (e, f)

-- the flat form with box size 1, as schedule files have it
pub flat_shapely : (n : ℕ) → wrong_size n ≡ false → Shapely n flat_form 1
flat_shapely n e = record { some = size_pos n e; small = size-le n (wrong_size n) refl e; boxed = omega arith; box_small = omega arith; known = omega arith }

-- along the code, once the check has answered 0
pub shape-zero : (n form span : ℕ) → 0 ≡ misshapen n form span → misshapen n form span ≡ 0
shape-zero n form span e = sym e

module _ (n form span : ℕ) (e : 0 ≡ misshapen n form span) where
  found : Shapely n form span
  found = shapely n form span (sym e)

  pub shape-le : n ≤ 64
  shape-le = found.small

  pub box_pos : 0 < span
  box_pos = found.boxed

  pub shape_fits : Fits w8 n
  shape_fits = record { fits = omega (arith, found.small) }

  pub form_fits : Fits w8 form
  form_fits = record { fits = omega (arith, found.known) }

  pub box_fits : Fits w8 span
  box_fits = record { fits = omega (arith, found.box_small) }

  pub rank_fits : (p : ℕ) → p < n → Fits w8 p
  rank_fits p l = record { fits = omega (arith, found.small) }

  pub rank_lt : (p : ℕ) → p < n → p < 64
  rank_lt p l = omega (arith, found.small)

-- the same where it is known to be 0
pub view-le : (n form span : ℕ) → misshapen n form span ≡ 0 → n ≤ 64
view-le n form span e = (shapely n form span e).small

pub view_boxed : (n form span : ℕ) → misshapen n form span ≡ 0 → 0 < span
view_boxed n form span e = (shapely n form span e).boxed

pub view_rank_fits : (n form span q : ℕ) → misshapen n form span ≡ 0 → q < n → Fits w8 q
view_rank_fits n form span q e l = record { fits = omega (arith, (shapely n form span e).small) }

-- an answer is known by its number
pub answer_determines : (a b : Result (Unit {0}) Refusal) → answer_of a ≡ answer_of b → a ≡ b
answer_determines (Ok _) (Ok _) e = refl
answer_determines (Ok _) (Err y) e = absurd (clash (eqb (number y) 0) (eq-eqb (number y) 0 (sym e)) (number-not_0 y))
answer_determines (Err x) (Ok _) e = absurd (clash (eqb (number x) 0) (eq-eqb (number x) 0 e) (number-not_0 x))
answer_determines (Err x) (Err y) e = ap (λ (z : Refusal). Err z) (number-one_to_one x y e)
