-- What a kind names. Assumes nothing.
use mathlib.Core.Path.{◌≡◌}
use mathlib.Core.Bool.{true, false, ◌||◌}
use mathlib.Core.Logic.{◌⊎◌, inl, inr, ⊎_elim}
use Prim.Native.Nat.{ℕ}
use lib.Dec.{eqb}
use borrow.Author.Tests.{eqb-true}
use Rattle.sets.proofs.Laws.Bools.{or_cases}
use Rattle.events.specs.Events.{names_rank, names_place}

pub names_a_rank : (kind : ℕ) → (kind ≡ 1) ⊎ ((kind ≡ 3) ⊎ ((kind ≡ 4) ⊎ (kind ≡ 6))) → (names_rank kind ≡ true) × (names_place kind ≡ false)
names_a_rank kind (inl k) = (rw k, rw k)
names_a_rank kind (inr (inl k)) = (rw k, rw k)
names_a_rank kind (inr (inr (inl k))) = (rw k, rw k)
names_a_rank kind (inr (inr (inr k))) = (rw k, rw k)

pub names_a_place : (kind : ℕ) → kind ≡ 2 → names_place kind ≡ true
names_a_place kind k = rw k

pub place_kinds : (kind : ℕ) → names_place kind ≡ true → (kind ≡ 2) ⊎ (kind ≡ 5)
place_kinds kind t = ⊎_elim (λ (x : eqb kind 2 ≡ true). inl (eqb-true kind 2 x)) (λ (x : eqb kind 5 ≡ true). inr (eqb-true kind 5 x)) (or_cases (eqb kind 2) (eqb kind 5) t)

pub rank_kinds : (kind : ℕ) → names_rank kind ≡ true → (kind ≡ 1) ⊎ ((kind ≡ 3) ⊎ ((kind ≡ 4) ⊎ (kind ≡ 6)))
rank_kinds kind t = of_four (or_cases (eqb kind 1 || eqb kind 3 || eqb kind 4) (eqb kind 6) t)
  where
    of_two : (eqb kind 1 ≡ true) ⊎ (eqb kind 3 ≡ true) → (kind ≡ 1) ⊎ ((kind ≡ 3) ⊎ ((kind ≡ 4) ⊎ (kind ≡ 6)))
    of_two (inl x) = inl (eqb-true kind 1 x)
    of_two (inr x) = inr (inl (eqb-true kind 3 x))

    of_three : (eqb kind 1 || eqb kind 3 ≡ true) ⊎ (eqb kind 4 ≡ true) → (kind ≡ 1) ⊎ ((kind ≡ 3) ⊎ ((kind ≡ 4) ⊎ (kind ≡ 6)))
    of_three (inl x) = of_two (or_cases (eqb kind 1) (eqb kind 3) x)
    of_three (inr x) = inr (inr (inl (eqb-true kind 4 x)))

    of_four : (eqb kind 1 || eqb kind 3 || eqb kind 4 ≡ true) ⊎ (eqb kind 6 ≡ true) → (kind ≡ 1) ⊎ ((kind ≡ 3) ⊎ ((kind ≡ 4) ⊎ (kind ≡ 6)))
    of_four (inl x) = of_three (or_cases (eqb kind 1 || eqb kind 3) (eqb kind 4) x)
    of_four (inr x) = inr (inr (inr (eqb-true kind 6 x)))
