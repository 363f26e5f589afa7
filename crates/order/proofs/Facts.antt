-- A state in order, in facts: what the tests of specs/Order mean. The proofs speak of these and not of the tests.
use Prim.Native.Nat.{ℕ, ◌<◌, ◌≤◌}
use mathlib.Core.Path.{◌≡◌}
use mathlib.Core.Bool.{true}
use lib.ListN.{replicate}
use Rattle.sets.specs.Sets.{none, has, minus, below}
use Rattle.calls.proofs.Laws.Shapes.{Shapely}
use Rattle.rank.proofs.Facts.{MemberInOrder}
use Rattle.net.specs.Net.{in_flight, zero_message}
use Rattle.net.proofs.Facts.{MessageInOrder}
use Rattle.state.specs.declared.State.{State}
use Rattle.state.specs.States.{zero_rank, rank_at, row_at, place_at}
use Rattle.order.specs.Between.{Shaped}

-- A state in order:
pub record InOrderFacts (anc : ℕ → ℕ) (s : State) : Type 0 where
  pub shaped : Shaped s
  pub shape : Shapely s.group.n s.group.form s.group.span
  pub lives : minus (below s.group.n) s.group.dead ≡ 0 → ⊥
  pub dead_in : (k : ℕ) → has s.group.dead k ≡ true → k < s.group.n
  pub count-le : s.group.count ≤ in_flight
  pub member : (i : ℕ) → i < s.group.n → MemberInOrder anc s.group.n s.group.dead i (rank_at s i) (row_at s i)
  pub stranger : (i : ℕ) → s.group.n ≤ i → i < 64 → (rank_at s i ≡ zero_rank) × (row_at s i ≡ replicate 64 none)
  pub message : (i : ℕ) → i < s.group.count → MessageInOrder s.group.n s.group.dead (place_at s i)
  pub vacant : (i : ℕ) → s.group.count ≤ i → i < in_flight → place_at s i ≡ zero_message
