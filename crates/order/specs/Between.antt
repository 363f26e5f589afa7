-- What the calls between layers ask of a state. No caller from outside meets it.
use Rattle.std.specs.Prelude.{ℕ, ◌≡◌, true, length}
use Rattle.net.specs.Net.{in_flight}
use Rattle.state.specs.declared.State.{State}
use Rattle.order.specs.Order.{in_order}

-- A state has 64 records, 64 rows of 64 entries and 128 places.
pub record Shaped (s : State) : Type 0 where
  pub ranks-long : length s.group.ranks ≡ 64
  pub rows_long : length s.tables ≡ 64
  pub net-long : length s.group.net ≡ in_flight

-- A state in order, of this shape.
pub record InOrder (anc : ℕ → ℕ) (s : State) : Type 0 where
  pub shaped : Shaped s
  pub tested : in_order anc s ≡ true
