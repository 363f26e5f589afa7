-- What the calls between layers ask of a state whose plan is carried out. No caller from outside meets it.
use Rattle.std.specs.Prelude.{ℕ, ◌+◌, ◌-◌, ◌<◌, ◌≤◌, ◌≡◌, true, cond}
use Rattle.rank.specs.Sends.{size}
use Rattle.net.specs.Net.{in_flight, padded}
use Rattle.state.specs.declared.State.{State}
use Rattle.state.specs.States.{flying}
use Rattle.plans.specs.Plans.{Planned}

-- The list holds its messages and zeros; the message that leaves is there; what is sent has room; the rank is one of 64.
pub record Carriable (s : State) (place me : ℕ) (p : Planned) : Type 0 where
  pub held : s.group.net ≡ padded (flying s)
  pub count-le : s.group.count ≤ in_flight
  pub there : p.leaves ≡ true → place < s.group.count
  pub room : s.group.count + size p.acted.first + size p.acted.second - cond p.leaves 1 0 ≤ in_flight
  pub own : me < 64
