-- What the proofs about whole runs see of a state: who is dead, each rank's record, and which triples are on their way.
use Prim.Native.Nat.{ℕ, ◌<◌}
use mathlib.Core.Path.{◌≡◌}
use Rattle.rank.specs.declared.Rank.{Rank}
use Rattle.rank.specs.declared.Triple.{Triple}
use Rattle.state.specs.declared.State.{State}
use Rattle.state.specs.States.{rank_at, place_at}

pub record Scene : Type 1 where
  pub dead : ℕ
  pub rank : ℕ → Rank
  -- a message of this kind, from one rank to another, carries this triple
  pub Carries : ℕ → ℕ → ℕ → Triple → Type 0

-- A message of this kind from one rank to another is in flight: it carries some triple.
abbrev pub Flies : Scene → ℕ → ℕ → ℕ → Type 0
Flies s kind from to = (triple : Triple) × s.Carries kind from to triple

-- ---- the scene of a state

-- Some place of its list holds the message.
pub record CarriesIn (s : State) (kind from to : ℕ) (triple : Triple) : Type 0 where
  pub place : ℕ
  pub listed : place < s.group.count
  pub kind_is : (place_at s place).kind ≡ kind
  pub from_is : (place_at s place).from ≡ from
  pub to_is : (place_at s place).to ≡ to
  pub triple_is : (place_at s place).triple ≡ triple

-- An abbreviation, so that what is proved of a scene computes to what it says of the state.
abbrev pub scene : State → Scene
scene s = record { dead = s.group.dead; rank = rank_at s; Carries = CarriesIn s }
