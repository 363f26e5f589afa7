-- What the calls between layers ask of the rank that an event is about, beside what its seat says by itself. No caller from outside meets it.
use Rattle.std.specs.Prelude.{ℕ, ◌<◌}
use Rattle.rank.specs.declared.Rank.{Rank}
use Rattle.rank.specs.declared.Message.{Message}
use Rattle.rank.specs.Between.{Awaits}

-- Its awaited set is the fresh one, and the message at the place comes from a rank of the group.
pub record FreshSubject (anc : ℕ → ℕ) (n : ℕ) (m : Message) (me : ℕ) (r : Rank) : Type 0 where
  pub awaits : Awaits anc n me r
  pub sender : m.from < n
