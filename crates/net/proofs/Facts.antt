-- A message in order, in facts.
use Prim.Native.Nat.{ℕ, ◌<◌, ◌≤◌}
use mathlib.Core.Path.{◌≡◌}
use mathlib.Core.Bool.{true}
use Rattle.sets.specs.Sets.{has}
use Rattle.rank.specs.declared.Message.{Message}
use Rattle.rank.specs.Words.{up, ask}
use Rattle.rank.specs.Triples.{zero_triple}
use Rattle.rank.proofs.Facts.{TripleWithin}

-- A message in flight.
pub record MessageInOrder (n dead : ℕ) (m : Message) : Type 0 where
  pub from_in : m.from < n
  pub to_in : m.to < n
  pub differ : m.from ≡ m.to → ⊥
  pub kind-low : up ≤ m.kind
  pub kind-high : m.kind ≤ ask
  pub triple_in : TripleWithin n m.triple
  pub ask_empty : m.kind ≡ ask → m.triple ≡ zero_triple
  pub ask_dead : m.kind ≡ ask → (k : ℕ) → k < m.from → has dead k ≡ true
