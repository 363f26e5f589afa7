-- What an accepted event does to the group, in facts about the scenes before and after: a rank takes its turn, a rank dies, or a message with a dead end is gone.
use Prim.Native.Nat.{ℕ, ◌<◌}
use mathlib.Core.Path.{◌≡◌}
use mathlib.Core.Bool.{true, false}
use mathlib.Core.Logic.{◌⊎◌}
use Rattle.sets.specs.Sets.{has}
use Rattle.rank.specs.declared.Send.{Send}
use Rattle.rank.specs.Words.{ask}
use Rattle.rank.specs.Records.{proposal}
use Rattle.rank.specs.declared.Triple.{Triple}
use Rattle.rank.proofs.Turn.{Says, Turn}
use Rattle.rank.proofs.Speech.{SaysTriple, Speech}
use Rattle.events.specs.declared.Event.{Event}
use Rattle.group.proofs.Scenes.{Scene, Flies}

-- Rank p takes its turn, with a message of this kind from q, which leaves, or with none (kind 0).
pub record ByRank (anc : ℕ → ℕ) (n : ℕ) (s s' : Scene) (p kind q : ℕ) (f g : Send) : Type 0 where
  pub own : p < n
  pub lives : has s.dead p ≡ false
  pub dead_stays : s'.dead ≡ s.dead
  pub others : (j : ℕ) → (j ≡ p → ⊥) → s'.rank j ≡ s.rank j
  pub turn : Turn anc n p kind q (s.rank p) (s'.rank p) f g
  -- what it took was in flight, and its sender not marked
  pub took : (kind ≡ 0 → ⊥) → Flies s kind q p
  pub known : (kind ≡ 0 → ⊥) → has (s.rank p).marks q ≡ false
  -- only that leaves, only what is sent joins, and all of it
  pub stays : (k b x : ℕ) → Flies s k b x → Flies s' k b x ⊎ ((k ≡ kind) × (b ≡ q) × (x ≡ p))
  pub was : (k b x : ℕ) → Flies s' k b x → Flies s k b x ⊎ ((b ≡ p) × Says f g k x)
  pub joins : (k x : ℕ) → Says f g k x → Flies s' k p x

-- What its turn says, triple for triple: v is that of the message taken, or the one that p proposes. Entry says who enters and proposes what.
pub record ByRankInTriples (anc : ℕ → ℕ) (n : ℕ) (Entry : ℕ → Triple → Type 0) (s s' : Scene) (p kind q : ℕ) (v : Triple) (f g : Send) : Type 0 where
  pub speech : Speech anc n p kind q v (Entry p v) (s.rank p) (s'.rank p) f g
  pub took : (kind ≡ 0 → ⊥) → s.Carries kind q p v
  -- below the sender of an ASK all are dead
  pub asker : kind ≡ ask → (a : ℕ) → a < q → has s.dead a ≡ true
  pub was : (k b x : ℕ) (w : Triple) → s'.Carries k b x w → s.Carries k b x w ⊎ ((b ≡ p) × SaysTriple f g k w x)

-- The dead grow, perhaps, and no record changes; no message joins, and one between living ranks stays.
pub record ByLoss (s s' : Scene) : Type 0 where
  pub dead_stays : (k : ℕ) → has s.dead k ≡ true → has s'.dead k ≡ true
  pub ranks_stay : (j : ℕ) → s'.rank j ≡ s.rank j
  pub was : (k b x : ℕ) → Flies s' k b x → Flies s k b x
  pub was_carried : (k b x : ℕ) (w : Triple) → s'.Carries k b x w → s.Carries k b x w
  pub stays : (k b x : ℕ) → has s.dead b ≡ false → has s.dead x ≡ false → Flies s k b x → Flies s' k b x

pub data Move (anc : ℕ → ℕ) (n : ℕ) (Entry : ℕ → Triple → Type 0) (s s' : Scene) : Type 0 where
  by_rank : (p kind q : ℕ) (v : Triple) (f g : Send) → ByRank anc n s s' p kind q f g → ByRankInTriples anc n Entry s s' p kind q v f g → Move anc n Entry s s'
  by_loss : ByLoss s s' → Move anc n Entry s s'

-- An event of kind 1: rank p, which is a, enters, and v is what it proposes with the word b.
abbrev pub Entry : Scene → Event → ℕ → Triple → Type 0
Entry s ev p v = (ev.kind ≡ 1) × (p ≡ ev.a) × (v ≡ proposal ev.b (s.rank ev.a))
