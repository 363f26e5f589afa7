-- Request 2026-04: nobody hangs. The words of the claim, and the claim.
use Rattle.std.specs.Prelude.{ℕ, ◌<◌, ◌≡◌, true, false}
use Rattle.sets.specs.Sets.{has}
use Rattle.rank.specs.Words.{outside, decided}
use Rattle.state.specs.declared.State.{State}
use Rattle.state.specs.States.{rank_at}
use Rattle.group.specs.Reaching.{Reaches}

-- Rank i, of a group of n, is living.
abbrev pub Lives : ℕ → State → ℕ → Type 0
Lives n s i = (i < n) × (has s.group.dead i ≡ false)

-- No message is in flight.
abbrev pub Quiet : State → Type 0
Quiet s = s.group.count ≡ 0

-- Every living rank has entered.
abbrev pub AllEntered : ℕ → State → Type 0
AllEntered n s = (i : ℕ) → Lives n s i → (rank_at s i).phase ≡ outside → ⊥

-- Every living rank has marked every dead one.
abbrev pub AllDeathsKnown : ℕ → State → Type 0
AllDeathsKnown n s = (i k : ℕ) → Lives n s i → has s.group.dead k ≡ true → has (rank_at s i).marks k ≡ true

-- Every living rank has decided.
abbrev pub AllDecided : ℕ → State → Type 0
AllDecided n s = (i : ℕ) → Lives n s i → (rank_at s i).phase ≡ decided

-- In a state reached by accepted events with no message in flight, where every living rank has entered and has marked every dead one,
-- every living rank has decided.
abbrev pub NobodyHangs : (ℕ → ℕ) → Type 0
NobodyHangs anc = (n : ℕ) (s : State) → Reaches anc n s → Quiet s → AllEntered n s → AllDeathsKnown n s → AllDecided n s
