-- Requests 2026-05 and 2026-08: the agreement property, for the whole triple. The words of the claim, and the claim. A run is a `Reaches`: an
-- accepted start of a group of n ranks, n from 1 to 64, and any accepted events.
use Rattle.std.specs.Prelude.{ℕ, zero, suc, ◌<◌, ◌≡◌, Bool, true, false, cond, ◌&&◌, ◌⊎◌, eqb}
use Rattle.sets.specs.Sets.{has}
use Rattle.rank.specs.declared.Triple.{Triple}
use Rattle.rank.specs.Words.{decided}
use Rattle.rank.specs.Triples.{fresh_triple, combine, closing, code}
use Rattle.rank.specs.Records.{proposal}
use Rattle.events.specs.declared.Event.{Event}
use Rattle.state.specs.declared.State.{State}
use Rattle.state.specs.States.{rank_at}
use Rattle.group.specs.Reaching.{Reaches, begun, next}
use Rattle.agreement.specs.Progress.{Lives}

-- The event is: rank i enters.
unfoldable pub is_entry : Event → ℕ → Bool
is_entry ev i = eqb ev.kind 1 && eqb ev.a i

-- Rank i entered in the run, and what it proposed on Enter: the word of the event, and its marks and acknowledged set of then. It is a fresh
-- record's triple if it did not enter.
unfoldable pub has_entered : (anc : ℕ → ℕ) (n : ℕ) (s : State) → Reaches anc n s → ℕ → Bool
has_entered anc n s (begun form span z) i = false
has_entered anc n s (next s' ev run z) i = cond (is_entry ev i) true (has_entered anc n s' run i)

unfoldable pub proposal_of : (anc : ℕ → ℕ) (n : ℕ) (s : State) → Reaches anc n s → ℕ → Triple
proposal_of anc n s (begun form span z) i = fresh_triple n
proposal_of anc n s (next s' ev run z) i = cond (is_entry ev i) (proposal ev.b (rank_at s' i)) (proposal_of anc n s' run i)

-- What the members of a set below k propose, in a group of n: the AND of the words, the OR of the marks, the AND of the acknowledged sets.
unfoldable pub together : ℕ → (ℕ → Triple) → ℕ → ℕ → Triple
together n proposals set zero = fresh_triple n
together n proposals set (suc k) = cond (has set k) (combine (together n proposals set k) (proposals k)) (together n proposals set k)

-- A rank decided this triple as a root: its own triple, with `added` ORed into the known dead. What it added lies within its marks, and has every
-- rank below it.
pub record DecidedAsRoot (s : State) (root added : ℕ) (verdict : Triple) : Type 0 where
  pub is_decided : (rank_at s root).phase ≡ decided
  pub is_result : (rank_at s root).result ≡ verdict
  pub own-and-added : verdict ≡ closing added (rank_at s root).triple
  pub within_marks : (k : ℕ) → has added k ≡ true → has (rank_at s root).marks k ≡ true
  pub all-below : (k : ℕ) → k < root → has added k ≡ true

-- A triple comes from a set A of ranks, `members`, and a set R, `added`: the root's marks, the one addition.
pub record FromTheLiving (anc : ℕ → ℕ) (n : ℕ) (s : State) (run : Reaches anc n s) (verdict : Triple) : Type 0 where
  -- A, of ranks of the group
  pub members : ℕ
  pub inside : (i : ℕ) → has members i ≡ true → i < n
  -- every member entered; every living rank is a member
  pub entered : (i : ℕ) → has members i ≡ true → has_entered anc n s run i ≡ true
  pub living : (i : ℕ) → Lives n s i → has members i ≡ true
  -- R, added by a member that decided this triple as a root
  pub added : ℕ
  pub root : ℕ
  pub root-member : has members root ≡ true
  pub root-decided : DecidedAsRoot s root added verdict
  -- the AND of the words, the OR of the marks together with R, and the AND of the acknowledged sets, over what the members proposed on Enter
  pub is_together : verdict ≡ closing added (together n (proposal_of anc n s run) members n)

-- Rank i lives and has decided. A dead rank may hold another result.
abbrev pub Decides : ℕ → State → ℕ → Type 0
Decides n s i = Lives n s i × ((rank_at s i).phase ≡ decided)

-- Any two living decided ranks hold the same triple, and it comes from a set of ranks that contains every living one.
abbrev pub Agreement : (ℕ → ℕ) → Type 0
Agreement anc = (n : ℕ) (s : State) (run : Reaches anc n s)
    → ((i j : ℕ) → Decides n s i → Decides n s j → (rank_at s i).result ≡ (rank_at s j).result)
    × ((i : ℕ) → Decides n s i → FromTheLiving anc n s run (rank_at s i).result)

-- A death that a member of A proposed, or that is in R, is missing from the acknowledged set that some member of A proposed.
pub record Unacknowledged (anc : ℕ → ℕ) (n : ℕ) (s : State) (run : Reaches anc n s) (members added : ℕ) : Type 0 where
  pub death : ℕ
  pub known : ((i : ℕ) × (has members i ≡ true) × (has (proposal_of anc n s run i).known death ≡ true)) ⊎ (has added death ≡ true)
  pub missing : (j : ℕ) × (has members j ≡ true) × (has (proposal_of anc n s run j).acknowledged death ≡ false)

-- The code of a verdict is 1 exactly if there is such a death.
abbrev pub CodeSays : (ℕ → ℕ) → Type 0
CodeSays anc = (n : ℕ) (s : State) (run : Reaches anc n s) (verdict : Triple) (f : FromTheLiving anc n s run verdict)
    → (code verdict ≡ 1 → Unacknowledged anc n s run f.members f.added)
    × (Unacknowledged anc n s run f.members f.added → code verdict ≡ 1)
