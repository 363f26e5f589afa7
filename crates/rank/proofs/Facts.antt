-- A rank in order, in facts: what the tests of specs/Order mean, and what a rule gives. The proofs speak of these and not of the tests.
use Prim.Native.Nat.{ℕ, ◌<◌, ◌≤◌}
use mathlib.Core.Path.{◌≡◌}
use mathlib.Core.Bool.{true, false}
use mathlib.Core.List.{List}
use Rattle.sets.specs.Sets.{none, has}
use Rattle.tree.specs.Tree.{fresh}
use Rattle.rank.specs.declared.Rank.{Rank}
use Rattle.rank.specs.declared.Send.{Send}
use Rattle.rank.specs.declared.Acted.{Acted}
use Rattle.rank.specs.declared.Triple.{Triple}
use Rattle.rank.specs.Words.{outside, gathering, waiting, decided, up, ask}
use Rattle.rank.specs.Triples.{zero_triple}
use Rattle.rank.specs.Records.{parent_of, awaiting}

-- A set of ranks below n without the rank me.
pub record Within (n me w : ℕ) : Type 0 where
  pub inside : (k : ℕ) → has w k ≡ true → k < n
  pub without : has w me ≡ false

-- A triple's sets are sets of ranks below n.
pub record TripleWithin (n : ℕ) (t : Triple) : Type 0 where
  pub known_in : (k : ℕ) → has t.known k ≡ true → k < n
  pub acknowledged_in : (k : ℕ) → has t.acknowledged k ≡ true → k < n

-- What a rank knows of deaths, in all its agreements: its marks, and those that it has acknowledged.
pub record Knows (r : Rank) (marks acknowledged : ℕ) : Type 0 where
  pub marks_are : r.marks ≡ marks
  pub acknowledged_are : r.acknowledged ≡ acknowledged

-- A rank in order, save that it may be gathering with nobody awaited: what a rule hands to settle.
pub record ToSettle (anc : ℕ → ℕ) (n me : ℕ) (r : Rank) : Type 0 where
  pub marks_inside : Within n me r.marks
  pub acknowledged_marked : (k : ℕ) → has r.acknowledged k ≡ true → has r.marks k ≡ true
  pub heard_in : Within n me r.heard
  pub owed_in : Within n me r.owed
  pub awaits : r.awaited ≡ awaiting anc n me r.marks r.heard
  pub waits : r.phase ≡ waiting → parent_of anc me r ≡ none → ⊥
  pub triple_in : TripleWithin n r.triple
  pub result_in : TripleWithin n r.result
  pub unless : (r.phase ≡ decided → ⊥) → r.result ≡ zero_triple
  pub known : r.phase ≤ decided

-- A rank in order.
pub record RankInOrder (anc : ℕ → ℕ) (n me : ℕ) (r : Rank) : Type 0 where
  pub to_settle : ToSettle anc n me r
  pub gathers : r.phase ≡ gathering → r.awaited ≡ 0 → ⊥

-- What a rank may send: to ranks below n and not to itself, of a known kind, with sets of ranks below n; an ASK has all 0 and comes from a rank that knows
-- every rank below it dead.
pub record Posted (n me marks : ℕ) (s : Send) : Type 0 where
  pub to_in : Within n me s.to
  pub kind-known : (k : ℕ) → has s.to k ≡ true → (up ≤ s.kind) × (s.kind ≤ ask)
  pub triple_in : TripleWithin n s.triple
  pub ask_empty : s.kind ≡ ask → s.triple ≡ zero_triple
  pub ask-root : s.kind ≡ ask → (k : ℕ) → k < me → has marks k ≡ true

-- What a rule gives: a rank in order that knows these deaths, the fresh row, and sends that it may make.
pub record ActedInOrder (anc : ℕ → ℕ) (n me marks acknowledged : ℕ) (a : Acted) : Type 0 where
  pub in_order : RankInOrder anc n me a.rank
  pub knows : Knows a.rank marks acknowledged
  pub row_is : a.row ≡ fresh anc n marks
  pub first-posted : Posted n me marks a.first
  pub second_posted : Posted n me marks a.second

-- How a message or a notice may change a rank: who is outside stays outside, whoever has entered is never outside again, and decided
-- is final, with its result.
pub record Steady (r r' : Rank) : Type 0 where
  pub stays_outside : r.phase ≡ outside → r'.phase ≡ outside
  pub stays_in : (r.phase ≡ outside → ⊥) → r'.phase ≡ outside → ⊥
  pub final : r.phase ≡ decided → (r'.phase ≡ decided) × (r'.result ≡ r.result)

-- A rank of the group, with its row:
pub record MemberInOrder (anc : ℕ → ℕ) (n dead i : ℕ) (r : Rank) (row : List ℕ) : Type 0 where
  pub in_order : RankInOrder anc n i r
  pub table : row ≡ fresh anc n r.marks
  pub marks_dead : (k : ℕ) → has r.marks k ≡ true → has dead k ≡ true
