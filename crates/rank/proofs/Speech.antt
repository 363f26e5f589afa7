-- What one turn of a rank says to the others, word for word: whom it reports to and whom it tells, and where its triple and its result come
-- from. With `Turn` it is all that the proof of agreement needs of a rule.
use Prim.Native.Nat.{ℕ}
use mathlib.Core.Path.{◌≡◌}
use mathlib.Core.Bool.{true}
use mathlib.Core.Logic.{◌⊎◌}
use Rattle.sets.specs.Sets.{none, has}
use Rattle.tree.specs.Tree.{parent}
use Rattle.rank.specs.declared.Rank.{Rank}
use Rattle.rank.specs.declared.Send.{Send}
use Rattle.rank.specs.declared.Triple.{Triple}
use Rattle.rank.specs.Words.{outside, decided, up, down, ask}
use Rattle.rank.specs.Triples.{combine, closing}
use Rattle.rank.proofs.Turn.{NoParent, Leads, Complete}

-- One of two sends carries this triple to x, with this kind.
abbrev pub SaysTriple : Send → Send → ℕ → Triple → ℕ → Type 0
SaysTriple f g kind t x = ((f.kind ≡ kind) × (f.triple ≡ t) × (has f.to x ≡ true)) ⊎ ((g.kind ≡ kind) × (g.triple ≡ t) × (has g.to x ≡ true))

-- x sent the UP or the ASK that was taken.
abbrev pub Sender : ℕ → ℕ → ℕ → Type 0
Sender kind q x = ((kind ≡ up) ⊎ (kind ≡ ask)) × (q ≡ x)

-- ---- where a rank's triple comes from

-- It enters, and proposes v; Entry says that it does.
pub record Enters (Entry : Type 0) (v : Triple) (r r' : Rank) : Type 0 where
  pub entry : Entry
  pub was_outside : r.phase ≡ outside
  pub is_inside : r'.phase ≡ outside → ⊥
  pub triple_is : r'.triple ≡ combine r.triple v
  pub heard_was : (x : ℕ) → has r'.heard x ≡ true → has r.heard x ≡ true

-- It hears q, whose report carries v.
pub record Hears (kind q : ℕ) (v : Triple) (r r' : Rank) : Type 0 where
  pub took_up : kind ≡ up
  pub was_undecided : r.phase ≡ decided → ⊥
  pub stays_outside : r.phase ≡ outside → r'.phase ≡ outside
  pub triple_is : r'.triple ≡ combine r.triple v
  pub heard_was : (x : ℕ) → has r'.heard x ≡ true → (has r.heard x ≡ true) ⊎ (q ≡ x)

-- Its triple stays.
pub record Keeps (r r' : Rank) : Type 0 where
  pub stays_outside : r.phase ≡ outside → r'.phase ≡ outside
  pub triple_is : r'.triple ≡ r.triple
  pub heard_was : (x : ℕ) → has r'.heard x ≡ true → has r.heard x ≡ true

-- ---- where its result comes from

-- It had decided, and its result stays.
pub record Remains (r r' : Rank) : Type 0 where
  pub was_decided : r.phase ≡ decided
  pub result_is : r'.result ≡ r.result

-- It takes a DOWN that carries v.
pub record Obeys (kind : ℕ) (v : Triple) (r r' : Rank) : Type 0 where
  pub was_undecided : r.phase ≡ decided → ⊥
  pub took_down : kind ≡ down
  pub result_is : r'.result ≡ v

-- It decides as a root that has heard every child: its triple, with its marks among the known dead.
pub record Settles (anc : ℕ → ℕ) (n me : ℕ) (r r' : Rank) : Type 0 where
  pub was_undecided : r.phase ≡ decided → ⊥
  pub root : NoParent anc me r'
  pub complete : Complete anc n me r'
  pub result_is : r'.result ≡ closing r'.marks r'.triple

-- ---- the whole

-- The turn of `Turn`, where v is the triple of the message that was taken, or the one that the rank proposes.
pub record Speech (anc : ℕ → ℕ) (n me kind q : ℕ) (v : Triple) (Entry : Type 0) (r r' : Rank) (f g : Send) : Type 0 where
  -- an UP goes to the parent, with the rank's triple
  pub up_to : (w : Triple) (x : ℕ) → SaysTriple f g up w x → (parent anc r'.marks me ≡ x) × (x ≡ none → ⊥) × (w ≡ r'.triple)
  -- a DOWN goes to a child, to one who is owed an answer, or to the sender of the message taken, with the rank's result
  pub down_to : (w : Triple) (x : ℕ) → SaysTriple f g down w x → (Leads anc n me r' x ⊎ ((has r'.owed x ≡ true) ⊎ Sender kind q x)) × (w ≡ r'.result)
  -- whoever is owed an answer was owed one, or sent the message taken
  pub owed_new : (x : ℕ) → has r'.owed x ≡ true → (has r.owed x ≡ true) ⊎ Sender kind q x
  pub triple_from : Enters Entry v r r' ⊎ (Hears kind q v r r' ⊎ Keeps r r')
  pub result_from : r'.phase ≡ decided → Remains r r' ⊎ (Obeys kind v r r' ⊎ Settles anc n me r r')
