-- What one turn of a rank gives the others: facts about its record before and after a rule, the message that it took, and what it sends.
-- They are all that the proof of progress needs of a rule.
use Prim.Native.Nat.{ℕ}
use mathlib.Core.Path.{◌≡◌}
use mathlib.Core.Bool.{true, false}
use mathlib.Core.Logic.{◌⊎◌}
use Rattle.sets.specs.Sets.{none, has}
use Rattle.tree.specs.Tree.{parent, children}
use Rattle.rank.specs.declared.Rank.{Rank}
use Rattle.rank.specs.declared.Send.{Send}
use Rattle.rank.specs.Words.{outside, gathering, waiting, decided, up, down, ask}

-- One of two sends goes to x with this kind.
abbrev pub Says : Send → Send → ℕ → ℕ → Type 0
Says f g kind x = ((f.kind ≡ kind) × (has f.to x ≡ true)) ⊎ ((g.kind ≡ kind) × (has g.to x ≡ true))

-- In the rank's own view: it has no parent; c is its child.
abbrev pub NoParent : (ℕ → ℕ) → ℕ → Rank → Type 0
NoParent anc me r = parent anc r.marks me ≡ none

abbrev pub Leads : (ℕ → ℕ) → ℕ → ℕ → Rank → ℕ → Type 0
Leads anc n me r c = has (children anc n r.marks me) c ≡ true

-- A rank that has no parent gathers, and asks every child.
pub record Polls (anc : ℕ → ℕ) (n me : ℕ) (r : Rank) (f g : Send) : Type 0 where
  pub gathers : r.phase ≡ gathering
  pub root : NoParent anc me r
  pub each : (c : ℕ) → Leads anc n me r c → Says f g ask c

-- Everyone whom the rank leads has been heard.
abbrev pub Complete : (ℕ → ℕ) → ℕ → ℕ → Rank → Type 0
Complete anc n me r = (c : ℕ) → Leads anc n me r c → has r.heard c ≡ true

-- The rank me took a message of this kind from q, or none (kind 0); its record was r and is r', and it sends f, then g.
pub record Turn (anc : ℕ → ℕ) (n me kind q : ℕ) (r r' : Rank) (f g : Send) : Type 0 where
  -- marks, heard and owed
  pub marks_grow : (k : ℕ) → has r.marks k ≡ true → has r'.marks k ≡ true
  pub heard_new : (x : ℕ) → has r'.heard x ≡ true → (has r.heard x ≡ true) ⊎ ((kind ≡ up) × (q ≡ x))
  pub heard_stays : (r'.phase ≡ decided → ⊥) → (x : ℕ) → has r.heard x ≡ true → (has r'.heard x ≡ true) ⊎ Polls anc n me r' f g
  pub owed_stays : (x : ℕ) → has r.owed x ≡ true → has r'.owed x ≡ true
  -- phases
  pub was_outside : r'.phase ≡ outside → r.phase ≡ outside
  pub was_gathering : r'.phase ≡ gathering → (r.phase ≡ outside) ⊎ (r.phase ≡ gathering) ⊎ ((r.phase ≡ waiting) × Polls anc n me r' f g)
  pub was_waiting : r'.phase ≡ waiting → (r.phase ≡ waiting) ⊎ Complete anc n me r'
  pub was_decided : r'.phase ≡ decided → (r.phase ≡ decided) ⊎ (kind ≡ down) ⊎ (NoParent anc me r' × Complete anc n me r')
  pub final : r.phase ≡ decided → r'.phase ≡ decided
  -- a gathering rank without a parent decides, or goes on and asks every child that it gains
  pub goes_on : r.phase ≡ gathering → NoParent anc me r
      → (r'.phase ≡ decided) ⊎ ((r'.phase ≡ gathering) × ((c : ℕ) → Leads anc n me r' c → Leads anc n me r c ⊎ Says f g ask c))
  -- what is sent, and when
  pub up_waits : (x : ℕ) → Says f g up x → r'.phase ≡ waiting
  pub down-decided : (x : ℕ) → Says f g down x → r'.phase ≡ decided
  -- a rank that begins to wait, or waits with a new parent, reports to it
  pub reports_to : r'.phase ≡ waiting → ((r.phase ≡ waiting) × (parent anc r.marks me ≡ parent anc r'.marks me)) ⊎ Says f g up (parent anc r'.marks me)
  -- a rank that decides tells everyone whom it owes
  pub tells_owed : (r.phase ≡ decided → ⊥) → r'.phase ≡ decided → (x : ℕ) → has r'.owed x ≡ true → has r'.marks x ≡ false → Says f g down x
  -- the message that it took
  pub takes-up : kind ≡ up → Says f g down q ⊎ ((r.phase ≡ decided → ⊥) × (has r'.heard q ≡ true) × (has r'.owed q ≡ true))
  pub takes-down : kind ≡ down → (r'.phase ≡ gathering → ⊥) × (r'.phase ≡ waiting → ⊥)
  pub takes-ask : kind ≡ ask → Says f g down q ⊎ ((r.phase ≡ decided → ⊥) × (has r'.owed q ≡ true))
  pub asked-reports : kind ≡ ask → r'.phase ≡ waiting → parent anc r'.marks me ≡ q → Says f g up q
