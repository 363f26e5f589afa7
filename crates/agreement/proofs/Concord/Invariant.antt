-- The invariant behind "the same result". Reports and answers travel along links that the deaths allow. Whoever a living undecided rank
-- covers, by its own place in the tree, by a rank that it has heard or by a report on its way, is open: undecided itself, with no DOWN to come.
-- So all the results that living ranks hold, or are about to take, are one.
use Prim.Native.Nat.{ℕ, ◌<◌}
use mathlib.Core.Path.{◌≡◌}
use mathlib.Core.Bool.{true, false}
use mathlib.Core.Logic.{◌⊎◌}
use Rattle.sets.specs.Sets.{has}
use Rattle.tree.proofs.Kin.{Under, MayLead}
use Rattle.rank.specs.Words.{decided, up, down}
use Rattle.rank.specs.declared.Triple.{Triple}
use Rattle.group.proofs.Scenes.{Scene, Flies}
use Rattle.agreement.proofs.Living.{Lives}
use Rattle.agreement.proofs.Concord.Holders.{Holder}

-- Where these ranks are dead, b may send x a DOWN: b may be x's parent, or every rank below x is dead.
abbrev pub MayTell : (ℕ → ℕ) → ℕ → ℕ → ℕ → Type 0
MayTell anc dead b x = MayLead anc dead x b ⊎ ((a : ℕ) → a < x → has dead a ≡ true)

module _ (anc : ℕ → ℕ) (n : ℕ) where
  -- A DOWN with this word is on its way to a living rank that has not marked its sender: it will be taken.
  abbrev pub Arrives : Scene → ℕ → ℕ → Triple → Type 0
  Arrives s b x w = s.Carries down b x w × Lives n s x × (has (s.rank x).marks b ≡ false)

  -- c answers to y for all under c: c is y, y has heard c, or c's report to y is on its way.
  abbrev pub Answers : Scene → ℕ → ℕ → Type 0
  Answers s y c = (c ≡ y) ⊎ ((has (s.rank y).heard c ≡ true) ⊎ Flies s up c y)

  -- y covers x.
  abbrev pub Covers : Scene → ℕ → ℕ → Type 0
  Covers s y x = (c : ℕ) × (x ≡ y → ⊥) × Answers s y c × Under anc c x

  -- x is undecided, and no DOWN arrives at it.
  abbrev pub Open : Scene → ℕ → Type 0
  Open s x = ((s.rank x).phase ≡ decided → ⊥) × ((b : ℕ) (w : Triple) → Arrives s b x w → ⊥)

  -- A living decided rank has this result, or a DOWN that carries it arrives.
  abbrev pub Verdict : Scene → Triple → Type 0
  Verdict s w = ((i : ℕ) × Holder n s i × ((s.rank i).phase ≡ decided) × ((s.rank i).result ≡ w)) ⊎ ((b : ℕ) × (x : ℕ) × Arrives s b x w)

  pub record Concord (s : Scene) : Type 0 where
    pub report_leads : (x b : ℕ) → Flies s up x b → MayLead anc s.dead x b
    pub heard_leads : (x b : ℕ) → b < n → has (s.rank b).heard x ≡ true → MayLead anc s.dead x b
    pub owed_tells : (x b : ℕ) → b < n → has (s.rank b).owed x ≡ true → MayTell anc s.dead b x
    pub down-tells : (b x : ℕ) → Flies s down b x → (b < n) × ((s.rank b).phase ≡ decided) × MayTell anc s.dead b x
    pub covered_open : (y x : ℕ) → Lives n s y → ((s.rank y).phase ≡ decided → ⊥) → Covers s y x → x < n → Open s x
    pub one_result : (w w' : Triple) → Verdict s w → Verdict s w' → w ≡ w'
