-- The invariant behind "every living one". A triple in the group is what a set of ranks that have entered proposed together; the set of a
-- rank's own triple has the rank itself, once it has entered, and all who live under a rank that it has heard, or under itself if it waits; the set
-- of a report has all who live under its sender. A result, or what a DOWN carries, is the triple of a root that has decided it, whose set has all
-- who live, with what the root added.
use Prim.Native.Nat.{ℕ, ◌<◌}
use mathlib.Core.Path.{◌≡◌}
use mathlib.Core.Bool.{true}
use mathlib.Core.Logic.{◌⊎◌}
use Rattle.sets.specs.Sets.{has}
use Rattle.tree.proofs.Kin.{Under}
use Rattle.rank.specs.declared.Rank.{Rank}
use Rattle.rank.specs.Words.{outside, waiting, decided, up, down}
use Rattle.rank.specs.declared.Triple.{Triple}
use Rattle.rank.specs.Triples.{closing}
use Rattle.group.proofs.Scenes.{Scene}
use Rattle.agreement.specs.Agreement.{together}
use Rattle.agreement.proofs.Living.{Lives}

-- Rank i, of a group of n, has entered.
abbrev pub Entered : ℕ → Scene → ℕ → Type 0
Entered n s i = (i < n) × ((s.rank i).phase ≡ outside → ⊥)

-- w is what a set of ranks that have entered proposed together, and everyone who must be in the set is.
pub record Combines (n : ℕ) (proposals : ℕ → Triple) (s : Scene) (Must : ℕ → Type 0) (w : Triple) : Type 0 where
  pub members : ℕ
  pub entered : (i : ℕ) → has members i ≡ true → Entered n s i
  pub contains : (i : ℕ) → Must i → has members i ≡ true
  pub is_together : w ≡ together n proposals members n

-- w is the verdict of a root that has decided it: its own triple with `added`, which lies within its marks and has every rank below it. All who
-- live are in the set of that triple, and so is the root.
pub record Concludes (n : ℕ) (proposals : ℕ → Triple) (s : Scene) (w : Triple) : Type 0 where
  pub root : ℕ
  pub added : ℕ
  pub combined : Combines n proposals s (Lives n s) (s.rank root).triple
  pub root-member : has combined.members root ≡ true
  pub is_decided : (s.rank root).phase ≡ decided
  pub is_result : (s.rank root).result ≡ w
  pub own-and-added : w ≡ closing added (s.rank root).triple
  pub within_marks : (k : ℕ) → has added k ≡ true → has (s.rank root).marks k ≡ true
  pub all-below : (k : ℕ) → k < root → has added k ≡ true

module _ (anc : ℕ → ℕ) (n : ℕ) where
  -- The rank has heard x, or someone above x.
  abbrev pub HeardOf : Rank → ℕ → Type 0
  HeardOf r x = (c : ℕ) × (has r.heard c ≡ true) × Under anc c x

  -- Who must be in the set of p's own triple.
  abbrev pub Own : Scene → ℕ → ℕ → Type 0
  Own s p x = ((x ≡ p) × ((s.rank p).phase ≡ outside → ⊥)) ⊎ (Lives n s x × (HeardOf (s.rank p) x ⊎ (((s.rank p).phase ≡ waiting) × Under anc p x)))

  pub record Votes (proposals : ℕ → Triple) (s : Scene) : Type 0 where
    pub own-triple : (p : ℕ) → p < n → Combines n proposals s (Own s p) (s.rank p).triple
    pub reports : (q b : ℕ) (w : Triple) → s.Carries up q b w → Combines n proposals s (λ x. Lives n s x × Under anc q x) w
    pub results : (p : ℕ) → p < n → (s.rank p).phase ≡ decided → Concludes n proposals s (s.rank p).result
    pub answers : (b x : ℕ) (w : Triple) → s.Carries down b x w → Concludes n proposals s w
