-- The proofs' own words for who stands above whom, over any ancestor sets or any rank next above.
use Prim.Native.Nat.{ℕ, ◌<◌}
use mathlib.Core.Path.{◌≡◌}
use mathlib.Core.Bool.{true}
use mathlib.Core.Logic.{◌⊎◌}
use Rattle.sets.specs.Sets.{has}
use Rattle.tree.specs.Tree.{children}
use Rattle.tree.specs.Relations.{Above, Ancestry, Chained}

-- Rank 0 is an ancestor of every other rank.
abbrev pub Rooted : (ℕ → ℕ) → Type 0
Rooted anc = (p : ℕ) → 0 < p → Above anc p 0

-- What a tree must have: ancestors are smaller, theirs are ancestors too, they form a chain, and 0 is above all.
pub record IsTree (anc : ℕ → ℕ) : Type 0 where
  pub ancestry : Ancestry anc
  pub chained : Chained anc
  pub rooted : Rooted anc

-- The rank next above is smaller, for every rank but 0.
abbrev pub Smaller : (ℕ → ℕ) → Type 0
Smaller above = (p : ℕ) → 0 < p → above p < p

-- x is c, or has c as an ancestor.
abbrev pub Under : (ℕ → ℕ) → ℕ → ℕ → Type 0
Under anc c x = (x ≡ c) ⊎ Above anc x c

-- b may be q's parent where these ranks are dead: b is below q, each ancestor of q above b is dead, and b is an ancestor
-- of q or each rank below b is dead.
pub record MayLead (anc : ℕ → ℕ) (dead q b : ℕ) : Type 0 where
  pub smaller : b < q
  pub between : (a : ℕ) → Above anc q a → b < a → has dead a ≡ true
  pub either : Above anc q b ⊎ ((a : ℕ) → a < b → has dead a ≡ true)

-- Some child of p stands above x, or is x.
pub record UnderAChild (anc : ℕ → ℕ) (n marks p x : ℕ) : Type 0 where
  pub child : ℕ
  pub is_child : has (children anc n marks p) child ≡ true
  pub under : Under anc child x
