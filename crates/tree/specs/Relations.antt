-- What the theorems about whole runs ask of ancestor sets. Each form of tree has all of it.
use Rattle.std.specs.Prelude.{ℕ, ◌<◌, ◌≡◌, true}
use Rattle.sets.specs.Sets.{has}

-- a is an ancestor of p
abbrev pub Above : (ℕ → ℕ) → ℕ → ℕ → Type 0
Above anc p a = has (anc p) a ≡ true

-- Ancestors are smaller, and an ancestor's ancestors are ancestors.
pub record Ancestry (anc : ℕ → ℕ) : Type 0 where
  pub smaller : (p a : ℕ) → Above anc p a → a < p
  pub through : (p a b : ℕ) → Above anc p a → Above anc a b → Above anc p b

-- The ancestors of a rank form a chain: of two, the smaller is an ancestor of the larger.
abbrev pub Chained : (ℕ → ℕ) → Type 0
Chained anc = (x a b : ℕ) → Above anc x a → Above anc x b → a < b → Above anc b a
