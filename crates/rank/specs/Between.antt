-- What the calls between layers ask of a rank. No caller from outside meets it.
use Rattle.std.specs.Prelude.{ℕ, ◌<◌, ◌≤◌, ◌≡◌, List}
use Rattle.tree.specs.Tree.{fresh}
use Rattle.rank.specs.declared.Rank.{Rank}
use Rattle.rank.specs.Records.{awaiting}

-- It is a rank of the group, and its row is the fresh table of its view.
pub record FreshRow (anc : ℕ → ℕ) (n me : ℕ) (r : Rank) (row : List ℕ) : Type 0 where
  pub size : n ≤ 64
  pub own : me < n
  pub table : row ≡ fresh anc n r.marks

-- Its awaited set is the fresh one.
abbrev pub Awaits : (ℕ → ℕ) → ℕ → ℕ → Rank → Type 0
Awaits anc n me r = r.awaited ≡ awaiting anc n me r.marks r.heard
