-- A transition that no code has: an ASK of another agreement, which marks ranks here.
use Prim.Native.Nat.{ℕ}
use mathlib.Core.Bool.{cond, not, ◌&&◌}
use lib.Dec.{eqb}
use Rattle.sets.specs.Sets.{union, below}
use Rattle.tree.specs.Calls.{moved_below}
use Rattle.rank.specs.declared.Rank.{Rank}
use Rattle.rank.specs.declared.Said.{Said}
use Rattle.rank.specs.declared.Acted.{Acted}
use Rattle.rank.specs.Words.{waiting}
use Rattle.rank.specs.Records.{parent_of, viewing}
use Rattle.rank.specs.Sends.{silent, reports}
use Rattle.rank.specs.Rules.{in_phase, saying, settling}

-- The one transition more (2026-11): an ASK of another agreement marks every rank below q here; a rank that waits and lost its parent
-- sends UP to the new one. Then settle.
module _ (anc : ℕ → ℕ) (n me : ℕ) where
  unfoldable pub overheard : Rank → Rank → Said
  overheard before r =
      cond (in_phase waiting before && not (eqb (parent_of anc me before) (parent_of anc me r)))
      (saying r (reports r (parent_of anc me r)))
      (saying r silent)

  unfoldable pub overhearing : ℕ → Rank → Acted
  overhearing q r = settling anc n me (overheard r (viewing anc n me (union r.marks (below q)) r)) (moved_below anc n r.marks q)
