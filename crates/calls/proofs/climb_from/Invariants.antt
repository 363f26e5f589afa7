-- `calls::climb_from` meets its contract. The invariant: what is left of the path is that of the rank reached. The measure is that
-- rank, as a parent is smaller. Assumes nothing.
use Prim.Native.Nat.{◌≤◌}
use Rattle.tree.specs.Forms.{tree_of}
use Rattle.tree.proofs.Laws.Climbing.{Climbing}
use Rattle.calls.proofs.climb_from.Given as goal

abbrev pub invariant-loop-up : goal.invariant-loop-up
invariant-loop-up l = Climbing (tree_of l.form l.span) l.marks l.p l.links l.at × (l.links ≤ l.allowance)

abbrev pub decreases-loop-up : goal.decreases-loop-up
decreases-loop-up l = l.at
