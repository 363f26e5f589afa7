-- `tree::fresh` meets its contract. The invariant: the first p entries are the fresh table's, the others 255.
-- Assumes nothing.
use Rattle.tree.specs.Forms.{tree_of}
use Rattle.tree.proofs.Laws.Mending.{Filling}
use Rattle.tree.proofs.fresh.Given as goal

abbrev pub invariant-loop-p : goal.invariant-loop-p
invariant-loop-p l = Filling (tree_of l.form l.span) l.n l.marks l.p l.table
