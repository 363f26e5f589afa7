-- `tree::View::mend_below` meets its contract. The invariant: all below k are marked, the table is fresh, and union and sum are theirs.
-- Assumes nothing.
use Rattle.tree.specs.Forms.{tree_of}
use Rattle.tree.proofs.Laws.Mending.{Below}
use Rattle.tree.proofs.View.mend_below.Given as goal

abbrev pub invariant-loop-k : goal.invariant-loop-k
invariant-loop-k l = Below (tree_of l.self.form l.self.span) l.self.n l.self.marks l.k l.marks l.table l.moved
