-- `marks_in` meets its contract: before rank p the rest of the proposal is still to come. Assumes nothing.
use Rattle.proposing.proofs.Laws.Steps.{Proposing}
use Rattle.proposing.proofs.marks_in.Given as goal

abbrev pub invariant-loop-p : goal.invariant-loop-p
invariant-loop-p l = Proposing l.text l.n l.marks l.at l.p
