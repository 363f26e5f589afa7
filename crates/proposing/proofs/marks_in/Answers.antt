-- `marks_in` meets its contract: before rank p the rest of the proposal is still to come. Assumes nothing.
use native.Mathlib.Omega.{arith}
use Rattle.proposing.proofs.Laws.Steps.{width_small, proposing_start, proposing_take, proposing_skip, proposing_end, read_same, read_other}
use Rattle.proposing.proofs.marks_in.Goals as goal
use Rattle.proposing.proofs.marks_in.Goals.{then-eq, else-eq}

pub overflow_add-at : goal.overflow_add-at
overflow_add-at c = omega (arith, width_small _ _ c.width-at.ensures)

pub loop-p-init : goal.loop-p-init
loop-p-init c = search proposing_start

pub loop-p-preserved : goal.loop-p-preserved
loop-p-preserved c =
    elim c.if-eq.branch [
      | then-eq w ↦ proposing_take _ _ _ _ _ _ _ _ c.loop-p.invariant c.loop-p-test.true (read_same _ _ _ _ c.number_in.ensures c.eq.ensures w.if-eq.true) w.after_node-at.ensures w.marks-is w.at-is
      | else-eq w ↦ proposing_skip _ _ _ _ _ _ _ _ c.loop-p.invariant c.loop-p-test.true (read_other _ _ _ _ (omega arith) c.number_in.ensures c.eq.ensures w.if-eq.false) w.with-marks.ensures w.marks-is w.at-is
    ]

pub returns : goal.returns
returns c = search proposing_end
