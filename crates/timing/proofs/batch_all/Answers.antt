-- `batch_all` meets its contract: what is still to come has the same end. Assumes nothing.
use native.Mathlib.Omega.{arith}
use Rattle.timing.proofs.Laws.Stepping.{stepping-start, stepping_many, stepping_end}
use Rattle.timing.proofs.batch_all.Goals as goal

pub loop-k-init : goal.loop-k-init
loop-k-init c = stepping-start _ _ _ _ c.requires

pub loop-k-preserved : goal.loop-k-preserved
loop-k-preserved c = stepping_many _ _ _ _ _ _ _ _ _ _ _ c.loop-k.invariant (omega arith) c.handful_end-end.ensures.0 c.handful_end-end.ensures.1 c.batch-taken.ensures.s_after c.batch-taken.ensures.out_after

pub returns : goal.returns
returns c = stepping_end _ _ _ _ _ _ _ _ c.loop-k.invariant c.loop-k-test.false
