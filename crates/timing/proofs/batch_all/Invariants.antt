-- `batch_all` meets its contract: what is still to come has the same end. Assumes nothing.
use Prim.Native.Nat.{◌-◌}
use Rattle.state.specs.States.{own_tree}
use Rattle.batches.specs.Batches.{events_of}
use Rattle.timing.proofs.Laws.Stepping.{Stepping}
use Rattle.timing.proofs.batch_all.Given as goal

abbrev pub invariant-loop-k : goal.invariant-loop-k
invariant-loop-k l = Stepping (own_tree l.initial.s) l.events (events_of l.events) l.initial.s l.initial.out l.s l.out l.k

abbrev pub decreases-loop-k : goal.decreases-loop-k
decreases-loop-k l = events_of l.events - l.k
