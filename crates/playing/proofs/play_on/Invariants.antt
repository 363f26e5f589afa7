-- `play_on` meets its contract: what is still to come has the same end. Assumes nothing.
use Rattle.state.specs.States.{own_tree}
use Rattle.playing.specs.Between.{listed}
use Rattle.playing.proofs.Laws.Going.{Going}
use Rattle.playing.proofs.play_on.Given as goal

abbrev pub invariant-loop-k : goal.invariant-loop-k
invariant-loop-k l = Going (own_tree l.initial.s) l.total l.initial.s l.initial.out (listed l.s l.flight) l.out l.k
