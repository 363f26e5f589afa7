-- `sets::octet` meets its contract. The invariant: the sum is the set of the first j flags. Assumes nothing.
use mathlib.Core.Path.{refl}
use Rattle.sets.proofs.Laws.Places.{summing_start, summing_step}
use Rattle.sets.proofs.octet.Goals as goal

pub loop-j-init : goal.loop-j-init
loop-j-init c = search summing_start

pub loop-j-preserved : goal.loop-j-preserved
loop-j-preserved c = summing_step _ _ _ _ _ c.loop-j.invariant c.loop-j-test.true (c.requires.by_index _ c.loop-j-test.true) refl
