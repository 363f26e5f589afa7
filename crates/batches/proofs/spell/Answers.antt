-- `spell` meets its contract: the first k events stand at their places. Assumes nothing.
use Rattle.playing.proofs.Laws.Spelling.{spelling_start, spelling_on}
use Rattle.batches.proofs.spell.Goals as goal

pub loop-k-init : goal.loop-k-init
loop-k-init c = spelling_start _ _ _ c.requires

pub loop-k-preserved : goal.loop-k-preserved
loop-k-preserved c = spelling_on _ _ _ _ _ _ _ c.loop-k.invariant c.loop-k-test.true c.event_in-ev.ensures c.put_three.ensures
