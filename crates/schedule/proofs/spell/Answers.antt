-- `spell` meets its contract: the first k events stand at their places. Assumes nothing.
use Rattle.playing.proofs.Laws.Spelling.{spelling_start, spelling_on, spelling_end}
use Rattle.schedule.proofs.spell.Goals as goal

pub loop-k-init : goal.loop-k-init
loop-k-init c = spelling_start _ _ _ c.requires.total_in_bounds_2

pub loop-k-preserved : goal.loop-k-preserved
loop-k-preserved c = spelling_on _ _ _ _ _ _ _ c.loop-k.invariant c.loop-k-test.true c.event_at-ev.ensures c.put_three.ensures

pub returns : goal.returns
returns c = spelling_end _ _ _ _ _ c.loop-k.invariant c.loop-k-test.false
