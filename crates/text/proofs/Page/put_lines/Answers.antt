-- `put_lines` meets its contract: before line k the first k stand. Assumes nothing.
use Rattle.text.proofs.Laws.Writing.{puts_nothing}
use Rattle.text.proofs.Laws.Lines.{lining_room, lining_step}
use Rattle.text.specs.Text.{lines}
use Rattle.text.proofs.Page.put_lines.Goals as goal

pub loop-k-init : goal.loop-k-init
unfolding lines
loop-k-init g c = puts_nothing _

pub line-requires : goal.line-requires
line-requires g c = c.requires.1.1.0 _ _ c.loop-k-test.true (lining_room g.of _ _ c.loop-k.invariant c.loop-k-test.true c.requires.1.0)

pub loop-k-preserved : goal.loop-k-preserved
loop-k-preserved g c = lining_step g.of _ c.loop-k.invariant (c.requires.1.1.1 _ _ _ c.loop-k-test.true (lining_room g.of _ _ c.loop-k.invariant c.loop-k-test.true c.requires.1.0) c.line.ensures)
