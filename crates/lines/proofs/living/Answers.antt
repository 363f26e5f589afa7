-- `living` meets its contract: one test. Assumes nothing.
use mathlib.Core.Path.{sym, ◌∙◌}
use Rattle.lines.specs.Lines.{living}
use Rattle.lines.proofs.living.Goals as goal

pub returns-then-member : goal.returns-then-member
unfolding living
returns-then-member c = rw (sym c.member.ensures ∙ c.if-member.true)

pub returns-else-member : goal.returns-else-member
unfolding living
returns-else-member c = rw (sym c.member.ensures ∙ c.if-member.false)
