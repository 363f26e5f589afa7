-- `put_lines` meets its contract: before line k the first k stand. Assumes nothing.
use Rattle.text.specs.Text.{lines}
use Rattle.text.specs.Pages.{Puts}
use Rattle.text.proofs.Page.put_lines.Given as goal

abbrev pub invariant-loop-k : goal.invariant-loop-k
invariant-loop-k g l = Puts l.initial.self (lines g.of.line l.k) l.self
