-- `put_edge_line` meets its contract: two tests. Assumes nothing.
use mathlib.Core.Path.{sym, ◌∙◌}
use Rattle.dot.proofs.Laws.Lines.{edge_marked, edge_none, edge_some}
use Rattle.dot.proofs.put_edge_line.Goals as goal

pub returns-then-marked : goal.returns-then-marked
returns-then-marked c = search edge_marked

pub returns-in-Some : goal.returns-in-Some
returns-in-Some c = edge_some _ _ _ _ _ _ c.member-marked.ensures c.if-marked.false c.in-Some.ensures c.put_edge.ensures

pub returns-in_default : goal.returns-in_default
returns-in_default c = edge_none _ _ _ _ c.member-marked.ensures c.if-marked.false (sym c.in_default.is ∙ c.parent_of.ensures)
