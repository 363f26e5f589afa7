-- `after_node` meets its contract: one test. Assumes nothing.
use native.Mathlib.Omega.{arith}
use Rattle.proposing.proofs.Laws.Steps.{width_small, after_plain, after_box}
use Rattle.proposing.proofs.after_node.Goals as goal

pub overflow_add-end : goal.overflow_add-end
overflow_add-end c = omega (arith, width_small _ _ c.width.ensures)

pub overflow_add-result : goal.overflow_add-result
overflow_add-result c = omega (arith, width_small _ _ c.width.ensures)

pub returns-then-byte_at-eq59 : goal.returns-then-byte_at-eq59
returns-then-byte_at-eq59 c = search after_plain

pub overflow_add-result-2 : goal.overflow_add-result-2
overflow_add-result-2 c = omega (arith, width_small _ _ c.width.ensures)

pub returns : goal.returns
returns c = search after_box
