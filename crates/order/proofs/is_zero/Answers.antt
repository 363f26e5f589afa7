-- `is_zero` meets its contract: equality with what is all 0 is the clauses, one by one. Assumes nothing.
use mathlib.Core.Path.{◌∙◌}
use Rattle.order.proofs.Laws.Ordering.{zero_triple_test}
use Rattle.order.proofs.is_zero.Goals as goal

pub returns : goal.returns
returns c = c.eq.ensures ∙ rw c.zero.ensures (zero_triple_test c.args.t)
