-- `zero_record` meets its contract: equality with what is all 0 is the clauses, one by one. Assumes nothing.
use mathlib.Core.Path.{◌∙◌}
use Rattle.order.proofs.Laws.Ordering.{zero_record_test}
use Rattle.order.proofs.zero_record.Goals as goal

pub returns : goal.returns
returns c = c.eq.ensures ∙ rw c.no_rank.ensures (zero_record_test c.args.r)
