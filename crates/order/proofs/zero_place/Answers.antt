-- `zero_place` meets its contract: equality with what is all 0 is the clauses, one by one. Assumes nothing.
use mathlib.Core.Path.{◌∙◌}
use Rattle.order.proofs.Laws.Ordering.{zero_place_test}
use Rattle.order.proofs.zero_place.Goals as goal

pub returns : goal.returns
returns c = c.eq.ensures ∙ rw c.nothing.ensures (zero_place_test c.args.m)
