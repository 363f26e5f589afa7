-- `of` meets its contract. Assumes nothing.
use borrow.Author.Rules.{rules}
use mathlib.Core.Path.{◌∙◌}
use native.Mathlib.Omega.{arith}
use Rattle.net.proofs.Laws.Net.{padded_on}
use Rattle.net.proofs.Laws.Numbers.{flight_of, flight_held, messages_zeros, small_zeros}
use Rattle.net.proofs.Flight.of.Goals as goal

pub loop-i-init : goal.loop-i-init
loop-i-init c = (messages_zeros, small_zeros)

pub loop-i-preserved : goal.loop-i-preserved
loop-i-preserved c = let h = c.loop-i.invariant in (c.put.ensures.messages ∙ padded_on _ _ _ _ (omega arith) (omega arith) h.0 (search rules), c.put.ensures.small h.1)

pub invariant_of-result : goal.invariant_of-result
invariant_of-result c = let h = c.loop-i.invariant in (omega arith, h.1, flight_held _ c.args.net c.args.count _ (omega arith) (omega arith) h.0)

pub returns : goal.returns
returns c = flight_of _ _ _ _ (omega arith) (omega arith) c.loop-i.invariant.0
