-- `of_numbers` meets its contract. Assumes nothing.
use mathlib.Core.Path.{◌∙◌}
use native.Mathlib.Omega.{arith}
use Rattle.net.specs.Net.{messages_of}
use Rattle.net.proofs.Laws.Net.{padded_on}
use Rattle.net.proofs.Laws.Numbers.{messages-long, messages-at, flight_of, flight_held, messages_zeros, small_zeros}
use Rattle.net.proofs.Flight.of_numbers.Goals as goal

pub loop-i-init : goal.loop-i-init
loop-i-init c = (messages_zeros, small_zeros)

pub loop-i-preserved : goal.loop-i-preserved
loop-i-preserved c =
    let h = c.loop-i.invariant in
    (c.put.ensures.messages ∙ padded_on _ _ _ _ (omega (arith, messages-long c.args.numbers)) (omega (arith, messages-long c.args.numbers)) h.0 (c.message_of.ensures ∙ messages-at _ _ (omega arith)), c.put.ensures.small h.1)

pub invariant_of-result : goal.invariant_of-result
invariant_of-result c = let h = c.loop-i.invariant in (omega arith, h.1, flight_held _ (messages_of c.args.numbers) c.args.count _ (omega arith) (omega (arith, messages-long c.args.numbers)) h.0)

pub returns : goal.returns
returns c = flight_of _ _ _ _ (omega arith) (omega (arith, messages-long c.args.numbers)) c.loop-i.invariant.0
