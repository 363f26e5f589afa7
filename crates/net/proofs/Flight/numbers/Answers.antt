-- `numbers` meets its contract. Assumes nothing.
use mathlib.Core.Path.{sym, ap, ◌∙◌}
use lib.ListN.{length}
use native.Mathlib.Omega.{arith}
use Rattle.net.proofs.Laws.Net.{padded_on}
use Rattle.net.proofs.Laws.Numbers.{flight-long, messages_zeros, small_zeros}
use Rattle.net.proofs.Flight.numbers.Goals as goal

pub loop-i-init : goal.loop-i-init
loop-i-init c = (messages_zeros, small_zeros)

pub loop-i-preserved : goal.loop-i-preserved
loop-i-preserved c =
    let l = sym (flight-long _ _ c.self.invariant.0) ∙ ap length c.self.view_is in
    (c.put.ensures.messages ∙ padded_on _ _ _ _ (omega arith) (omega arith) c.loop-i.invariant.0 c.at.ensures, c.put.ensures.small c.loop-i.invariant.1)
