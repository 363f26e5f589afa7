-- `places` meets its contract. Assumes nothing.
use mathlib.Core.Path.{sym, ap, ◌∙◌}
use lib.ListN.{length}
use native.Mathlib.Omega.{arith}
use Rattle.net.specs.Net.{padded}
use Rattle.net.proofs.Laws.Net.{padded_on}
use Rattle.net.proofs.Laws.Numbers.{flight-long}
use Rattle.net.proofs.Flight.places.Goals as goal

pub loop-i-init : goal.loop-i-init
unfolding padded
loop-i-init c = rw c.nothing-found.ensures

pub loop-i-preserved : goal.loop-i-preserved
loop-i-preserved c =
    let l = sym (flight-long _ _ c.self.invariant.0) ∙ ap length c.self.view_is in
    padded_on _ _ _ _ (omega arith) (omega arith) c.loop-i.invariant c.at.ensures
