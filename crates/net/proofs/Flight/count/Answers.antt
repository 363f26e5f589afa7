-- `count` meets its contract. Assumes nothing.
use mathlib.Core.Path.{sym, ap, ◌∙◌}
use lib.ListN.{length}
use Rattle.net.proofs.Laws.Numbers.{flight-long}
use Rattle.net.proofs.Flight.count.Goals as goal

pub returns : goal.returns
returns c = sym (flight-long _ _ c.self.invariant.0) ∙ ap length c.self.view_is
