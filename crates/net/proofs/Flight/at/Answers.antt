-- `at` meets its contract: a place before the count holds its message. Assumes nothing.
use mathlib.Core.Path.{◌∙◌, ap}
use mathlib.Core.List.{List}
use lib.ListN.{get_or}
use Rattle.rank.specs.declared.Message.{Message}
use Rattle.net.specs.Net.{zero_message}
use Rattle.net.proofs.Laws.Numbers.{flight_at}
use Rattle.net.proofs.Flight.at.Goals as goal

pub returns-then-place-self : goal.returns-then-place-self
returns-then-place-self c = c.message_of.ensures ∙ flight_at _ _ _ c.self.invariant.0 c.if-place-self.true ∙ ap (λ (l : List Message). get_or l c.args.place zero_message) c.self.view_is
