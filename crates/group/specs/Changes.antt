-- What the theorems say of an accepted event: the rank that it names, what that rank does, the messages that it sends. Over any ancestor sets.
use Rattle.std.specs.Prelude.{ℕ, cond, List, ◌++◌}
use Rattle.rank.specs.declared.Acted.{Acted}
use Rattle.rank.specs.declared.Message.{Message}
use Rattle.rank.specs.Sends.{letters}
use Rattle.events.specs.declared.Event.{Event}
use Rattle.events.specs.Events.{names_place}
use Rattle.state.specs.declared.State.{State}
use Rattle.state.specs.States.{rank_at, row_at, place_at}
use Rattle.plans.specs.Plans.{acting}

-- The rank that an event names: for kinds 2 and 5 the receiver of the message at place a, for the others rank a.
unfoldable pub named : State → Event → ℕ
named s ev = cond (names_place ev.kind) (place_at s ev.a).to ev.a

-- What the event has that rank do.
unfoldable pub doing : (ℕ → ℕ) → State → Event → Acted
doing anc s ev = acting anc s.group.n s.group.dead ev (place_at s ev.a) (named s ev) (rank_at s (named s ev)) (row_at s (named s ev))

-- The messages that it sends, in the order written, each send ascending.
unfoldable pub sends : (ℕ → ℕ) → State → Event → List Message
sends anc s ev = letters (named s ev) (doing anc s ev).first ++ letters (named s ev) (doing anc s ev).second
