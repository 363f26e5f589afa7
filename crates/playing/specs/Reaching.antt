-- The states on the way, event by event, and the numbers that are told of an event.
use Rattle.std.specs.Prelude.{ℕ, zero, suc, ◌+◌, ◌*◌, ◌≡◌, List, get_or}
use Rattle.events.specs.declared.Event.{Event}
use Rattle.state.specs.declared.State.{State}
use Rattle.group.specs.Events.{Stepped, event}

-- The state after the first k events, from s on. A refused event hands back the state as it was.
unfoldable pub state_after : (ℕ → ℕ) → (ℕ → Event) → State → ℕ → State
state_after anc events s zero = s
state_after anc events s (suc k) = (event anc (state_after anc events s k) (events k)).state

-- The three numbers at place k are an event's answer, sent and moved's count.
pub record NumbersOf (r : Stepped) (numbers : List ℕ) (k : ℕ) : Type 0 where
  pub answer_is : get_or numbers (3 * k) 0 ≡ r.answer
  pub sent_is : get_or numbers (3 * k + 1) 0 ≡ r.sent
  pub moved_is : get_or numbers (3 * k + 2) 0 ≡ r.moved.count
