-- Events one after the other: each on the state that the one before left, and its three numbers in a slice. Over any ancestor sets, and over
-- events given by their place, so that a schedule file and a lent run of numbers share it.
use Rattle.std.specs.Prelude.{ℕ, zero, suc, ◌+◌, ◌*◌, List, get_or, set}
use Rattle.answers.specs.Refusals.{accepted}
use Rattle.events.specs.declared.Event.{Event}
use Rattle.events.specs.Events.{event_of}
use Rattle.state.specs.declared.State.{State}
use Rattle.group.specs.Events.{Stepped, event}

-- Three numbers at place k of a slice that has three numbers for each event.
unfoldable pub written : List ℕ → ℕ → ℕ → ℕ → ℕ → List ℕ
written out k x y z = set (set (set out (3 * k) x) (3 * k + 1) y) (3 * k + 2) z

-- The event at place k of a run of numbers: its kind, a and b.
unfoldable pub event_in : List ℕ → ℕ → Event
event_in numbers k = event_of (get_or numbers (3 * k) 0) (get_or numbers (3 * k + 1) 0) (get_or numbers (3 * k + 2) 0)

-- What is told of an event at its place: answer, sent and moved's count.
unfoldable pub told : List ℕ → ℕ → Stepped → List ℕ
told out k r = written out k r.answer r.sent r.moved.count

-- What a run answers: its own answer, the final state, and the slice.
pub record Run : Type 0 where
  pub answer : ℕ
  pub state : State
  pub answers : List ℕ

-- The next `left` events, from place k on. A refused event hands back the state as it was and doesn't end the run.
unfoldable pub played : (ℕ → ℕ) → (ℕ → Event) → ℕ → ℕ → State → List ℕ → Run
played anc events zero k s out = record { answer = accepted; state = s; answers = out }
played anc events (suc left) k s out =
    played anc events left (k + 1) (event anc s (events k)).state (told out k (event anc s (events k)))

-- The first k events, each spelt out at its place.
unfoldable pub spelt : (ℕ → Event) → ℕ → List ℕ → List ℕ
spelt events zero out = out
spelt events (suc k) out = written (spelt events k out) k (events k).kind (events k).a (events k).b
