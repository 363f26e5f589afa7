-- Events by the handful: a lent run of events, numbers of 32 bits, three an event, on a state that is lent. Over any ancestor sets.
use Rattle.std.specs.Prelude.{ℕ, ◌*◌, ◌/◌, ◌%◌, Bool, cond, not, List, eqb, ltb, length}
use Rattle.events.specs.Events.{event_of}
use Rattle.state.specs.declared.State.{State}
use Rattle.playing.specs.Playing.{Run, event_in, played, spelt}

-- How many events a run of numbers has.
abbrev pub events_of : List ℕ → ℕ
events_of numbers = length numbers / 3

-- 40: the length is not a multiple of three.
abbrev pub uneven : List ℕ → Bool
uneven numbers = not (eqb (length numbers % 3) 0)

-- 41: the answer slice is too short for three numbers an event.
abbrev pub too_short : List ℕ → List ℕ → Bool
too_short numbers out = ltb (length out) (3 * events_of numbers)

-- Both come before any event, and then nothing that was lent has changed.
unfoldable pub refused_batch : ℕ → List ℕ → State → Run
refused_batch number out s = record { answer = number; state = s; answers = out }

-- Otherwise `event` once for each event in turn, refused ones included; places past what is written stay as found.
unfoldable pub batch : (ℕ → ℕ) → List ℕ → List ℕ → State → Run
batch anc numbers out s =
    cond (uneven numbers) (refused_batch 40 out s)
    (cond (too_short numbers out) (refused_batch 41 out s)
    (played anc (event_in numbers) (events_of numbers) 0 s out))

-- The first k events refused with one number, sent 0 and moved 0: what is told where the state is of a wrong size or not in order.
abbrev pub refused_each : ℕ → ℕ → List ℕ → List ℕ
refused_each number k out = spelt (λ i. event_of number 0 0) k out
