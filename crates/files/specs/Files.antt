-- The schedule file: three bytes AGR, 16-bit version 1, one byte n, then 9 bytes an event: kind in one byte, a and b in four
-- each; numbers least byte first.
use Rattle.std.specs.Prelude.{ℕ, ◌+◌, ◌*◌, ◌-◌, ◌/◌, ◌%◌, Bool, cond, not, ◌&&◌, List, Result, Ok, Err, eqb, ltb, length, get_or}
use Rattle.answers.specs.declared.Refusal.{Refusal}
use Rattle.answers.specs.declared.Refusal.TheVariants.{BadSize, NoHeader, WrongMark, WrongVersion, Broken, TooLong}
use Rattle.tree.specs.Calls.{wrong_size}
use Rattle.events.specs.declared.Event.{Event}
use Rattle.events.specs.Events.{event_of}
use Rattle.files.specs.declared.Header.{Header}

-- At most 4,096 events, and so at most 36,870 bytes.
abbrev pub most_events : ℕ
most_events = 4096

abbrev pub longest : ℕ
longest = 36870

unfoldable pub byte_at : List ℕ → ℕ → ℕ
byte_at file i = get_or file i 0

unfoldable pub short_at : List ℕ → ℕ → ℕ
short_at file i = byte_at file i + 256 * byte_at file (i + 1)

unfoldable pub number_at : List ℕ → ℕ → ℕ
number_at file i = short_at file i + 65536 * short_at file (i + 2)

-- The event at a place of the schedule.
unfoldable pub event_at : List ℕ → ℕ → Event
event_at file k = event_of (byte_at file (6 + 9 * k)) (number_at file (6 + 9 * k + 1)) (number_at file (6 + 9 * k + 5))

-- The number of whole events.
unfoldable pub events_in : List ℕ → ℕ
events_in file = (length file - 6) / 9

-- 21: mark
unfoldable pub wrong_mark : List ℕ → Bool
wrong_mark file = not (eqb (byte_at file 0) 65 && (eqb (byte_at file 1) 71 && eqb (byte_at file 2) 82))

-- 22: version
unfoldable pub wrong_version : List ℕ → Bool
wrong_version file = not (eqb (short_at file 3) 1)

-- 23: a broken last event
unfoldable pub broken : List ℕ → Bool
broken file = not (eqb ((length file - 6) % 9) 0)

-- Checks in order: 20 fewer than 6 bytes; 21 mark; 22 version; 1 size; 24 more than 36,870 bytes; 23 a broken last event. A
-- good header has the group's size and the number of events.
unfoldable pub header : List ℕ → Result Header Refusal
header file =
    cond (ltb (length file) 6) (Err NoHeader)
    (cond (wrong_mark file) (Err WrongMark)
    (cond (wrong_version file) (Err WrongVersion)
    (cond (wrong_size (byte_at file 5)) (Err BadSize)
    (cond (ltb longest (length file)) (Err TooLong)
    (cond (broken file) (Err Broken)
    (Ok (record { n = byte_at file 5; events = events_in file })))))))
