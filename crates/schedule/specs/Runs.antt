-- The schedule run: the file's checks, then its events one after the other, from a start of the file's size. A file means the flat tree, with box
-- size 1.
use Rattle.std.specs.Prelude.{ℕ, ◌*◌, cond, List, Result, Ok, Err, ltb, length}
use Rattle.answers.specs.declared.Refusal.{Refusal}
use Rattle.answers.specs.Answers.{number}
use Rattle.answers.specs.Refusals.{accepted}
use Rattle.tree.specs.Tree.{flat}
use Rattle.tree.specs.Forms.{flat_form}
use Rattle.state.specs.declared.State.{State}
use Rattle.state.specs.declared.Refused.{Refused}
use Rattle.state.specs.Starting.{fresh_state, empty_state}
use Rattle.playing.specs.Playing.{Run, played}
use Rattle.files.specs.declared.Header.{Header}
use Rattle.files.specs.Files.{event_at, header}

-- What a reply and the slice at its end tell of a run.
abbrev pub told : Result State Refused → List ℕ → Run
told (Ok s) answers = record { answer = accepted; state = s; answers = answers }
told (Err r) answers = record { answer = number r.refusal; state = r.state; answers = answers }

-- A refused run gives the group of a refused start and leaves the slice as found.
unfoldable pub refused_run : ℕ → List ℕ → Run
refused_run number out = record { answer = number; state = empty_state; answers = out }

-- 25, after 23: the slice is shorter than three numbers an event.
unfoldable pub opened : List ℕ → List ℕ → Result Header Refusal → Run
opened file out (Ok h) =
    cond (ltb (length out) (3 * h.events)) (refused_run 25 out) (played flat (event_at file) h.events 0 (fresh_state flat h.n flat_form 1) out)
opened file out (Err e) = refused_run (number e) out

unfoldable pub run : List ℕ → List ℕ → Run
run file out = opened file out (header file)
