-- Closed tests run a file by the step inside `event` alone: no order is looked at on the way, so it computes sooner. That this is the run is
-- proved (`run_steps`).
use Rattle.std.specs.Prelude.{ℕ, zero, suc, ◌+◌, ◌*◌, cond, List, Result, Ok, Err, ltb, length}
use Rattle.answers.specs.declared.Refusal.{Refusal}
use Rattle.answers.specs.Answers.{number}
use Rattle.tree.specs.Tree.{flat}
use Rattle.tree.specs.Forms.{flat_form}
use Rattle.events.specs.declared.Event.{Event}
use Rattle.state.specs.declared.State.{State}
use Rattle.state.specs.Starting.{fresh_state}
use Rattle.group.specs.Events.{stepped}
use Rattle.playing.specs.Playing.{Run, told}
use Rattle.files.specs.declared.Header.{Header}
use Rattle.files.specs.Files.{event_at, header}
use Rattle.schedule.specs.Runs.{refused_run}

-- The next `left` events, from place k on.
unfoldable pub stepping : (ℕ → Event) → ℕ → ℕ → State → List ℕ → Run
stepping events zero k s out = record { answer = 0; state = s; answers = out }
stepping events (suc left) k s out =
    stepping events left (k + 1) (stepped flat s (events k)).state (told out k (stepped flat s (events k)))

unfoldable pub stepped_on : List ℕ → List ℕ → Result Header Refusal → Run
stepped_on file out (Ok h) =
    cond (ltb (length out) (3 * h.events)) (refused_run 25 out) (stepping (event_at file) h.events 0 (fresh_state flat h.n flat_form 1) out)
stepped_on file out (Err e) = refused_run (number e) out

unfoldable pub stepped_run : List ℕ → List ℕ → Run
stepped_run file out = stepped_on file out (header file)
