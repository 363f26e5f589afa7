-- A run's states and numbers are those of `event`, one event after the other: so its final state is reached by accepted events, and all of
-- demand 3 holds of it. Assumes nothing.
use mathlib.Core.Path.{◌≡◌, sym, ap, subst, ◌∙◌}
use mathlib.Core.List.{List}
use Prim.Native.Nat.{ℕ, ◌*◌, ◌≤◌, ◌<◌}
use lib.ListN.{length}
use Rattle.tree.specs.Tree.{flat}
use Rattle.tree.specs.Forms.{flat_form}
use Rattle.state.specs.declared.State.{State}
use Rattle.state.specs.Starting.{fresh_state, started}
use Rattle.calls.proofs.Laws.Shapes.{flat_shapely, shape_right}
use Rattle.state.proofs.Laws.Starting.{started-small}
use Rattle.group.specs.Events.{event}
use Rattle.group.specs.Reaching.{Reaches, begun}
use Rattle.playing.specs.Playing.{Run, played}
use Rattle.playing.specs.Reaching.{state_after, NumbersOf}
use Rattle.playing.proofs.Reaching.{after-played, numbers-played, after_reaches}
use Rattle.files.specs.Files.{byte_at, event_at, events_in}
use Rattle.schedule.specs.Runs.{run}
use Rattle.schedule.proofs.Laws.Ending.{run_whole}

-- The state after the first k events of a file, from a start of its size.
abbrev pub after_first : List ℕ → ℕ → State
after_first file k = state_after flat (event_at file) (started flat (byte_at file 5) flat_form 1).state k

-- ---- an accepted run

module _ (file out : List ℕ) (z : (run file out).answer ≡ 0) where
  -- The file's size is a right one.
  pub run-begins : (started flat (byte_at file 5) flat_form 1).answer ≡ 0
  run-begins =
      let r = run_whole file out z in
      subst (λ (m : ℕ). (started flat m flat_form 1).answer ≡ 0) r.1.opens.size_is (started-small flat r.0.n flat_form 1 (shape_right r.0.n flat_form 1 (flat_shapely r.0.n r.1.opens.size))).0

  ran : (3 * events_in file ≤ length out) × (run file out ≡ played flat (event_at file) (events_in file) 0 (started flat (byte_at file 5) flat_form 1).state out)
  ran =
      let r = run_whole file out z in
      let n = r.0.n in
      let w = r.1 in (
        subst (λ (t : ℕ). 3 * t ≤ length out) w.opens.events_are w.room,
        w.run_is ∙ ap (λ (t : ℕ). played flat (event_at file) t 0 (fresh_state flat n flat_form 1) out) w.opens.events_are
            ∙ ap (λ (s : State). played flat (event_at file) (events_in file) 0 s out) (sym (started-small flat n flat_form 1 (shape_right n flat_form 1 (flat_shapely n w.opens.size))).1 ∙ ap (λ (m : ℕ). (started flat m flat_form 1).state) w.opens.size_is),
      )

  -- Its final state is the one after all of the file's events.
  pub run-after : (run file out).state ≡ after_first file (events_in file)
  run-after = ap (λ (x : Run). x.state) ran.1 ∙ after-played flat (event_at file) (started flat (byte_at file 5) flat_form 1).state (events_in file) out

  -- The three numbers that it writes of the event at place k are answer, sent and moved's count of `event` on the state after the first k events.
  pub run-numbers : (k : ℕ) → k < events_in file → NumbersOf (event flat (after_first file k) (event_at file k)) (run file out).answers k
  run-numbers k l =
      subst (λ (x : Run). NumbersOf (event flat (after_first file k) (event_at file k)) x.answers k) (sym ran.1)
      (numbers-played flat (event_at file) (started flat (byte_at file 5) flat_form 1).state (events_in file) k out ran.0 l)

  -- Every state on the way is reached by accepted events,
  pub states-reached : (k : ℕ) → Reaches flat (byte_at file 5) (after_first file k)
  states-reached = after_reaches flat (byte_at file 5) (event_at file) (started flat (byte_at file 5) flat_form 1).state (begun flat_form 1 run-begins)

-- and so is the final one.
pub run_reaches : (file out : List ℕ) → (run file out).answer ≡ 0 → Reaches flat (byte_at file 5) (run file out).state
run_reaches file out z = subst (Reaches flat (byte_at file 5)) (sym (run-after file out z)) (states-reached file out z (events_in file))
