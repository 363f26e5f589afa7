-- A run is the run by steps: every state on its way is in order, so `event` is the step. Assumes nothing.
use mathlib.Core.Path.{◌≡◌, refl, ap, ◌∙◌}
use mathlib.Core.Bool.{cond}
use mathlib.Core.List.{List}
use Prim.Native.Nat.{ℕ, zero, suc, ◌+◌, ◌*◌}
use lib.Dec.{ltb}
use lib.ListN.{length}
use Rattle.std.specs.Prelude.{Result, Ok, Err}
use Rattle.answers.specs.declared.Refusal.{Refusal}
use Rattle.tree.specs.Tree.{flat}
use Rattle.tree.specs.Forms.{flat_form}
use Rattle.calls.proofs.Laws.Shapes.{flat_shapely}
use Rattle.events.specs.declared.Event.{Event}
use Rattle.state.specs.declared.State.{State}
use Rattle.state.specs.Starting.{fresh_state}
use Rattle.order.specs.Between.{InOrder}
use Rattle.order.proofs.Laws.Fresh.{fresh_in_order}
use Rattle.group.specs.Events.{stepped}
use Rattle.group.proofs.Laws.Events.{event_steps_on}
use Rattle.group.proofs.Laws.Preserving.{step_keeps_order}
use Rattle.playing.specs.Playing.{Run, told, played}
use Rattle.playing.proofs.Laws.Playing.{played-none, played-tells}
use Rattle.files.specs.declared.Header.{Header}
use Rattle.files.specs.Files.{event_at, header}
use Rattle.files.proofs.Laws.Opening.{good_opened}
use Rattle.schedule.specs.Runs.{refused_run, opened, run}
use Rattle.schedule.specs.Steps.{stepping, stepped_on, stepped_run}

pub played_steps : (events : ℕ → Event) (left k : ℕ) (s : State) (out : List ℕ) → InOrder flat s → played flat events left k s out ≡ stepping events left k s out
unfolding stepping
played_steps events zero k s out o = played-none flat events k s out
played_steps events (suc left) k s out o =
    let r = stepped flat s (events k) in
    played-tells flat events left k s out r (event_steps_on flat s (events k) o) ∙ played_steps events left (k + 1) r.state (told out k r) (step_keeps_order flat s (events k) o)

pub run_steps : (file out : List ℕ) → run file out ≡ stepped_run file out
unfolding run opened stepped_on stepped_run
run_steps file out = go (header file) refl
  where
    go : (r : Result Header Refusal) → header file ≡ r → opened file out r ≡ stepped_on file out r
    go (Ok h) e =
        let o = good_opened file h e in
        ap (λ (r : Run). cond (ltb (length out) (3 * h.events)) (refused_run 25 out) r)
        (played_steps (event_at file) h.events 0 (fresh_state flat h.n flat_form 1) out (fresh_in_order flat h.n flat_form 1 (flat_shapely h.n o.size)))
    go (Err e) q = refl
