-- `step_all` meets its contract: what is still to come has the same end. Assumes nothing.
use mathlib.Core.Path.{ap, ◌∙◌}
use Prim.Native.Nat.{ℕ}
use Rattle.playing.specs.Playing.{written}
use Rattle.timing.proofs.Laws.Stepping.{stepping-one, stepping_refused, stepping_end}
use Rattle.timing.proofs.step_all.Goals.{in-Ok, in-Err}
use Rattle.timing.proofs.step_all.Goals as goal

pub loop-k-preserved : goal.loop-k-preserved
loop-k-preserved c =
    elim c.match-event.branch [
      | in-Ok w ↦ rw w.s-is (stepping-one _ _ _ _ _ _ _ _ _ _ _ c.loop-k.invariant c.loop-k-test.true c.event_in-ev.ensures w.in-Ok.ensures (w.out-is ∙ w.put_three.ensures))
      | in-Err w ↦ rw w.s-is (stepping_refused _ _ _ _ _ _ _ _ _ w.in-Err.r.refusal _ _ c.loop-k.invariant c.loop-k-test.true c.event_in-ev.ensures w.in-Err.ensures (w.out-is ∙ w.put_three-in-Err.ensures ∙ ap (λ (x : ℕ). written c.loop-k.out c.loop-k.k x 0 0) w.number.ensures))
    ]

pub returns : goal.returns
returns c = stepping_end _ _ _ _ _ _ _ _ c.loop-k.invariant c.loop-k-test.false
