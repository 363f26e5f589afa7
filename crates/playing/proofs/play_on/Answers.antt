-- `play_on` meets its contract: what is still to come has the same end. Assumes nothing.
use mathlib.Core.Path.{ap, ◌∙◌}
use Prim.Native.Nat.{ℕ}
use Rattle.playing.specs.Playing.{written}
use Rattle.group.proofs.Laws.Stepping.{step_count}
use Rattle.playing.proofs.Laws.Going.{going_begin, going_on, going_refused, going_end}
use Rattle.playing.proofs.play_on.Goals.{in-Ok, in-Err}
use Rattle.playing.proofs.play_on.Goals as goal

pub of-flight-requires : goal.of-flight-requires
of-flight-requires c = step_count _ _ c.requires.in_order

pub loop-k-init : goal.loop-k-init
loop-k-init c = going_begin _ _ _ _ c.of-flight.ensures c.requires.total_in_bounds c.requires.in_order

pub loop-k-preserved : goal.loop-k-preserved
loop-k-preserved c = let g = c.loop-k.invariant in
    elim c.match-advance.branch [
      | in-Ok w ↦ going_on _ _ _ _ _ _ _ _ _ _ g c.loop-k-test.true c.event_in-ev.ensures w.in-Ok.ensures (w.out-is ∙ w.put_three.ensures)
      | in-Err w ↦ going_refused _ _ _ _ _ _ _ _ w.in-Err.refusal _ _ g c.loop-k-test.true c.event_in-ev.ensures w.in-Err.ensures (w.out-is ∙ w.put_three-in-Err.ensures ∙ ap (λ (x : ℕ). written c.loop-k.out c.loop-k.k x 0 0) w.number.ensures)
    ]

pub returns-clause-s_after : goal.returns-clause-s_after
returns-clause-s_after c = rw (c.count-s.ensures, c.places-s.ensures) (going_end _ _ _ _ _ _ _ c.loop-k.invariant c.loop-k-test.false).0

pub returns-clause-out_after : goal.returns-clause-out_after
returns-clause-out_after c = (going_end _ _ _ _ _ _ _ c.loop-k.invariant c.loop-k-test.false).1
