-- `step_each` meets its contract: each event is refused alike, or all are played. Assumes nothing.
use mathlib.Core.Path.{ap, ◌∙◌}
use Prim.Native.Nat.{ℕ}
use Rattle.batches.specs.Batches.{events_of, refused_each}
use Rattle.group.proofs.Laws.Events.{in_order_from}
use Rattle.playing.proofs.Laws.Slices.{spelt-room}
use Rattle.batches.proofs.Laws.Handling.{each_wrong_size, each_disordered, each-played}
use Rattle.batches.proofs.step_each.Goals as goal

pub returns-then-wrong_size-clause-s_after : goal.returns-then-wrong_size-clause-s_after
returns-then-wrong_size-clause-s_after c = (each_wrong_size _ _ _ _ _ _ _ c.wrong_size.ensures c.if-wrong_size.true (c.refuse_each.ensures ∙ ap (λ (x : ℕ). refused_each x (events_of c.args.events.now) c.args.out.now) c.number.ensures)).0

pub returns-then-wrong_size-clause-out_after : goal.returns-then-wrong_size-clause-out_after
returns-then-wrong_size-clause-out_after c = (each_wrong_size _ _ _ _ _ _ _ c.wrong_size.ensures c.if-wrong_size.true (c.refuse_each.ensures ∙ ap (λ (x : ℕ). refused_each x (events_of c.args.events.now) c.args.out.now) c.number.ensures)).1

pub returns-then-not-in_order-clause-s_after : goal.returns-then-not-in_order-clause-s_after
returns-then-not-in_order-clause-s_after c = (each_disordered _ _ _ _ _ _ _ _ c.wrong_size.ensures c.if-wrong_size.false c.in_order.ensures.value c.if-not-in_order.true (c.refuse_each-then-not-in_order.ensures ∙ ap (λ (x : ℕ). refused_each x (events_of c.args.events.now) c.args.out.now) c.number-then-not-in_order.ensures)).0

pub returns-then-not-in_order-clause-out_after : goal.returns-then-not-in_order-clause-out_after
returns-then-not-in_order-clause-out_after c = (each_disordered _ _ _ _ _ _ _ _ c.wrong_size.ensures c.if-wrong_size.false c.in_order.ensures.value c.if-not-in_order.true (c.refuse_each-then-not-in_order.ensures ∙ ap (λ (x : ℕ). refused_each x (events_of c.args.events.now) c.args.out.now) c.number-then-not-in_order.ensures)).1

pub play_on-requires-clause-in_order : goal.play_on-requires-clause-in_order
play_on-requires-clause-in_order c = in_order_from _ _ _ c.in_order.ensures.value c.if-not-in_order.false c.in_order.ensures.shaped

pub play_on-requires-clause-total_in_bounds : goal.play_on-requires-clause-total_in_bounds
play_on-requires-clause-total_in_bounds c = spelt-room _ _ _ _ c.spell.ensures c.requires

pub returns-clause-s_after : goal.returns-clause-s_after
returns-clause-s_after c = (each-played _ _ _ _ _ _ _ _ c.requires c.spell.ensures c.play_on.ensures.s_after c.play_on.ensures.out_after).0

pub returns-clause-out_after : goal.returns-clause-out_after
returns-clause-out_after c = (each-played _ _ _ _ _ _ _ _ c.requires c.spell.ensures c.play_on.ensures.s_after c.play_on.ensures.out_after).1
