-- `event` meets its contract: at each return the tests on the way pick the definition's case. Assumes nothing.
use Rattle.group.proofs.Laws.Events.{event_wrong_size, event_disordered, event_steps, in_order_from}
use Rattle.group.proofs.event.Goals as goal

pub returns-then-wrong_size : goal.returns-then-wrong_size
returns-then-wrong_size c = search event_wrong_size

pub returns-then-not-in_order : goal.returns-then-not-in_order
returns-then-not-in_order c = search event_disordered

pub step-requires : goal.step-requires
step-requires c = search in_order_from

pub returns : goal.returns
returns c = search event_steps
