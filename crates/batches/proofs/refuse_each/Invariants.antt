-- `refuse_each` meets its contract: the first k events are answered. Assumes nothing.
use Rattle.events.specs.Events.{event_of}
use Rattle.playing.proofs.Laws.Spelling.{Spelling}
use Rattle.batches.proofs.refuse_each.Given as goal

abbrev pub invariant-loop-k : goal.invariant-loop-k
invariant-loop-k l = Spelling (λ i. event_of l.number 0 0) l.total l.initial.out l.out l.k
