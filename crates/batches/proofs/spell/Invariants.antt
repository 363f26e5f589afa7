-- `spell` meets its contract: the first k events stand at their places. Assumes nothing.
use Rattle.playing.specs.Playing.{event_in}
use Rattle.playing.proofs.Laws.Spelling.{Spelling}
use Rattle.batches.specs.Batches.{events_of}
use Rattle.batches.proofs.spell.Given as goal

abbrev pub invariant-loop-k : goal.invariant-loop-k
invariant-loop-k l = Spelling (event_in l.events) (events_of l.events) l.initial.out l.out l.k
