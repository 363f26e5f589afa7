-- `spell` meets its contract: the first k events stand at their places. Assumes nothing.
use Rattle.playing.proofs.Laws.Spelling.{Spelling}
use Rattle.files.specs.Files.{event_at}
use Rattle.schedule.proofs.spell.Given as goal

abbrev pub invariant-loop-k : goal.invariant-loop-k
invariant-loop-k l = Spelling (event_at l.file) l.total l.initial.out l.out l.k
