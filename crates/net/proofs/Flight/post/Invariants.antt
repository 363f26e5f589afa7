-- `post` meets its contract. The invariant: the list, and the messages still to come, are the list that was to be. Assumes nothing.
use Rattle.sets.specs.Sets as Sets
use Rattle.sets.specs.Sets.{has}
use Rattle.net.proofs.Laws.Net.{Posting}
use Rattle.net.proofs.Flight.post.Given as goal

abbrev pub invariant-loop-q : goal.invariant-loop-q
invariant-loop-q l = Posting l.initial.self l.me l.s l.self l.left

abbrev pub decreases-loop-q : goal.decreases-loop-q
decreases-loop-q l = Sets.count (has l.left) 64
