-- `sets::octet` meets its contract. The invariant: the sum is the set of the first j flags. Assumes nothing.
use Rattle.sets.proofs.Laws.Places.{Summing}
use Rattle.sets.proofs.octet.Given as goal

abbrev pub invariant-loop-j : goal.invariant-loop-j
invariant-loop-j l = Summing l.flags l.k l.j l.sum
