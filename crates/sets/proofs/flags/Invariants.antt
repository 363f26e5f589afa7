-- `sets::flags` meets its contract. The invariant: the first p places have their flags. Assumes nothing.
use Rattle.std.proofs.Common.{◌≡◌, length}
use Rattle.sets.proofs.Laws.Places.{Flagged, standing}
use Rattle.sets.proofs.flags.Given as goal

abbrev pub invariant-loop-p : goal.invariant-loop-p
invariant-loop-p l = (length l.found ≡ 64) × Flagged (standing l.row l.q) l.found l.p
