use Rattle.std.proofs.Common.{length, ◌-◌}
use Rattle.batch_cases.proofs.play.Given as goal

abbrev pub decreases-loop-at : goal.decreases-loop-at
decreases-loop-at g l = length l.numbers - l.at
