-- `tree::fresh` meets its contract. The invariant: the first p entries are the fresh table's, the others 255.
-- Assumes nothing.
use mathlib.Core.Path.{ap, ◌∙◌}
use Rattle.std.proofs.Common.{Option, ℕ}
use Rattle.std.specs.Option.{unwrap_or}
use Rattle.sets.specs.Sets.{none}
use Rattle.sets.proofs.Laws.Found.{found_or_none}
use Rattle.tree.proofs.Laws.Mending.{filling_start, filling_put, filling_end}
use Rattle.tree.proofs.fresh.Goals as goal

pub loop-p-init : goal.loop-p-init
loop-p-init c = search filling_start

pub loop-p-preserved : goal.loop-p-preserved
loop-p-preserved c = filling_put _ _ _ _ _ _ c.requires.n_bound c.loop-p.invariant c.loop-p-test.true (c.unwrap_or.ensures ∙ ap (λ (o : Option ℕ). unwrap_or o none) c.parent_of.ensures ∙ found_or_none _)

pub returns : goal.returns
returns c = search filling_end
