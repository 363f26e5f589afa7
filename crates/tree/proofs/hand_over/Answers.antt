-- `tree::hand_over` meets its contract. The invariant, for every f that says what `to` answers: the first p entries are handed over, the others are as
-- they were. Assumes nothing.
use mathlib.Core.Path.{refl}
use borrow.Author.Rules.{rules}
use Rattle.tree.proofs.Laws.Mending.{handing_put, handing_end}
use Rattle.tree.proofs.hand_over.Goals as goal

pub loop-p-preserved : goal.loop-p-preserved
loop-p-preserved g c f is = handing_put c.args.table _ _ c.args.q f _ _ _ (c.loop-p.invariant f is) c.loop-p-test.true (is _ _ c.to.ensures) c.handed.ensures refl

pub returns : goal.returns
returns g c f is = handing_end c.args.table _ c.args.q f _ (c.loop-p.invariant f is) (search rules)
