-- `sets::below` meets its contract: below 64 a shifted 1 is the power itself. Assumes nothing.
use mathlib.Core.Path.{ap, sym}
use Prim.Native.Nat.{ℕ, ◌-◌}
use native.Mathlib.Omega.{arith}
use lib.Pow.{pow_pos}
use Rattle.sets.specs.Sets.{below}
use Rattle.sets.proofs.Laws.Members.{shifted_one}
use Rattle.sets.proofs.below.Goals as goal

pub returns-then-p-eq64 : goal.returns-then-p-eq64
unfolding below
returns-then-p-eq64 c = sym (ap below c.if-p-eq64.true)

pub overflow_sub-result : goal.overflow_sub-result
overflow_sub-result c = rw (shifted_one 64 c.args.p (omega arith)) (pow_pos c.args.p)

pub returns : goal.returns
unfolding below
returns c = ap (λ (x : ℕ). x - 1) (shifted_one 64 c.args.p (omega arith))
