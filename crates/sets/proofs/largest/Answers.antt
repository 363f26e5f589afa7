-- `sets::largest` meets its contract: the zeros above the largest member, that member and those below it make 64.
-- Assumes nothing.
use mathlib.Core.Path.{ap, ◌∙◌}
use Prim.Native.Nat.{ℕ, ◌<◌}
use native.Mathlib.Omega.{arith}
use Rattle.sets.specs.Sets.{has, largest, none}
use Rattle.sets.proofs.Laws.Counts.{leading_largest, empty_largest}
use Rattle.sets.proofs.Laws.Found.{found-none, found-some}
use Rattle.sets.proofs.largest.Goals as goal

pub returns-then-w-eq0 : goal.returns-then-w-eq0
returns-then-w-eq0 c = found-none _ (ap (λ (w : ℕ). largest (has w) 64 none) c.if-w-eq0.true ∙ empty_largest 64 none)

pub returns : goal.returns
returns c = let some : 0 < c.args.w = omega arith in
    found-some _ _ (omega (arith, leading_largest 64 c.args.w none some c.ranges.w.fits)) (omega arith)
