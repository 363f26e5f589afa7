-- `sets::smallest` meets its contract: a word that is not empty has a largest member, so the zeros below end at the
-- smallest. Assumes nothing.
use mathlib.Core.Path.{◌≡◌, ap, sym, ◌∙◌}
use Prim.Native.Nat.{ℕ, ◌<◌}
use native.Mathlib.Omega.{arith}
use lib.Count.{count_trailing_zeros, trailing_le}
use Rattle.sets.specs.Sets.{has, smallest, none}
use Rattle.sets.proofs.Laws.Counts.{top_member, trailing_smallest, empty_smallest}
use Rattle.sets.proofs.Laws.Found.{found-none, found-some}
use Rattle.sets.proofs.smallest.Goals as goal

pub returns-then-w-eq0 : goal.returns-then-w-eq0
returns-then-w-eq0 c = found-none _ (ap (λ (w : ℕ). smallest (has w) 64 none) c.if-w-eq0.true ∙ empty_smallest 64 none)

pub returns : goal.returns
returns c = let some : 0 < c.args.w = omega arith in
    let t = top_member 64 c.args.w some c.ranges.w.fits in
    let e : count_trailing_zeros 64 c.args.w ≡ smallest (has c.args.w) 64 none = sym (trailing_smallest 64 c.args.w none t.0 t.2.within t.2.passes) in
    found-some _ _ e (omega (arith, trailing_le 64 c.args.w))
