-- `sets::size` meets its contract: the ones of a word of 64 digits are its members below 64. Assumes nothing.
use mathlib.Core.Path.{ap, sym, ◌∙◌}
use Prim.Native.Nat.{ℕ}
use Rattle.sets.specs.Sets.{has, count}
use Rattle.sets.proofs.Laws.Counts.{ones_count, empty_count}
use Rattle.sets.proofs.size.Goals as goal

pub returns-then-w-eq0 : goal.returns-then-w-eq0
returns-then-w-eq0 c = sym (ap (λ (w : ℕ). count (has w) 64) c.if-w-eq0.true ∙ empty_count 64)

pub returns : goal.returns
returns c = ones_count 64 c.args.w c.ranges.w.fits
