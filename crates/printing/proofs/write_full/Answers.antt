use Rattle.std.proofs.Common.{◌≡◌, ℕ, ◌+◌, ◌-◌, ◌≤◌, List, ◌++◌, arith, length, take, drop, sym, ap, ◌∙◌, subst}
use Rattle.std.proofs.lemmas.List.{length-take, take-take}
use Rattle.std.proofs.KnownBytes.{Appends-trans}
use Rattle.std.specs.Io.KnownBytes.{Appends}
use lib.Seq.{take-add}
use Rattle.printing.proofs.write_full.Goals as goal

-- What was written before, and then the front of the rest, are the front that is written after.
front : (a n : ℕ) (l : List ℕ) → n ≤ length l - a → take a l ++ take n (take (length l - a) (drop a l)) ≡ take (a + n) l
front a n l h = ap (λ x. take a l ++ x) (take-take n (length l - a) (drop a l) h) ∙ sym (take-add a n l)

pub loop-done-preserved : goal.loop-done-preserved
loop-done-preserved g c =
    let rest = length c.args.bytes.now - c.loop-done.done in
    let n = c.in_ok-n.n in
    let fits : n ≤ rest = omega (arith, length-take rest (drop c.loop-done.done c.args.bytes.now), c.in_ok-n.ensures.bound) in (
      omega (arith, fits, c.loop-done.invariant.0),
      subst (Appends _ _) (front c.loop-done.done n c.args.bytes.now fits) (Appends-trans _ _ _ _ _ c.loop-done.invariant.1 c.in_ok-n.ensures.bytes),
    )
