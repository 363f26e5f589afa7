-- `sets::places` meets its contract: eight bytes, each of eight flags, are the digits of the set. Assumes nothing.
use Prim.Native.Nat.{◌+◌}
use native.Mathlib.Omega.{arith}
use Rattle.sets.proofs.Laws.Places.{standing, flagged_eight, eight_octets}
use Rattle.sets.proofs.places.Goals as goal

pub returns : goal.returns
returns c = let row = c.args.row in
    let q = c.args.q in
    let f = standing row q in
    let flags = c.flags-f.result in
    let flagged = c.flags-f.ensures in
    eight_octets f _ _ _ _ _ _ _ _
    (c.octet.ensures (λ j. f (0 + j)) (flagged_eight row q flags 0 flagged (omega arith)))
    (c.octet-2.ensures (λ j. f (8 + j)) (flagged_eight row q flags 1 flagged (omega arith)))
    (c.octet-3.ensures (λ j. f (16 + j)) (flagged_eight row q flags 2 flagged (omega arith)))
    (c.octet-4.ensures (λ j. f (24 + j)) (flagged_eight row q flags 3 flagged (omega arith)))
    (c.octet-5.ensures (λ j. f (32 + j)) (flagged_eight row q flags 4 flagged (omega arith)))
    (c.octet-6.ensures (λ j. f (40 + j)) (flagged_eight row q flags 5 flagged (omega arith)))
    (c.octet-7.ensures (λ j. f (48 + j)) (flagged_eight row q flags 6 flagged (omega arith)))
    (c.octet-8.ensures (λ j. f (56 + j)) (flagged_eight row q flags 7 flagged (omega arith)))
