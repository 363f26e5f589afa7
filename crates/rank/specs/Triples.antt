-- What ranks vote on: a word, a set of known dead, and an acknowledged set.
use Rattle.std.specs.Prelude.{ℕ, cond, eqb}
use Rattle.std.specs.Int.Bits.{bit_and}
use Rattle.sets.specs.Sets.{union, meet, minus, below}
use Rattle.rank.specs.declared.Triple.{Triple}

-- All 32 bits set.
abbrev pub all_bits : ℕ
all_bits = 0xffff_ffff

-- A fresh record's triple is all bits, no ranks, all ranks of the group.
unfoldable pub fresh_triple : ℕ → Triple
fresh_triple n = record { word = all_bits; known = 0; acknowledged = below n }

-- All 0: what an ASK carries, and the result of a rank that has not decided.
abbrev pub zero_triple : Triple
zero_triple = record { word = 0; known = 0; acknowledged = 0 }

-- Two triples become one by AND, OR and AND.
unfoldable pub combine : Triple → Triple → Triple
combine a b = record { word = bit_and a.word b.word; known = union a.known b.known; acknowledged = meet a.acknowledged b.acknowledged }

-- A triple with a root's marks ORed into its known dead.
unfoldable pub closing : ℕ → Triple → Triple
closing marks t = record { word = t.word; known = union t.known marks; acknowledged = t.acknowledged }

-- The code of a verdict: 1 if a known death is missing from the common acknowledged set, else 0.
unfoldable pub code : Triple → ℕ
code t = cond (eqb (minus t.known t.acknowledged) 0) 0 1
