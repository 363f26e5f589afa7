-- The laws of `combine`: which triples come first does not matter, nor that one comes twice. Who is in a
-- triple's sets, and what its code says. Assumes nothing.
use mathlib.Core.Path.{◌≡◌, refl, sym, ap, ◌∙◌}
use mathlib.Core.Bool.{true, false, ◌&&◌, ◌||◌}
use mathlib.Core.Logic.{⊎_elim}
use Prim.Native.Nat.{ℕ, ◌≤◌, ◌<◌}
use native.Mathlib.Omega.{arith}
use lib.Bits.{and_comm, and_self}
use borrow.Author.Tests.{eq-eqb, ne_eqb}
use Rattle.sets.specs.Sets.{has, minus, below, smallest}
use Rattle.sets.proofs.Laws.Bools.{clash, lt-or-le, or_cases, and_l}
use Rattle.sets.proofs.Laws.Members.{has-zero, has-union, has_meet, has-below-lt, has_below_ge, minus_i, minus_l, minus_r, none_in, bits_assoc, union_comm, union_self, union_assoc, meet_comm, meet_self, meet_assoc}
use Rattle.sets.proofs.Laws.Searches.{LeastOf, least, smallest-cases}
use Rattle.rank.specs.declared.Triple.{Triple}
use Rattle.rank.specs.declared.Rank.{Rank}
use Rattle.rank.specs.Triples.{fresh_triple, zero_triple, combine, closing, code}
use Rattle.rank.specs.Records.{proposal}
use Rattle.rank.proofs.Facts.{TripleWithin, ToSettle}

-- ---- which comes first, and what comes twice

pub combine_comm : (a b : Triple) → combine a b ≡ combine b a
unfolding combine
combine_comm a b = rw (and_comm a.word b.word, union_comm a.known b.known, meet_comm a.acknowledged b.acknowledged)

pub combine_self : (a : Triple) → combine a a ≡ a
unfolding combine
combine_self a = rw (and_self a.word, union_self a.known, meet_self a.acknowledged)

pub combine_assoc : (a b c : Triple) → combine (combine a b) c ≡ combine a (combine b c)
unfolding combine
combine_assoc a b c = rw (bits_assoc a.word b.word c.word, union_assoc a.known b.known c.known, meet_assoc a.acknowledged b.acknowledged c.acknowledged)

-- a triple that is in already changes nothing
pub combine-again : (a b : Triple) → combine (combine a b) b ≡ combine a b
combine-again a b = combine_assoc a b b ∙ ap (combine a) (combine_self b)

-- one triple more: its place does not matter, and it may join either side or both
pub combine_swap : (a b c : Triple) → combine (combine a b) c ≡ combine (combine a c) b
combine_swap a b c = combine_assoc a b c ∙ ap (combine a) (combine_comm b c) ∙ sym (combine_assoc a c b)

pub combine_twice : (a b c : Triple) → combine (combine a b) c ≡ combine (combine a c) (combine b c)
combine_twice a b c = combine_assoc a b c ∙ ap (combine a) (sym (combine_comm c (combine b c) ∙ combine-again b c)) ∙ sym (combine_assoc a c (combine b c))

-- ---- its sets lie within the group

pub zero_within : (n : ℕ) → TripleWithin n zero_triple
zero_within n = record { known_in = λ k h. absurd (clash (has 0 k) h (has-zero k)); acknowledged_in = λ k h. absurd (clash (has 0 k) h (has-zero k)) }

pub fresh_within : (n : ℕ) → TripleWithin n (fresh_triple n)
unfolding fresh_triple
fresh_within n = record { known_in = λ k h. absurd (clash (has 0 k) h (has-zero k)); acknowledged_in = λ k h. ⊎_elim (λ (l : k < n). l) (λ (l : n ≤ k). absurd (clash (has (below n) k) h (has_below_ge n k l))) (lt-or-le k n) }

pub combine_within : (n : ℕ) (a b : Triple) → TripleWithin n a → TripleWithin n b → TripleWithin n (combine a b)
unfolding combine
combine_within n a b x y = record {
  known_in = λ k h. ⊎_elim (x.known_in k) (y.known_in k) (or_cases (has a.known k) (has b.known k) (sym (has-union a.known b.known k) ∙ h));
  acknowledged_in = λ k h. x.acknowledged_in k (and_l (has a.acknowledged k) (has b.acknowledged k) (sym (has_meet a.acknowledged b.acknowledged k) ∙ h));
}

pub closing_within : (n marks : ℕ) (t : Triple) → TripleWithin n t → ((k : ℕ) → has marks k ≡ true → k < n) → TripleWithin n (closing marks t)
unfolding closing
closing_within n marks t x m = record {
  known_in = λ k h. ⊎_elim (x.known_in k) (m k) (or_cases (has t.known k) (has marks k) (sym (has-union t.known marks k) ∙ h));
  acknowledged_in = x.acknowledged_in;
}

pub proposal_within : (anc : ℕ → ℕ) (n me w : ℕ) (r : Rank) → ToSettle anc n me r → TripleWithin n (proposal w r)
unfolding proposal
proposal_within anc n me w r f = record { known_in = f.marks_inside.inside; acknowledged_in = λ k h. f.marks_inside.inside k (f.acknowledged_marked k h) }

-- ---- its members

pub fresh-known : (n d : ℕ) → has (fresh_triple n).known d ≡ false
unfolding fresh_triple
fresh-known n d = has-zero d

pub fresh_acknowledged : (n d : ℕ) → d < n → has (fresh_triple n).acknowledged d ≡ true
unfolding fresh_triple
fresh_acknowledged n d l = has-below-lt n d l

pub combine-known : (a b : Triple) (d : ℕ) → has (combine a b).known d ≡ has a.known d || has b.known d
unfolding combine
combine-known a b d = has-union a.known b.known d

pub combine_acknowledged : (a b : Triple) (d : ℕ) → has (combine a b).acknowledged d ≡ has a.acknowledged d && has b.acknowledged d
unfolding combine
combine_acknowledged a b d = has_meet a.acknowledged b.acknowledged d

pub closing-known : (marks : ℕ) (t : Triple) (d : ℕ) → has (closing marks t).known d ≡ has t.known d || has marks d
unfolding closing
closing-known marks t d = has-union t.known marks d

pub closing_acknowledged : (marks : ℕ) (t : Triple) → (closing marks t).acknowledged ≡ t.acknowledged
unfolding closing
closing_acknowledged marks t = refl

-- ---- the code is 1 exactly if a known death is missing from the acknowledged set

abbrev pub Missing : Triple → ℕ → Type 0
Missing t d = (has t.known d ≡ true) × (has t.acknowledged d ≡ false)

pub missing-code : (t : Triple) (d : ℕ) → Missing t d → code t ≡ 1
unfolding code
missing-code t d m =
    let w : ℕ = minus t.known t.acknowledged in
    rw (ne_eqb w 0 (λ z. clash (has w d) (minus_i t.known t.acknowledged d m.0 m.1) (ap (λ (x : ℕ). has x d) z ∙ has-zero d)))

common-code : (t : Triple) → minus t.known t.acknowledged ≡ 0 → code t ≡ 0
unfolding code
common-code t z = rw (eq-eqb (minus t.known t.acknowledged) 0 z)

pub code_misses : (n : ℕ) (t : Triple) → TripleWithin n t → code t ≡ 1 → (d : ℕ) × Missing t d
code_misses n t h e = go (smallest (has w) n 0) (smallest-cases (has w) n 0)
  where
    w : ℕ
    w = minus t.known t.acknowledged

    go : (d : ℕ) → LeastOf (has w) n 0 d → (k : ℕ) × Missing t k
    go d (least s) = (d, (minus_l t.known t.acknowledged d s.passes, minus_r t.known t.acknowledged d s.passes))
    go d (LeastOf.empty f) =
        let z : w ≡ 0 = none_in w (λ k y. clash (has w k) y (f k (h.known_in k (minus_l t.known t.acknowledged k y)))) in
        let u : code t ≡ 0 = common-code t z in
        absurd (omega arith)
