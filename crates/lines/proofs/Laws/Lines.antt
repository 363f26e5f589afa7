-- What a line depends on, how long it may be, and a verdict along its code. Assumes nothing.
use mathlib.Core.Path.{◌≡◌, subst}
use mathlib.Core.Bool.{Bool, true, false, cond}
use mathlib.Core.List.{List, [], ◌∷◌, ◌++◌}
use Prim.Native.Nat.{ℕ, ◌+◌, ◌*◌, ◌≤◌}
use native.Mathlib.Omega.{arith}
use lib.Dec.{eqb}
use lib.ListN.{length, get_or, length-append}
use borrow.Author.Tests.{eq-eqb, ne_eqb}
use Rattle.rank.specs.declared.Rank.{Rank}
use Rattle.rank.specs.Words.{decided}
use Rattle.rank.specs.Triples.{code}
use Rattle.text.specs.Text.{decimal, field}
use Rattle.text.specs.Pages.{Puts}
use Rattle.text.specs.declared.Page.{Page}
use Rattle.text.proofs.Laws.Digits.{length-decimal, length-field}
use Rattle.lines.specs.Lines.{first_line, event_line, living, verdict_field, rank_line, last_line, refused_line}

-- ---- event lines and rank lines

pub length-event : (answers : List ℕ) (k : ℕ) → length (event_line answers k) ≤ 44
unfolding event_line
length-event answers k =
    let a = get_or answers (3 * k) 0 in
    let b = get_or answers (3 * k + 1) 0 in
    let c = get_or answers (3 * k + 2) 0 in
    omega (
      arith,
      length-append (decimal k) (field a ++ (field b ++ (field c ++ (10 ∷ [])))),
      length-append (field a) (field b ++ (field c ++ (10 ∷ []))),
      length-append (field b) (field c ++ (10 ∷ [])),
      length-append (field c) (10 ∷ []),
      length-decimal k,
      length-field a,
      length-field b,
      length-field c,
    )

-- a line is a matter of its event's three numbers
pub event-same : (a b : List ℕ) (k : ℕ) → get_or a (3 * k) 0 ≡ get_or b (3 * k) 0 → get_or a (3 * k + 1) 0 ≡ get_or b (3 * k + 1) 0 → get_or a (3 * k + 2) 0 ≡ get_or b (3 * k + 2) 0
    → event_line a k ≡ event_line b k
unfolding event_line
event-same a b k x y z = rw (x, y, z)

pub length-verdict : (phase number : ℕ) → length (verdict_field phase number) ≤ 11
unfolding verdict_field
length-verdict phase number = go (eqb phase decided)
  where
    go : (b : Bool) → length (cond b (field number) (32 ∷ 45 ∷ [])) ≤ 11
    go true = length-field number
    go false = omega arith

pub verdict-decided : (p q : Page) (phase number : ℕ) → phase ≡ decided → Puts p (field number) q → Puts p (verdict_field phase number) q
unfolding verdict_field
verdict-decided p q phase number e h = rw (eq-eqb phase decided e) h

pub verdict_dash : (p q : Page) (phase number : ℕ) → (phase ≡ decided → ⊥) → Puts p (32 ∷ 45 ∷ []) q → Puts p (verdict_field phase number) q
unfolding verdict_field
verdict_dash p q phase number d h = rw (ne_eqb phase decided d) h

pub verdict_of : {p q : Page} {x y : ℕ} (phase : ℕ) → x ≡ y → Puts p (verdict_field phase x) q → Puts p (verdict_field phase y) q
verdict_of {p} {q} phase e h = subst (λ (z : ℕ). Puts p (verdict_field phase z) q) e h

pub length-rank : (dead i : ℕ) (r : Rank) → length (rank_line dead i r) ≤ 57
unfolding rank_line
length-rank dead i r =
    let a = living dead i in
    let d = verdict_field r.phase r.result.word in
    let e = verdict_field r.phase (code r.result) in
    omega (
      arith,
      length-append (field i) (field a ++ (field r.phase ++ (d ++ (e ++ (10 ∷ []))))),
      length-append (field a) (field r.phase ++ (d ++ (e ++ (10 ∷ [])))),
      length-append (field r.phase) (d ++ (e ++ (10 ∷ []))),
      length-append d (e ++ (10 ∷ [])),
      length-append e (10 ∷ []),
      length-field i,
      length-field a,
      length-field r.phase,
      length-verdict r.phase r.result.word,
      length-verdict r.phase (code r.result),
    )

-- ---- the room that a listing takes

pub length-first : (n events : ℕ) → length (first_line n events) ≤ 37
unfolding first_line
length-first n events =
    omega (
      arith,
      length-append (field 1) (field n ++ (field events ++ (10 ∷ []))),
      length-append (field n) (field events ++ (10 ∷ [])),
      length-append (field events) (10 ∷ []),
      length-field 1,
      length-field n,
      length-field events,
    )

pub length_last : (count : ℕ) → length (last_line count) ≤ 13
unfolding last_line
length_last count = omega (arith, length-append (field count) (10 ∷ []), length-field count)

pub length-refused : (number : ℕ) → length (refused_line number) ≤ 19
unfolding refused_line
length-refused number = omega (arith, length-append (field number) (10 ∷ []), length-field number)
