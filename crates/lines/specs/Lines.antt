-- The lines of a listing, as bytes: numbers are decimal without leading zeros, fields one space apart, and each line ends in one line feed.
use Rattle.std.specs.Prelude.{ℕ, ◌+◌, ◌*◌, cond, List, [], ◌∷◌, ◌++◌, eqb, get_or}
use Rattle.sets.specs.Sets.{has}
use Rattle.rank.specs.declared.Rank.{Rank}
use Rattle.rank.specs.Words.{decided}
use Rattle.rank.specs.Triples.{code}
use Rattle.text.specs.Text.{decimal, field, feed}

-- First line, after the letters agr: version, n, events.
unfoldable pub first_line : ℕ → ℕ → List ℕ
first_line n events = (97 ∷ 103 ∷ 114 ∷ []) ++ (field 1 ++ (field n ++ (field events ++ feed)))

-- Event lines: place, answer, sent, moved.
unfoldable pub event_line : List ℕ → ℕ → List ℕ
event_line answers k =
    decimal k ++ (field (get_or answers (3 * k) 0) ++ (field (get_or answers (3 * k + 1) 0) ++ (field (get_or answers (3 * k + 2) 0) ++ feed)))

-- 1 if living.
unfoldable pub living : ℕ → ℕ → ℕ
living dead i = cond (has dead i) 0 1

-- A number of the verdict, with `-` unless decided.
unfoldable pub verdict_field : ℕ → ℕ → List ℕ
verdict_field phase number = cond (eqb phase decided) (field number) (32 ∷ 45 ∷ [])

-- Rank lines, after the letter r: rank, 1 if living, phase, result, and the code as a fifth number.
unfoldable pub rank_line : ℕ → ℕ → Rank → List ℕ
rank_line dead i r =
    (114 ∷ []) ++ (field i ++ (field (living dead i) ++ (field r.phase ++ (verdict_field r.phase r.result.word ++ (verdict_field r.phase (code r.result) ++ feed)))))

-- Last, after the letter m: messages in flight.
unfoldable pub last_line : ℕ → List ℕ
last_line count = (109 ∷ []) ++ (field count ++ feed)

-- The only line of a refused run: the letters refused, and the number.
unfoldable pub refused_line : ℕ → List ℕ
refused_line number = (114 ∷ 101 ∷ 102 ∷ 117 ∷ 115 ∷ 101 ∷ 100 ∷ []) ++ (field number ++ feed)
