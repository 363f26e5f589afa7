-- A line of cases, byte by byte.
use Rattle.std.specs.Prelude.{ℕ, ◌+◌, ◌*◌, ◌%◌, ◌^◌, true, false, cond, ◌&&◌, eqb, leb, replicate, get_or, set}
use Rattle.reader.specs.declared.Reader.{Reader}

-- Before a line that keeps n numbers.
unfoldable pub blank : (n : ℕ) → Reader n
blank n = record { letter = 0; numbers = replicate n 0; count = 0; inside = false }

-- A number with one more digit, modulo 2^64.
unfoldable pub longer : ℕ → ℕ → ℕ
longer number b = (number * 10 + b % 16) % 2 ^ 64

-- After one more byte: a digit joins its number; any other byte ends a number, and the first is the letter.
unfoldable pub taken : (n : ℕ) → Reader n → ℕ → Reader n
taken n r b =
    cond (leb 48 b && leb b 57)
    (record { letter = r.letter; numbers = set r.numbers (r.count % n) (longer (get_or r.numbers (r.count % n) 0) b); count = r.count; inside = true })
    (record { letter = cond (eqb r.letter 0) b r.letter; numbers = r.numbers; count = cond r.inside ((r.count + 1) % 256) r.count; inside = false })
