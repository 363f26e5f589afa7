-- Numbers and letters in a lent buffer, as bytes.
use Rattle.std.specs.Prelude.{◌≡◌, ℕ, ◌+◌, zero, suc, ◌/◌, ◌%◌, List, [], ◌∷◌, ◌++◌, length, set, cond, ltb}

-- The buffer with these bytes from place `at` on; every other place stays as found.
unfoldable pub pasted : List ℕ → ℕ → List ℕ → List ℕ
pasted text at [] = text
pasted text at (b ∷ bytes) = pasted (set text at b) (at + 1) bytes

-- The bytes stand from `at` on, and `next` is the place after the last.
pub record Wrote (text : List ℕ) (at : ℕ) (bytes after : List ℕ) (next : ℕ) : Type 0 where
  pub text_is : after ≡ pasted text at bytes
  pub next_is : next ≡ at + length bytes

-- The digits of a number that has at most `places` of them: the last is its remainder by ten, the others are those of a tenth.
unfoldable pub digits_of : ℕ → ℕ → List ℕ
digits_of zero x = []
digits_of (suc places) x = cond (ltb x 10) ((48 + x) ∷ []) (digits_of places (x / 10) ++ ((48 + x % 10) ∷ []))

-- A number of 32 bits has at most ten.
unfoldable pub decimal : ℕ → List ℕ
decimal x = digits_of 10 x

-- One space, and the number.
unfoldable pub field : ℕ → List ℕ
field x = 32 ∷ decimal x

-- The line feed.
abbrev pub feed : List ℕ
feed = 10 ∷ []

-- The lines of the places below k, ascending.
unfoldable pub lines : (ℕ → List ℕ) → ℕ → List ℕ
lines f zero = []
lines f (suc k) = lines f k ++ f k
