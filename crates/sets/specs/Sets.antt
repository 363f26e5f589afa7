-- Sets of ranks. A set is a word, one bit a rank: rank k is a member where bit k is set.
-- What is said of ranks by a test f, below a bound n, is said once here, for any n; a word's own test is `has w`.
use Rattle.std.specs.Prelude.{ℕ, zero, suc, ◌-◌, ◌/◌, ◌%◌, ◌^◌, Bool, true, false, cond, ◌&&◌, ◌||◌, List, [], ◌∷◌, ◌++◌, Option, None, Some, eqb}
use Rattle.std.specs.Int.Bits.{bit_and, bit_or, bit_xor}

-- No rank.
abbrev pub none : ℕ
none = 255

-- The rank of a search that ends with none where it finds nobody.
abbrev pub found : ℕ → Option ℕ
found k = cond (eqb k none) None (Some k)

-- Rank k is a member of the set w.
unfoldable pub has : ℕ → ℕ → Bool
has w k = eqb (w / 2 ^ k % 2) 1

-- The set of p alone.
unfoldable pub only : ℕ → ℕ
only p = 2 ^ p

-- The members of either set.
unfoldable pub union : ℕ → ℕ → ℕ
union a b = bit_or a b

-- The members of both sets.
unfoldable pub meet : ℕ → ℕ → ℕ
meet a b = bit_and a b

-- The members of a that are not in b.
unfoldable pub minus : ℕ → ℕ → ℕ
minus a b = bit_xor a (bit_and a b)

-- The set w with p added.
unfoldable pub add : ℕ → ℕ → ℕ
add w p = union w (only p)

-- The ranks below p.
unfoldable pub below : ℕ → ℕ
below p = 2 ^ p - 1

-- The set of the ranks below n that pass f.
unfoldable pub set_of : (ℕ → Bool) → ℕ → ℕ
set_of f zero = 0
set_of f (suc n) = cond (f n) (add (set_of f n) n) (set_of f n)

-- How many ranks below n pass f.
unfoldable pub count : (ℕ → Bool) → ℕ → ℕ
count f zero = 0
count f (suc n) = cond (f n) (suc (count f n)) (count f n)

-- The largest rank below n that passes f, or d where there is none.
unfoldable pub largest : (ℕ → Bool) → ℕ → ℕ → ℕ
largest f zero d = d
largest f (suc n) d = cond (f n) n (largest f n d)

-- The smallest rank below n that passes f, or d where there is none.
unfoldable pub smallest : (ℕ → Bool) → ℕ → ℕ → ℕ
smallest f zero d = d
smallest f (suc n) d = smallest f n (cond (f n) n d)

-- The ranks below n that pass f, ascending.
unfoldable pub listed : (ℕ → Bool) → ℕ → List ℕ
listed f zero = []
listed f (suc n) = listed f n ++ cond (f n) (n ∷ []) []

-- Every rank below n passes f.
unfoldable pub every : (ℕ → Bool) → ℕ → Bool
every f zero = true
every f (suc n) = every f n && f n

-- Some rank below n passes f.
unfoldable pub some : (ℕ → Bool) → ℕ → Bool
some f zero = false
some f (suc n) = some f n || f n

-- Every test of the list passes.
unfoldable pub all : List Bool → Bool
all [] = true
all (b ∷ bs) = b && all bs
