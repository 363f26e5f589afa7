-- Closed tests: document 02's example, a size of 1 and 64 ranks; the edges of the writer's refusals.
use Rattle.std.specs.Prelude.{ℕ, ◌-◌, ◌^◌, Bool, ◌&&◌, List, [], ◌∷◌, ◌++◌, eqb, length, replicate}
use Rattle.tree.specs.Calls.{same}
use Rattle.pictures.specs.Pictures.{picture}
use Rattle.pictures.specs.Writing.{Outcome, writing}

-- Document 02's example: size 3 with rank 0 marked.
unfoldable pub three_without0 : List ℕ
three_without0 =
    -- digraph v3 {
    100 ∷ 105 ∷ 103 ∷ 114 ∷ 97 ∷ 112 ∷ 104 ∷ 32 ∷ 118 ∷ 51 ∷ 32 ∷ 123 ∷ 10 ∷
    -- 1 [shape=box];
    49 ∷ 32 ∷ 91 ∷ 115 ∷ 104 ∷ 97 ∷ 112 ∷ 101 ∷ 61 ∷ 98 ∷ 111 ∷ 120 ∷ 93 ∷ 59 ∷ 10 ∷
    -- 2;
    50 ∷ 59 ∷ 10 ∷
    -- 2 -> 1;
    50 ∷ 32 ∷ 45 ∷ 62 ∷ 32 ∷ 49 ∷ 59 ∷ 10 ∷
    -- }
    125 ∷ 10 ∷
    []

unfoldable pub one : List ℕ
one =
    -- digraph v1 {
    100 ∷ 105 ∷ 103 ∷ 114 ∷ 97 ∷ 112 ∷ 104 ∷ 32 ∷ 118 ∷ 49 ∷ 32 ∷ 123 ∷ 10 ∷
    -- 0 [shape=box];
    48 ∷ 32 ∷ 91 ∷ 115 ∷ 104 ∷ 97 ∷ 112 ∷ 101 ∷ 61 ∷ 98 ∷ 111 ∷ 120 ∷ 93 ∷ 59 ∷ 10 ∷
    -- }
    125 ∷ 10 ∷
    []

-- Ranks 9, 62 and 63 of 64.
unfoldable pub three_of64 : List ℕ
three_of64 =
    -- digraph v64 {
    100 ∷ 105 ∷ 103 ∷ 114 ∷ 97 ∷ 112 ∷ 104 ∷ 32 ∷ 118 ∷ 54 ∷ 52 ∷ 32 ∷ 123 ∷ 10 ∷
    -- 9 [shape=box];
    57 ∷ 32 ∷ 91 ∷ 115 ∷ 104 ∷ 97 ∷ 112 ∷ 101 ∷ 61 ∷ 98 ∷ 111 ∷ 120 ∷ 93 ∷ 59 ∷ 10 ∷
    -- 62;
    54 ∷ 50 ∷ 59 ∷ 10 ∷
    -- 63;
    54 ∷ 51 ∷ 59 ∷ 10 ∷
    -- 62 -> 9;
    54 ∷ 50 ∷ 32 ∷ 45 ∷ 62 ∷ 32 ∷ 57 ∷ 59 ∷ 10 ∷
    -- 63 -> 9;
    54 ∷ 51 ∷ 32 ∷ 45 ∷ 62 ∷ 32 ∷ 57 ∷ 59 ∷ 10 ∷
    -- }
    125 ∷ 10 ∷
    []

unfoldable pub all_but : ℕ
all_but = 2 ^ 64 - 1 - 2 ^ 9 - 2 ^ 62 - 2 ^ 63

-- A write answers this number and length and leaves this in the buffer.
unfoldable pub writes : Outcome → ℕ → ℕ → List ℕ → Bool
writes w number length text = eqb w.answer number && eqb w.length length && same w.text text

-- A buffer of so many bytes.
unfoldable pub buffer : ℕ → List ℕ
buffer room = replicate room 7

unfoldable pub cases : List Bool
cases =
    same (picture 3 1) three_without0
    ∷ same (picture 1 0) one
    ∷ same (picture 64 all_but) three_of64
    -- all 64 ranks
    ∷ eqb (length (picture 64 0)) 876
    -- refused with 1: size 0, where 2 and 30 apply as well; size 65, where 30 does
    ∷ writes (writing 0 1 (buffer 1)) 1 0 (buffer 1)
    ∷ writes (writing 65 0 (buffer 1)) 1 0 (buffer 1)
    -- with 2: marks outside the group; no rank left, of 3 and of 64; 30 applies as well
    ∷ writes (writing 3 8 (buffer 1)) 2 0 (buffer 1)
    ∷ writes (writing 3 7 (buffer 1)) 2 0 (buffer 1)
    ∷ writes (writing 64 (2 ^ 64 - 1) (buffer 1)) 2 0 (buffer 1)
    -- with 30: one byte too few. Accepted: none to spare; two to spare, which stay as found
    ∷ writes (writing 3 1 (buffer 40)) 30 0 (buffer 40)
    ∷ writes (writing 3 1 (buffer 41)) 0 41 three_without0
    ∷ writes (writing 3 1 (buffer 43)) 0 41 (three_without0 ++ (7 ∷ 7 ∷ []))
    ∷ []
