-- Closed tests: a file for each number that a header gets, each check beside the next, and the longest file.
use Rattle.std.specs.Prelude.{ℕ, Bool, List, [], ◌∷◌, eqb, replicate}
use Rattle.answers.specs.Answers.{answer_of}
use Rattle.files.specs.Files.{header}

-- A file of n ranks with these bytes after its first six.
unfoldable pub file : ℕ → List ℕ → List ℕ
file n rest = 65 ∷ 71 ∷ 82 ∷ 1 ∷ 0 ∷ n ∷ rest

unfoldable pub gets : List ℕ → ℕ → Bool
gets bytes number = eqb (answer_of (header bytes)) number

unfoldable pub cases : List Bool
cases =
    -- no bytes; five
    gets [] 20
    ∷ gets (66 ∷ 71 ∷ 82 ∷ 1 ∷ 0 ∷ []) 20
    -- the mark, before the version
    ∷ gets (66 ∷ 71 ∷ 82 ∷ 1 ∷ 0 ∷ 1 ∷ []) 21
    ∷ gets (65 ∷ 72 ∷ 82 ∷ 1 ∷ 0 ∷ 1 ∷ []) 21
    ∷ gets (65 ∷ 71 ∷ 83 ∷ 2 ∷ 0 ∷ 1 ∷ []) 21
    -- the version, of two bytes, before the size
    ∷ gets (65 ∷ 71 ∷ 82 ∷ 2 ∷ 0 ∷ 1 ∷ []) 22
    ∷ gets (65 ∷ 71 ∷ 82 ∷ 1 ∷ 1 ∷ 0 ∷ []) 22
    -- the size, before the length
    ∷ gets (file 0 []) 1
    ∷ gets (file 65 (replicate 36865 0)) 1
    -- too long, by a byte and by nine; never broken
    ∷ gets (file 1 (replicate 36865 0)) 24
    ∷ gets (file 1 (replicate 36873 0)) 24
    -- a broken last event
    ∷ gets (file 1 (0 ∷ [])) 23
    ∷ gets (file 64 (replicate 36863 0)) 23
    -- no event; the most
    ∷ gets (file 1 []) 0
    ∷ gets (file 64 (replicate 36864 0)) 0
    ∷ []
