-- Closed tests: how events are spelt out, and document 01's example.
use Rattle.std.specs.Prelude.{ℕ, List, [], ◌∷◌}
use Rattle.files.specs.Cases.{file}

-- An event of small numbers, in front of what follows it.
unfoldable pub then : ℕ → ℕ → ℕ → List ℕ → List ℕ
then kind a b rest = kind ∷ a ∷ 0 ∷ 0 ∷ 0 ∷ b ∷ 0 ∷ 0 ∷ 0 ∷ rest

-- Document 01's example.
unfoldable pub three : List ℕ
three =
    file 3
    (then 1 2 7
    (then 1 1 6
    (then 1 0 5
    (then 2 0 0
    (then 2 0 0
    (then 3 0 0
    (then 4 1 0
    (then 2 0 0
    (then 2 0 0
    (then 2 0 0
    (then 2 0 0
    (then 4 2 1
    []))))))))))))
