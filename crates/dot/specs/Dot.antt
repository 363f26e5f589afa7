-- The lines of a picture, as bytes; document 02, 2026-03. Each is closed by one line feed, and the tree is the flat one.
use Rattle.std.specs.Prelude.{ℕ, cond, ◌||◌, List, [], ◌∷◌, ◌++◌, eqb}
use Rattle.sets.specs.Sets.{none, has}
use Rattle.tree.specs.Tree.{flat, parent}
use Rattle.text.specs.Text.{decimal, feed}

-- A digraph named v and the group size: `digraph v3 {`.
unfoldable pub opening_line : ℕ → List ℕ
opening_line n = (100 ∷ 105 ∷ 103 ∷ 114 ∷ 97 ∷ 112 ∷ 104 ∷ 32 ∷ 118 ∷ []) ++ (decimal n ++ ((32 ∷ 123 ∷ []) ++ feed))

-- The root, the unmarked rank without a parent, is marked by a box shape: ` [shape=box]`.
unfoldable pub shape : ℕ → ℕ → List ℕ
shape marks p =
    cond (eqb (parent flat marks p) none) (32 ∷ 91 ∷ 115 ∷ 104 ∷ 97 ∷ 112 ∷ 101 ∷ 61 ∷ 98 ∷ 111 ∷ 120 ∷ 93 ∷ []) []

-- One line for each unmarked rank: `2;`.
unfoldable pub node_line : ℕ → ℕ → List ℕ
node_line marks p = cond (has marks p) [] (decimal p ++ (shape marks p ++ (59 ∷ feed)))

-- An edge from a rank to its parent: `2 -> 1;`.
unfoldable pub edge : ℕ → ℕ → List ℕ
edge p up = decimal p ++ ((32 ∷ 45 ∷ 62 ∷ 32 ∷ []) ++ (decimal up ++ (59 ∷ feed)))

-- One edge line for each unmarked rank with a parent.
unfoldable pub edge_line : ℕ → ℕ → List ℕ
edge_line marks p = cond (has marks p || eqb (parent flat marks p) none) [] (edge p (parent flat marks p))
