-- Document 02, 2026-03: a view as a DOT digraph, as bytes.
use Rattle.std.specs.Prelude.{ℕ, List, ◌∷◌, ◌++◌}
use Rattle.text.specs.Text.{feed, lines}
use Rattle.dot.specs.Dot.{opening_line, node_line, edge_line}

-- The lines of the unmarked ranks in ascending order, then the edge lines in ascending order, then `}`.
unfoldable pub picture : ℕ → ℕ → List ℕ
picture n marks = opening_line n ++ (lines (node_line marks) n ++ (lines (edge_line marks) n ++ (125 ∷ feed)))

-- What its caller lends between layers: 22 bytes, 26 a line and 2.
abbrev pub picture_room : ℕ
picture_room = 3352
