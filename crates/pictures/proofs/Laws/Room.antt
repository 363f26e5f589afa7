-- The room that is left after each part of a picture. Assumes nothing.
use mathlib.Core.List.{[], ◌∷◌, ◌++◌}
use Prim.Native.Nat.{ℕ, ◌+◌, ◌*◌, ◌≤◌}
use native.Mathlib.Omega.{arith}
use lib.ListN.{length, length-append}
use Rattle.text.specs.Text.{lines}
use Rattle.text.specs.Pages.{Puts, HasRoom, Lines}
use Rattle.text.specs.declared.Page.{Page}
use Rattle.text.proofs.Laws.Writing.{room_after}
use Rattle.text.proofs.Laws.Lines.{length-lines}
use Rattle.dot.specs.Dot.{opening_line, node_line, edge_line}
use Rattle.dot.proofs.Laws.Lines.{length_opening, length_node, length-edge-line}
use Rattle.pictures.specs.Pictures.{picture, picture_room}

abbrev pub node_lines : ℕ → Lines
node_lines marks = record { line = node_line marks; most = 24; short = length_node marks }

abbrev pub edge_lines : ℕ → Lines
edge_lines marks = record { line = edge_line marks; most = 26; short = length-edge-line marks }

pub room_nodes : {p q : Page} (n : ℕ) → HasRoom p picture_room → Puts p (opening_line n) q → HasRoom q 3330
room_nodes n r h = room_after 22 3330 h (length_opening n) r

pub room_edges : {p q : Page} (n marks : ℕ) → n ≤ 64 → HasRoom p 3330 → Puts p (lines (node_line marks) n) q → HasRoom q 1666
room_edges n marks l r h = room_after 1664 1666 h (omega (arith, length-lines (node_line marks) 24 n (length_node marks))) r

pub room_end : {p q : Page} (n marks : ℕ) → n ≤ 64 → HasRoom p 1666 → Puts p (lines (edge_line marks) n) q → HasRoom q 2
room_end n marks l r h = room_after 1664 2 h (omega (arith, length-lines (edge_line marks) 26 n (length-edge-line marks))) r

-- whatever the size
pub length_any : (n marks : ℕ) → length (picture n marks) ≤ 24 + 50 * n
unfolding picture
length_any n marks =
    let nodes = lines (node_line marks) n in
    let links = lines (edge_line marks) n in
    omega (
      arith,
      length-append (opening_line n) (nodes ++ (links ++ (125 ∷ 10 ∷ []))),
      length-append nodes (links ++ (125 ∷ 10 ∷ [])),
      length-append links (125 ∷ 10 ∷ []),
      length_opening n,
      length-lines (node_line marks) 24 n (length_node marks),
      length-lines (edge_line marks) 26 n (length-edge-line marks),
    )

pub length-picture : (n marks : ℕ) → n ≤ 64 → length (picture n marks) ≤ picture_room
length-picture n marks l = omega (arith, length_any n marks)
