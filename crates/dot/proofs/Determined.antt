-- A public contract leaves nothing open: two replies to the same call that meet it are the same, and so is the page at exit.
-- Assumes nothing.
use mathlib.Core.Path.{◌≡◌, refl}
use contract.Lifetimes.{Lfts}
use Rattle.text.proofs.Laws.Writing.{puts_alike}
use Rattle.dot.proofs.put_opening.Reads as put_opening
use Rattle.dot.proofs.put_node_line.Reads as put_node_line
use Rattle.dot.proofs.put_edge_line.Reads as put_edge_line

pub put_opening_determined : (κs : Lfts 2) (a : _) (t u : _) (x y : _) → put_opening.Post κs a t x → put_opening.Post κs a u y → (t ≡ u) × (x.0.now ≡ y.0.now)
put_opening_determined κs a t u x y e f = (refl, puts_alike e f)

pub put_node_line_determined : (κs : Lfts 2) (a : _) (t u : _) (x y : _) → put_node_line.Post κs a t x → put_node_line.Post κs a u y → (t ≡ u) × (x.0.now ≡ y.0.now)
put_node_line_determined κs a t u x y e f = (refl, puts_alike e f)

pub put_edge_line_determined : (κs : Lfts 2) (a : _) (t u : _) (x y : _) → put_edge_line.Post κs a t x → put_edge_line.Post κs a u y → (t ≡ u) × (x.0.now ≡ y.0.now)
put_edge_line_determined κs a t u x y e f = (refl, puts_alike e f)
