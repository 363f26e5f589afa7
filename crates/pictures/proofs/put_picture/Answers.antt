-- `put_picture` meets its contract: the first line, the nodes, the edges and the last line. Assumes nothing.
use native.Mathlib.Omega.{arith}
use Rattle.text.proofs.Laws.Writing.{puts_then}
use Rattle.pictures.specs.Pictures.{picture}
use Rattle.pictures.proofs.Laws.Room.{room_nodes, room_edges, room_end}
use Rattle.pictures.proofs.put_picture.Goals as goal

pub put_nodes-requires-clause-page_in_bounds : goal.put_nodes-requires-clause-page_in_bounds
put_nodes-requires-clause-page_in_bounds c = omega (arith, room_nodes _ c.requires.page_in_bounds c.put_opening.ensures)

pub put_edges-requires-clause-page_in_bounds : goal.put_edges-requires-clause-page_in_bounds
put_edges-requires-clause-page_in_bounds c = omega (arith, room_edges _ _ c.requires.n_bound (room_nodes _ c.requires.page_in_bounds c.put_opening.ensures) c.put_nodes.ensures)

pub put_letters-requires : goal.put_letters-requires
put_letters-requires c = room_end _ _ c.requires.n_bound (room_edges _ _ c.requires.n_bound (room_nodes _ c.requires.page_in_bounds c.put_opening.ensures) c.put_nodes.ensures) c.put_edges.ensures

pub returns : goal.returns
unfolding picture
returns c = puts_then c.put_opening.ensures (puts_then c.put_nodes.ensures (puts_then c.put_edges.ensures c.put_letters.ensures))
