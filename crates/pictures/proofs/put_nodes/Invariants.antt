-- The lines that `put_nodes` puts.
use Rattle.pictures.proofs.Laws.Room.{node_lines}
use Rattle.pictures.proofs.put_nodes.Given as goal

abbrev pub ghost-put_lines : goal.ghost-put_lines
ghost-put_lines a = node_lines a.line.0.now
