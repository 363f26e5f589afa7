-- The pictures that `put_ranks` puts.
use Rattle.drawing.proofs.Laws.Drawing.{pictures_of}
use Rattle.drawing.proofs.put_ranks.Given as goal

abbrev pub ghost-put_lines : goal.ghost-put_lines
ghost-put_lines a = pictures_of a.line.0.now
