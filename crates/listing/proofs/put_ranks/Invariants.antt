-- The lines that `put_ranks` puts.
use Rattle.listing.proofs.Laws.Lines.{ranks_lines}
use Rattle.listing.proofs.put_ranks.Given as goal

abbrev pub ghost-put_lines : goal.ghost-put_lines
ghost-put_lines a = ranks_lines a.line.0.now.dead a.line.0.now.ranks
