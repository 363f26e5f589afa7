-- `first_seats` meets its contract. The invariant: the records and the rows before i are fresh. Assumes nothing.
use Rattle.rank.proofs.Laws.Keeping.{fresh_row_kept}
use Rattle.state.proofs.Laws.Starting.{filled_start, ranks-put, rows_put, ranks_end, rows_end}
use Rattle.state.proofs.first_seats.Goals as goal

pub loop-i-init : goal.loop-i-init
loop-i-init c = record { records = rw c.requires.no_ranks (filled_start _ _ _ _); rows = rw c.requires.no_rows (filled_start _ _ _ _) }

pub fresh-requires : goal.fresh-requires
fresh-requires c = search fresh_row_kept

pub loop-i-preserved : goal.loop-i-preserved
loop-i-preserved c = record { records = search ranks-put; rows = search rows_put }

pub returns-clause-ranks_after : goal.returns-clause-ranks_after
returns-clause-ranks_after c = search ranks_end

pub returns-clause-tables_after : goal.returns-clause-tables_after
returns-clause-tables_after c = search rows_end
