-- `seat` meets its contract: n fresh ranks and rows, and all else is as in the empty state. Assumes nothing.
use Rattle.calls.proofs.Laws.Shapes.{view-le, view_boxed}
use Rattle.state.proofs.Laws.Starting.{empty_ranks, seated}
use Rattle.state.proofs.seat.Goals as goal

pub fresh-table-requires-clause-span_nonzero : goal.fresh-table-requires-clause-span_nonzero
fresh-table-requires-clause-span_nonzero c = search view_boxed

pub fresh-table-requires-clause-n_bound : goal.fresh-table-requires-clause-n_bound
fresh-table-requires-clause-n_bound c = search view-le

pub first_seats-requires-clause-n_bound : goal.first_seats-requires-clause-n_bound
first_seats-requires-clause-n_bound c = search view-le

pub first_seats-requires-clause-no_ranks : goal.first_seats-requires-clause-no_ranks
first_seats-requires-clause-no_ranks c = empty_ranks _ c.requires.empty

pub returns : goal.returns
returns c = seated _ _ _ _ _ _ _ c.requires.empty c.first_seats.ensures.ranks_after c.first_seats.ensures.tables_after
