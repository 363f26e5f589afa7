-- `first_seats` meets its contract. The invariant: the records and the rows before i are fresh. Assumes nothing.
use lib.ListN.{replicate}
use mathlib.Core.List.{[]}
use Rattle.sets.specs.Sets.{none}
use Rattle.tree.specs.Forms.{tree_of}
use Rattle.state.proofs.Laws.Starting.{Filled}
use Rattle.state.specs.Starting.{first_rank, first_row}
use Rattle.state.specs.States.{zero_rank}
use Rattle.state.proofs.first_seats.Given as goal

abbrev pub invariant-loop-i : goal.invariant-loop-i
invariant-loop-i l = record {
  records : Filled zero_rank (first_rank (tree_of l.form l.span) l.n) zero_rank l.n l.i l.ranks;
  rows : Filled [] (first_row (tree_of l.form l.span) l.n) (replicate 64 none) l.n l.i l.tables;
}
