-- `Seat::ask` meets its contract: mark all below q, answer, settle. Assumes nothing.
use Rattle.tree.proofs.Laws.Mending.{below-fresh, below-marks, below-moved, below-unmarked, below_stays}
use Rattle.rank.specs.Rules.{taking_ask, saying}
use Rattle.rank.proofs.Laws.Acting.{seen_seat, seen_awaits, asked_seat, asked_awaits}
use Rattle.rank.proofs.Seat.ask.Goals as goal

pub view-self-requires-clause-table_value : goal.view-self-requires-clause-table_value
view-self-requires-clause-table_value c = search below-fresh

pub view-self-requires-clause-marks_stay : goal.view-self-requires-clause-marks_stay
view-self-requires-clause-marks_stay c = search below-unmarked

pub view-self-requires-clause-parents_stay : goal.view-self-requires-clause-parents_stay
view-self-requires-clause-parents_stay c = search below_stays

pub invariant_of-self : goal.invariant_of-self
invariant_of-self c = search (seen_seat, below-fresh)

pub invariant_of-self-2 : goal.invariant_of-self-2
invariant_of-self-2 c = search asked_seat

pub acted-requires : goal.acted-requires
acted-requires c = search (asked_awaits, seen_awaits)

pub returns : goal.returns
unfolding taking_ask saying
returns c = rw (c.acted.ensures, c.answer-reply.ensures, c.view-self.ensures, below-marks _ _ _ _ _ c.mended_below-m.ensures, below-moved _ _ _ _ _ c.mended_below-m.ensures)
