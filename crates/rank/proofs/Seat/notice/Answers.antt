-- `Seat::notice` meets its contract: mark q, see what the death means, settle. Assumes nothing.
use mathlib.Core.Path.{sym, ◌∙◌}
use Rattle.tree.proofs.Laws.Mending.{mended-fresh, mended-marks, mended-moved, mended-unmarked, mended_stays}
use Rattle.rank.specs.Rules.{noticing, saying}
use Rattle.rank.proofs.Laws.Acting.{seen_seat, seen_awaits, mourned, bereaved_seat, bereaved_awaits}
use Rattle.rank.proofs.Seat.notice.Goals as goal

pub view-self-requires-clause-table_value : goal.view-self-requires-clause-table_value
view-self-requires-clause-table_value c = search mended-fresh

pub view-self-requires-clause-marks_stay : goal.view-self-requires-clause-marks_stay
view-self-requires-clause-marks_stay c = search mended-unmarked

pub view-self-requires-clause-parents_stay : goal.view-self-requires-clause-parents_stay
view-self-requires-clause-parents_stay c = search mended_stays

pub invariant_of-self : goal.invariant_of-self
invariant_of-self c = search (seen_seat, mended-fresh)

pub invariant_of-self-2 : goal.invariant_of-self-2
invariant_of-self-2 c =
    let said = mourned c.args.self _ _ _ _ _ _ _ c.requires.q_lt_n c.waits_for-parent_died.ensures c.lost_child-child_died.ensures c.mended-m.ensures c.gained-gained.ensures c.view-self.ensures c.mourn-said.ensures in
    search bereaved_seat

pub acted-requires : goal.acted-requires
acted-requires c =
    let said = mourned c.args.self _ _ _ _ _ _ _ c.requires.q_lt_n c.waits_for-parent_died.ensures c.lost_child-child_died.ensures c.mended-m.ensures c.gained-gained.ensures c.view-self.ensures c.mourn-said.ensures in
    search (bereaved_awaits, seen_awaits)

pub returns : goal.returns
unfolding noticing saying
returns c =
    let said = mourned c.args.self _ _ _ _ _ _ _ c.requires.q_lt_n c.waits_for-parent_died.ensures c.lost_child-child_died.ensures c.mended-m.ensures c.gained-gained.ensures c.view-self.ensures c.mourn-said.ensures in
    rw (c.acted.ensures, said, c.view-self.ensures, mended-marks _ _ _ _ _ c.mended-m.ensures, mended-moved _ _ _ _ _ c.mended-m.ensures, sym c.member.ensures ∙ c.if-member.false)
