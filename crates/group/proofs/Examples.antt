-- Document 01's examples hold, by computation: those of the tree again, and those of the group.
use mathlib.Core.Path.{◌≡◌, refl}
use mathlib.Core.Bool.{true}
use Rattle.sets.specs.Sets.{has, only, union, meet, minus, add, below, set_of, count, largest, smallest, listed, every, all}
use Rattle.tree.specs.Tree.{lineage, ancestors, half, flat, parent, children, row, entry, fresh, moves, sized, moved, upwards, path, links, reached}
use Rattle.tree.specs.Forms.{head_of, place_of, head_above, in_star, in_nest, above_in, tree_of}
use Rattle.tree.specs.Calls.{same, wrong_size}
use Rattle.calls.specs.Calls.{misshapen, wrong_view, mark_refused, marked, climbing, climbed}
use Rattle.calls.specs.Examples.{parents8, tallies, gives, tells, after1, after0, after01, after012, again}
use Rattle.calls.specs.Examples as Tree
use Rattle.rank.specs.Triples.{fresh_triple, combine, closing}
use Rattle.rank.specs.Records.{becoming, combining, concluding, proposal, parent_of, children_of, awaiting, fresh_rank}
use Rattle.rank.specs.Sends.{silent, reports, tells as tellsAll, letter, letters}
use Rattle.rank.specs.Rules.{in_phase, saying, deciding, settled, settling, entering}
use Rattle.net.specs.Net.{padded, without}
use Rattle.refusals.specs.Refusing.{wrong_kind, wrong_rank, no_message, is_dead, not_outside, is_living, is_last, both_live, late_refusal, refusal}
use Rattle.state.specs.Starting.{first_rank, first_row, fresh_state, empty_state, started}
use Rattle.order.specs.Order.{proper, triple_within, is_zero, clauses, rank_in_order, is_within, member_in_order, zero_record, stranger_in_order, seat_in_order, seat_in_order_at, message_in_order, zero_place, place_in_order, place_in_order_at, in_order}
use Rattle.plans.specs.Plans.{subject, acting, refusing, accepting, afterwards, fitting, planned}
use Rattle.group.specs.Events.{posted, applied, carried, subject_of, plan_of, stepped, event}
use Rattle.group.specs.Examples.{answers, alone, examples}

pub examples_hold : all examples ≡ true
unfolding all examples answers alone Tree.examples parents8 tallies gives tells after1 after0 after01 after012 again same wrong_size misshapen wrong_view mark_refused marked climbing climbed lineage ancestors half flat head_of place_of head_above in_star in_nest above_in tree_of parent children row entry fresh moves sized moved upwards path links reached has only union meet minus add below set_of count largest smallest listed every fresh_triple combine closing becoming combining concluding proposal parent_of children_of awaiting fresh_rank silent reports tellsAll letter letters in_phase saying deciding settled settling entering proper triple_within is_zero clauses rank_in_order padded without wrong_kind wrong_rank no_message is_dead not_outside is_living is_last both_live late_refusal refusal subject acting refusing accepting afterwards fitting planned posted applied carried subject_of plan_of stepped is_within member_in_order zero_record stranger_in_order seat_in_order seat_in_order_at message_in_order zero_place place_in_order place_in_order_at in_order event first_rank first_row fresh_state empty_state started
examples_hold = refl
