-- Request 2026-09's examples hold, by computation. Assumes nothing.
use mathlib.Core.Path.{◌≡◌, refl}
use mathlib.Core.Bool.{true}
use Rattle.sets.specs.Sets.{has, only, union, meet, minus, add, below, set_of, count, largest, smallest, listed, every, all}
use Rattle.tree.specs.Calls.{mended, and_then, moved_below, mended_below, wrong_size, same}
use Rattle.calls.specs.Calls.{misshapen, wrong_view, mark_refused, marked, climbing, climbed}
use Rattle.calls.specs.Examples.{tallies, tells}
use Rattle.tree.specs.Tree.{lineage, ancestors, half, parent, children, row, entry, fresh, moves, sized, moved, upwards, path, links, reached}
use Rattle.tree.specs.Forms.{head_of, place_of, head_above, in_star, in_nest, above_in, tree_of}
use Rattle.rank.specs.Records.{becoming, combining, concluding, owing, admitting, proposal, parent_of, children_of, awaiting, fresh_rank, hearing, viewing}
use Rattle.rank.specs.Rules.{in_phase, saying, deciding, settled, done, settling, entering, noting, raised, taking_up, lowered, taking_down, asked, taking_ask, renewing, regathering, orphaned, inheriting, bereaved, noticing, acknowledging}
use Rattle.rank.specs.Sends.{silent, reports, tells as tellsAll, asks, letter, letters}
use Rattle.rank.specs.Triples.{fresh_triple, combine, closing, code}
use Rattle.net.specs.Net.{joining, padded, without}
use Rattle.refusals.specs.Refusing.{wrong_kind, wrong_rank, no_message, is_dead, not_outside, is_living, is_last, both_live, late_refusal, refusal}
use Rattle.state.specs.Starting.{first_rank, first_row, fresh_state, empty_state, started}
use Rattle.order.specs.Order.{proper, triple_within, is_zero, clauses, rank_in_order, is_within, member_in_order, zero_record, stranger_in_order, seat_in_order, seat_in_order_at, message_in_order, zero_place, place_in_order, place_in_order_at, in_order}
use Rattle.plans.specs.Plans.{subject, refusing, accepting, afterwards, fitting, delivered, acting, planned}
use Rattle.group.specs.Events.{posted, applied, carried, subject_of, plan_of, stepped, event}
use Rattle.group.specs.Examples.{answers}
use Rattle.group.specs.Cases.{parents, turns, star_view, nested_view, goes, begun, gathered, ended, starts, formed, refuses, form_examples}

pub form_examples_hold : all form_examples ≡ true
unfolding has only union meet minus add below set_of count largest smallest listed every all mended and_then moved_below mended_below wrong_size misshapen same wrong_view mark_refused marked climbing climbed lineage ancestors half head_of place_of head_above in_star in_nest above_in tree_of parent children row entry fresh moves sized moved upwards path links reached proper triple_within is_zero clauses rank_in_order becoming combining concluding owing admitting proposal parent_of children_of awaiting fresh_rank hearing viewing in_phase saying deciding settled done settling entering noting raised taking_up lowered taking_down asked taking_ask renewing regathering orphaned inheriting bereaved noticing acknowledging silent reports tellsAll asks letter letters fresh_triple combine closing code subject refusing accepting afterwards fitting delivered acting planned posted joining applied carried subject_of plan_of stepped padded without is_within member_in_order zero_record stranger_in_order seat_in_order seat_in_order_at message_in_order zero_place place_in_order place_in_order_at in_order event wrong_kind wrong_rank no_message is_dead not_outside is_living is_last both_live late_refusal refusal first_rank first_row fresh_state empty_state started answers tallies tells parents turns star_view nested_view goes begun gathered ended starts formed refuses form_examples
form_examples_hold = refl
