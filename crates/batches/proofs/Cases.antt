-- The closed tests of a batch hold, by computation.
use mathlib.Core.Path.{◌≡◌, refl}
use mathlib.Core.Bool.{true}
use Rattle.sets.specs.Sets.{has, only, union, meet, minus, add, below, set_of, count, largest, smallest, listed, every, all}
use Rattle.tree.specs.Calls.{mended, and_then, moved_below, mended_below, wrong_size, same}
use Rattle.calls.specs.Calls.{misshapen}
use Rattle.tree.specs.Tree.{lineage, ancestors, half, flat, parent, children, row, entry, fresh, moves, sized, moved}
use Rattle.rank.specs.Records.{becoming, combining, concluding, owing, admitting, proposal, parent_of, children_of, awaiting, fresh_rank, hearing, viewing}
use Rattle.rank.specs.Rules.{in_phase, saying, deciding, settled, done, settling, entering, noting, raised, taking_up, lowered, taking_down, asked, taking_ask, renewing, regathering, orphaned, inheriting, bereaved, noticing, acknowledging}
use Rattle.rank.specs.Sends.{silent, reports, tells, asks, letter, letters}
use Rattle.rank.specs.Triples.{fresh_triple, combine, closing, code}
use Rattle.net.specs.Net.{joining, padded, without}
use Rattle.refusals.specs.Refusing.{wrong_kind, wrong_rank, no_message, is_dead, not_outside, is_living, is_last, both_live, late_refusal, refusal}
use Rattle.state.specs.Starting.{first_rank, first_row, fresh_state, empty_state, started}
use Rattle.order.specs.Order.{proper, triple_within, is_zero, clauses, rank_in_order, is_within, member_in_order, zero_record, stranger_in_order, seat_in_order, seat_in_order_at, message_in_order, zero_place, place_in_order, place_in_order_at, in_order}
use Rattle.plans.specs.Plans.{subject, refusing, accepting, afterwards, fitting, delivered, acting, planned}
use Rattle.group.specs.Events.{posted, applied, carried, subject_of, plan_of, stepped, event}
use Rattle.playing.specs.Playing.{written, event_in, told, played}
use Rattle.batches.specs.Batches.{refused_batch, batch}
use Rattle.batches.specs.Cases.{leaves, three, miscounted, example, cases}

pub cases_hold : all cases ≡ true
unfolding has only union meet minus add below set_of count largest smallest listed every all mended and_then moved_below mended_below wrong_size misshapen same lineage ancestors half flat parent children row entry fresh moves sized moved proper triple_within is_zero clauses rank_in_order becoming combining concluding owing admitting proposal parent_of children_of awaiting fresh_rank hearing viewing in_phase saying deciding settled done settling entering noting raised taking_up lowered taking_down asked taking_ask renewing regathering orphaned inheriting bereaved noticing acknowledging silent reports tells asks letter letters fresh_triple combine closing code subject refusing accepting afterwards fitting delivered acting planned posted joining applied carried subject_of plan_of stepped padded without is_within member_in_order zero_record stranger_in_order seat_in_order seat_in_order_at message_in_order zero_place place_in_order place_in_order_at in_order event wrong_kind wrong_rank no_message is_dead not_outside is_living is_last both_live late_refusal refusal first_rank first_row fresh_state empty_state started written event_in told played refused_batch batch leaves three miscounted example cases
cases_hold = refl
