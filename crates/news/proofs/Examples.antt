-- Each example is what it says, by computation. Assumes nothing.
use mathlib.Core.Path.{◌≡◌, refl, sym}
use mathlib.Core.Bool.{true}
use mathlib.Core.List.{List}
use Prim.Native.Nat.{ℕ}
use lib.ListN.{replicate}
use Rattle.sets.specs.Sets.{has, only, union, meet, minus, add, below, set_of, count, largest, smallest, listed, every, all}
use Rattle.tree.specs.Calls.{mended, and_then, moved_below, wrong_size, same}
use Rattle.calls.specs.Calls.{misshapen}
use Rattle.tree.specs.Tree.{lineage, ancestors, half, flat, parent, children, row, entry, fresh, moves, sized, moved}
use Rattle.rank.specs.Records.{becoming, combining, concluding, owing, admitting, proposal, parent_of, children_of, awaiting, fresh_rank, hearing, viewing}
use Rattle.rank.specs.Rules.{in_phase, saying, deciding, settled, done, settling, entering, noting, raised, taking_up, lowered, taking_down, asked, taking_ask, renewing, regathering, orphaned, inheriting, bereaved, noticing, acknowledging}
use Rattle.rank.specs.Sends.{silent, reports, tells, asks, letter, letters}
use Rattle.rank.specs.Triples.{fresh_triple, combine, closing, code}
use Rattle.net.specs.Net.{joining, padded, without}
use Rattle.refusals.specs.Refusing.{wrong_kind, wrong_rank, no_message, is_dead, not_outside, is_living, is_last, both_live, late_refusal, refusal}
use Rattle.state.specs.Starting.{first_rank, first_row, fresh_state, started}
use Rattle.order.specs.Order.{proper, triple_within, is_zero, clauses, rank_in_order, is_within, member_in_order, zero_record, stranger_in_order, seat_in_order, seat_in_order_at, message_in_order, zero_place, place_in_order, place_in_order_at, in_order}
use Rattle.plans.specs.Plans.{subject, refusing, accepting, afterwards, fitting, delivered, acting, planned}
use Rattle.group.specs.Events.{posted, applied, refused, carried, subject_of, plan_of, stepped, event}
use Rattle.playing.specs.Playing.{written, told}
use Rattle.files.specs.Files.{byte_at, short_at, number_at, event_at, events_in, wrong_mark, wrong_version, broken, header}
use Rattle.files.specs.Cases.{file}
use Rattle.schedule.specs.Runs.{refused_run, run}
use Rattle.schedule.specs.Steps.{stepping, stepped_on, stepped_run}
use Rattle.schedule.proofs.Laws.Steps.{run_steps}
use Rattle.schedule.specs.Samples.{then}
use Rattle.news.specs.News.{is_in, tells_of, all_told, takes_ask, brings}
use Rattle.news.specs.Examples.{moved_by, as_many, for_any_two, for_any_two_told, inner_first, leaf_first, parent_first, root_first, outsider, asking, whole_run, writes, same_view, end_alike, says_nothing, tells_now, tells_late, examples}

pub examples_hold : all examples ≡ true
unfolding has only union meet minus add below set_of count largest smallest listed every all mended and_then moved_below wrong_size misshapen same lineage ancestors half flat parent children row entry fresh moves sized moved proper triple_within is_zero clauses rank_in_order becoming combining concluding owing admitting proposal parent_of children_of awaiting fresh_rank hearing viewing in_phase saying deciding settled done settling entering noting raised taking_up lowered taking_down asked taking_ask renewing regathering orphaned inheriting bereaved noticing acknowledging silent reports tells asks letter letters fresh_triple combine closing code subject refusing accepting afterwards fitting delivered acting planned posted joining applied carried subject_of plan_of stepped padded without is_within member_in_order zero_record stranger_in_order seat_in_order seat_in_order_at message_in_order zero_place place_in_order place_in_order_at in_order event wrong_kind wrong_rank no_message is_dead not_outside is_living is_last both_live late_refusal refusal first_rank first_row fresh_state started byte_at short_at number_at event_at events_in wrong_mark wrong_version broken header written told stepping stepped_on stepped_run refused_run then file moved_by as_many for_any_two for_any_two_told inner_first leaf_first parent_first root_first outsider asking whole_run writes same_view end_alike says_nothing tells_now tells_late is_in tells_of all_told takes_ask brings examples
examples_hold = refl

-- The runs that are computed are runs.
pub a_whole_run_is_a_run : (f : List ℕ) → whole_run f ≡ run f (replicate 15 0)
unfolding whole_run
a_whole_run_is_a_run f = sym (run_steps f (replicate 15 0))
