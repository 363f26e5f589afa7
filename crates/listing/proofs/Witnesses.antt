-- Each case of the list is what it says, by computation. Assumes nothing.
use mathlib.Core.Path.{◌≡◌, refl, sym, ap}
use mathlib.Core.Bool.{true}
use mathlib.Core.List.{[]}
use Prim.Native.Nat.{ℕ}
use native.Mathlib.Omega.{arith}
use Rattle.sets.specs.Sets.{has, only, union, meet, minus, add, below, set_of, count, largest, smallest, listed, every, all}
use Rattle.tree.specs.Calls.{mended, and_then, moved_below, mended_below, wrong_size, same}
use Rattle.calls.specs.Calls.{misshapen}
use Rattle.tree.specs.Tree.{lineage, ancestors, half, flat, parent, children, row, entry, fresh, moves, sized, moved}
use Rattle.tree.specs.Forms.{flat_form}
use Rattle.calls.specs.Examples.{tallies}
use Rattle.rank.specs.Records.{becoming, combining, concluding, owing, admitting, proposal, parent_of, children_of, awaiting, fresh_rank, hearing, viewing}
use Rattle.rank.specs.Rules.{in_phase, saying, deciding, settled, done, settling, entering, noting, raised, taking_up, lowered, taking_down, asked, taking_ask, renewing, regathering, orphaned, inheriting, bereaved, noticing, acknowledging}
use Rattle.rank.specs.Sends.{silent, reports, tells, asks, letter, letters}
use Rattle.rank.specs.Triples.{fresh_triple, combine, closing, code}
use Rattle.net.specs.Net.{joining, padded, without}
use Rattle.refusals.specs.Refusing.{wrong_kind, wrong_rank, no_message, is_dead, not_outside, is_living, is_last, both_live, late_refusal, refusal}
use Rattle.state.specs.Starting.{first_rank, first_row, fresh_state, empty_state, started}
use Rattle.order.specs.Order.{proper, triple_within, is_zero, clauses, rank_in_order, is_within, member_in_order, zero_record, stranger_in_order, seat_in_order, seat_in_order_at, message_in_order, zero_place, place_in_order, place_in_order_at, in_order}
use Rattle.order.proofs.Laws.Fresh.{fresh_in_order}
use Rattle.plans.specs.Plans.{subject, refusing, accepting, afterwards, fitting, delivered, acting, planned}
use Rattle.group.specs.Events.{posted, applied, carried, subject_of, plan_of, stepped, event}
use Rattle.playing.specs.Playing.{Run, written, told, played}
use Rattle.text.specs.Text.{digits_of, decimal, field, lines}
use Rattle.files.specs.Files.{byte_at, short_at, number_at, event_at, events_in, wrong_mark, wrong_version, broken, header}
use Rattle.files.specs.Cases.{file}
use Rattle.schedule.specs.Runs.{refused_run, opened, run}
use Rattle.schedule.specs.Steps.{stepping}
use Rattle.schedule.proofs.Laws.Steps.{played_steps}
use Rattle.schedule.specs.Samples.{then, three}
use Rattle.lines.specs.Lines.{first_line, event_line, living, verdict_field, rank_line, last_line, refused_line}
use Rattle.listing.specs.Listings.{rank_lines, listing, report_of, report}
use Rattle.listing.specs.Witnesses.{three_listing, later, seen, goes, one, two, reporting, widowed, informed, extinct, crowded, four, five, moves_these, refuses, leaves, witnesses}

pub nothing_is_vacuous : all witnesses ≡ true
unfolding has only union meet minus add below set_of count largest smallest listed every all mended and_then moved_below mended_below wrong_size misshapen same lineage ancestors half flat parent children row entry fresh moves sized moved proper triple_within is_zero clauses rank_in_order becoming combining concluding owing admitting proposal parent_of children_of awaiting fresh_rank hearing viewing in_phase saying deciding settled done settling entering noting raised taking_up lowered taking_down asked taking_ask renewing regathering orphaned inheriting bereaved noticing acknowledging silent reports tells asks letter letters fresh_triple combine closing code subject refusing accepting afterwards fitting delivered acting planned posted joining applied carried subject_of plan_of stepped padded without is_within member_in_order zero_record stranger_in_order seat_in_order seat_in_order_at message_in_order zero_place place_in_order place_in_order_at in_order event wrong_kind wrong_rank no_message is_dead not_outside is_living is_last both_live late_refusal refusal first_rank first_row fresh_state empty_state started byte_at short_at number_at event_at events_in wrong_mark wrong_version broken header digits_of decimal field first_line event_line living verdict_field rank_line last_line lines rank_lines listing refused_line report_of report written told played stepping refused_run opened run then file three three_listing later seen goes one two reporting widowed informed extinct crowded four five moves_these tallies refuses leaves witnesses
nothing_is_vacuous = refl

-- The states that are computed by steps are those after the example's first events.
pub the_example_is_played : (k : ℕ) → later k ≡ (played flat (event_at three) k 0 (fresh_state flat 3 flat_form 1) []).state
unfolding later
the_example_is_played k = ap (λ (r : Run). r.state) (sym (played_steps (event_at three) k 0 (fresh_state flat 3 flat_form 1) [] (fresh_in_order flat 3 flat_form 1 (record { some = omega arith; small = omega arith; boxed = omega arith; box_small = omega arith; known = omega arith }))))
