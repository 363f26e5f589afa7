-- The room that is left after each part of a listing. Assumes nothing.
use mathlib.Core.List.{List, ◌++◌}
use Prim.Native.Nat.{ℕ, ◌+◌, ◌*◌, ◌≤◌}
use native.Mathlib.Omega.{arith}
use lib.ListN.{length, get_or, length-append}
use Rattle.state.specs.declared.State.{State}
use Rattle.state.specs.States.{zero_rank}
use Rattle.text.specs.Text.{lines}
use Rattle.text.specs.Pages.{Puts, HasRoom, Lines}
use Rattle.text.specs.declared.Page.{Page}
use Rattle.text.proofs.Laws.Writing.{room_after}
use Rattle.text.proofs.Laws.Lines.{length-lines}
use Rattle.rank.specs.declared.Rank.{Rank}
use Rattle.lines.specs.Lines.{first_line, event_line, rank_line, last_line}
use Rattle.listing.specs.Listings.{rank_lines, listing}
use Rattle.lines.proofs.Laws.Lines.{length-event, length-rank, length-first, length_last}

-- an event's line, and a rank's
abbrev pub event_lines : List ℕ → Lines
event_lines answers = record { line = event_line answers; most = 44; short = length-event answers }

abbrev pub ranks_lines : ℕ → List Rank → Lines
ranks_lines dead ranks = record {
  line = λ i. rank_line dead i (get_or ranks i zero_rank);
  most = 57;
  short = λ i. length-rank dead i (get_or ranks i zero_rank);
}

-- the room after the first line, the event lines and the rank lines of a listing
pub room_events : {p q : Page} (n events : ℕ) → HasRoom p (50 + 44 * events + 57 * n) → Puts p (first_line n events) q → HasRoom q (44 * events + (57 * n + 13))
room_events n events r h = omega (arith, room_after 37 (44 * events + (57 * n + 13)) h (length-first n events) (omega arith))

pub room_ranks : {p q : Page} (answers : List ℕ) (n events : ℕ) → HasRoom p (44 * events + (57 * n + 13)) → Puts p (lines (event_line answers) events) q → HasRoom q (57 * n + 13)
room_ranks answers n events r h = room_after (44 * events) (57 * n + 13) h (omega (arith, length-lines (event_line answers) 44 events (length-event answers))) r

pub room_last : {p q : Page} (dead : ℕ) (ranks : List Rank) (n : ℕ) → HasRoom p (57 * n + 13) → Puts p (lines (λ i. rank_line dead i (get_or ranks i zero_rank)) n) q → HasRoom q 13
room_last dead ranks n r h = room_after (57 * n) 13 h (omega (arith, length-lines (λ i. rank_line dead i (get_or ranks i zero_rank)) 57 n (ranks_lines dead ranks).short)) r

pub length-listing : (events : ℕ) (answers : List ℕ) (s : State) → length (listing events answers s) ≤ 50 + 44 * events + 57 * s.group.n
unfolding listing rank_lines
length-listing events answers s =
    let first = first_line s.group.n events in
    let middle = lines (event_line answers) events in
    let ranks = lines (λ i. rank_line s.group.dead i (get_or s.group.ranks i zero_rank)) s.group.n in
    let last = last_line s.group.count in
    omega (
      arith,
      length-append first (middle ++ (ranks ++ last)),
      length-append middle (ranks ++ last),
      length-append ranks last,
      length-first s.group.n events,
      length-lines (event_line answers) 44 events (length-event answers),
      length-lines (λ i. rank_line s.group.dead i (get_or s.group.ranks i zero_rank)) 57 s.group.n (λ i. length-rank s.group.dead i (get_or s.group.ranks i zero_rank)),
      length_last s.group.count,
    )
