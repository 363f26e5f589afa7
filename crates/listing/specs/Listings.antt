-- The listing of a run: its lines in order; or the one line of a refused run.
use Rattle.std.specs.Prelude.{ℕ, ◌+◌, ◌*◌, cond, List, ◌++◌, eqb, get_or}
use Rattle.state.specs.declared.State.{State}
use Rattle.state.specs.States.{zero_rank}
use Rattle.text.specs.Text.{lines}
use Rattle.playing.specs.Playing.{Run}
use Rattle.files.specs.Files.{most_events, longest, events_in}
use Rattle.schedule.specs.Runs.{run}
use Rattle.lines.specs.Lines.{first_line, event_line, rank_line, last_line, refused_line}

-- The rank lines of a state, ascending.
unfoldable pub rank_lines : State → List ℕ
rank_lines s = lines (λ i. rank_line s.group.dead i (get_or s.group.ranks i zero_rank)) s.group.n

-- The listing of a run of so many events, from its answers and its final state.
unfoldable pub listing : ℕ → List ℕ → State → List ℕ
listing events answers s = first_line s.group.n events ++ (lines (event_line answers) events ++ (rank_lines s ++ last_line s.group.count))

-- What the schedule program prints for a file, whose run has the answers in a lent slice.
unfoldable pub report_of : List ℕ → Run → List ℕ
report_of file r = cond (eqb r.answer 0) (listing (events_in file) r.answers r.state) (refused_line r.answer)

unfoldable pub report : List ℕ → List ℕ → List ℕ
report file out = report_of file (run file out)

-- What a program reads of a file: one byte more than the longest has, so that a longer one is seen.
abbrev pub file_room : ℕ
file_room = longest + 1

-- What the caller of a report lends. To run the file: three numbers for each event.
abbrev pub answers_room : ℕ
answers_room = 3 * most_events

-- To list it: 50 bytes, 44 an event and 57 a rank.
abbrev pub text_room : ℕ
text_room = 50 + 44 * most_events + 57 * 64
