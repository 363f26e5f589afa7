-- What the program `views` prints of a schedule: the picture of each living rank's view at the end, ascending by rank, one digraph after the
-- other; of a refused file what `agr` prints, its one line.
use Rattle.std.specs.Prelude.{ℕ, ◌+◌, ◌-◌, ◌*◌, cond, List, [], eqb}
use Rattle.sets.specs.Sets.{has}
use Rattle.state.specs.declared.State.{State}
use Rattle.state.specs.States.{rank_at}
use Rattle.text.specs.Text.{lines}
use Rattle.playing.specs.Playing.{Run}
use Rattle.schedule.specs.Runs.{run}
use Rattle.lines.specs.Lines.{refused_line}
use Rattle.pictures.specs.Pictures.{picture, picture_room}

-- The picture of rank i's view in a group of n ranks; nothing for a dead rank.
unfoldable pub rank_picture : ℕ → ℕ → ℕ → ℕ → List ℕ
rank_picture n dead i marks = cond (has dead i) [] (picture n marks)

-- The pictures of a state, ascending by rank.
unfoldable pub rank_pictures : State → List ℕ
rank_pictures s = lines (λ i. rank_picture s.group.n s.group.dead i (rank_at s i).marks) s.group.n

-- What the program prints for a file, whose run has the answers in a lent slice.
unfoldable pub drawing_of : Run → List ℕ
drawing_of r = cond (eqb r.answer 0) (rank_pictures r.state) (refused_line r.answer)

unfoldable pub drawing : List ℕ → List ℕ → List ℕ
drawing file out = drawing_of (run file out)

-- A picture's room in a group of n ranks: what a size of at most 64 takes, and 50 bytes for each rank more.
abbrev pub rank_room : ℕ → ℕ
rank_room n = picture_room + 50 * (n - 64)

-- What the caller lends to draw: room for 64 pictures.
abbrev pub drawing_room : ℕ
drawing_room = 64 * picture_room
