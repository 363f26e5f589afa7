-- Closed tests: what the order of bad news does change, and the words of the claims on small cases. Moved counts and messages may differ: for each
-- the smallest two schedules that end with the same views, as in examples/, and for moved the smallest two marks.
use Rattle.std.specs.Prelude.{ℕ, ◌+◌, ◌*◌, ◌^◌, Bool, not, ◌&&◌, ◌||◌, List, [], ◌∷◌, eqb, get_or, replicate}
use Rattle.sets.specs.Sets.{has, every}
use Rattle.tree.specs.Tree.{flat}
use Rattle.tree.specs.Calls.{same, mended}
use Rattle.events.specs.declared.Event.{Event}
use Rattle.events.specs.Events.{event_of}
use Rattle.state.specs.declared.State.{State}
use Rattle.state.specs.States.{rank_at, row_at}
use Rattle.group.specs.Events.{event}
use Rattle.playing.specs.Playing.{Run}
use Rattle.files.specs.Cases.{file}
use Rattle.schedule.specs.Steps.{stepped_run}
use Rattle.schedule.specs.Samples.{then}
use Rattle.news.specs.News.{is_in, by_notice, by_ask, all_told, brings}

-- ---- moved, in a view

-- How many move by the mark of a and then that of b, and whether as many do by b and then a.
unfoldable pub moved_by : ℕ → ℕ → ℕ → ℕ → ℕ
moved_by n marks a b = (mended flat n marks a).moved.count + (mended flat n (mended flat n marks a).marks b).moved.count

unfoldable pub as_many : ℕ → ℕ → ℕ → ℕ → Bool
as_many n marks a b = eqb (moved_by n marks a b) (moved_by n marks b a)

-- As many do in every view of n ranks: for any two ranks; and for any two others than one that is unmarked.
unfoldable pub for_any_two : ℕ → Bool
for_any_two n = every (λ marks. every (λ a. every (as_many n marks a) n) n) (2 ^ n)

unfoldable pub for_any_two_told : ℕ → Bool
for_any_two_told n = every (λ marks. every (λ me. has marks me || every (λ a. every (λ b. eqb me a || eqb me b || as_many n marks a b) n) n) n) (2 ^ n)

-- ---- schedules

-- rank 0 is told of the death of 1, its child, and then of that of 2, the child of 1; and the other way round
unfoldable pub inner_first : List ℕ
inner_first = file 3 (then 3 1 0 (then 3 2 0 (then 4 0 1 (then 4 0 2 []))))

unfoldable pub leaf_first : List ℕ
leaf_first = file 3 (then 3 1 0 (then 3 2 0 (then 4 0 2 (then 4 0 1 []))))

-- rank 2, which has reported to 1, its parent, is told of the death of 1 and then of that of 0; and the other way round
unfoldable pub parent_first : List ℕ
parent_first = file 3 (then 1 2 7 (then 3 0 0 (then 3 1 0 (then 4 2 1 (then 4 2 0 [])))))

unfoldable pub root_first : List ℕ
root_first = file 3 (then 1 2 7 (then 3 0 0 (then 3 1 0 (then 4 2 0 (then 4 2 1 [])))))

-- two ranks of three crash, and the third, which has not entered, is told of both
unfoldable pub outsider : ℕ → ℕ → ℕ → List ℕ
outsider me a b = file 3 (then 3 a 0 (then 3 b 0 (then 4 me a (then 4 me b []))))

-- rank 2 has reported to 1, and 1 to 0, which dies; 1 is told of it and asks 2: the report to 0 is at place 0, the ASK at place 1
unfoldable pub asking : List ℕ
asking = file 3 (then 1 2 7 (then 1 1 6 (then 2 0 0 (then 3 0 0 (then 4 1 0 [])))))

-- The run of a schedule of up to five events, and what it writes: answer, sent and moved for each.
unfoldable pub whole_run : List ℕ → Run
whole_run f = stepped_run f (replicate 15 0)

unfoldable pub writes : List ℕ → List ℕ → Bool
writes f wanted = eqb (whole_run f).answer 0 && same (whole_run f).answers wanted

-- Every rank of three ends with the same marks and the same table.
unfoldable pub same_view : State → State → ℕ → Bool
same_view s t i = eqb (rank_at s i).marks (rank_at t i).marks && same (row_at s i) (row_at t i)

unfoldable pub end_alike : List ℕ → List ℕ → Bool
end_alike f g = every (same_view (whole_run f).state (whole_run g).state) 3

-- Four events, each of them accepted, and nothing is sent.
unfoldable pub says_nothing : List ℕ → Bool
says_nothing f = every (λ k. eqb (get_or (whole_run f).answers (3 * k) 1) 0 && eqb (get_or (whole_run f).answers (3 * k + 1) 1) 0) 4

-- ---- the words of the claims

-- The ranks that an event tells rank i of: once 1 has asked; and once 1 has died besides and 2 has been told of it.
unfoldable pub tells_now : Event → ℕ → List ℕ → Bool
tells_now ev i wanted = same (all_told (brings (whole_run asking).state ev i)) wanted

unfoldable pub tells_late : Event → ℕ → List ℕ → Bool
tells_late ev i wanted =
    same (all_told (brings (event flat (event flat (whole_run asking).state (event_of 3 1 0)).state (event_of 4 2 1)).state ev i)) wanted

unfoldable pub examples : List Bool
examples =
    -- moved: two marks in a view of two ranks, and no two in a smaller one
    eqb (moved_by 2 0 0 1) 1 ∷ eqb (moved_by 2 0 1 0) 0 ∷ every for_any_two 2
    -- two notices to a rank of three, and no two in a smaller group
    ∷ eqb (moved_by 3 0 1 2) 1
    ∷ eqb (moved_by 3 0 2 1) 0
    ∷ every for_any_two_told 3
    -- the same as schedules: one rank moves, or none
    ∷ writes inner_first (0 ∷ 0 ∷ 0 ∷ 0 ∷ 0 ∷ 0 ∷ 0 ∷ 0 ∷ 1 ∷ 0 ∷ 0 ∷ 0 ∷ 0 ∷ 0 ∷ 0 ∷ [])
    ∷ writes leaf_first (0 ∷ 0 ∷ 0 ∷ 0 ∷ 0 ∷ 0 ∷ 0 ∷ 0 ∷ 0 ∷ 0 ∷ 0 ∷ 0 ∷ 0 ∷ 0 ∷ 0 ∷ [])
    ∷ end_alike inner_first leaf_first
    -- messages: rank 2 reports once more, to 0, or does not
    ∷ writes parent_first (0 ∷ 1 ∷ 0 ∷ 0 ∷ 0 ∷ 0 ∷ 0 ∷ 0 ∷ 0 ∷ 0 ∷ 1 ∷ 1 ∷ 0 ∷ 0 ∷ 1 ∷ [])
    ∷ writes root_first (0 ∷ 1 ∷ 0 ∷ 0 ∷ 0 ∷ 0 ∷ 0 ∷ 0 ∷ 0 ∷ 0 ∷ 0 ∷ 1 ∷ 0 ∷ 0 ∷ 1 ∷ [])
    ∷ end_alike parent_first root_first
    -- two crashes and two notices alone send nothing in a group of three
    ∷ every (λ me. every (λ a. every (λ b. eqb me a || eqb me b || eqb a b || says_nothing (outsider me a b)) 3) 3) 3
    -- a list, its members in any order and twice; what news tells of
    ∷ is_in 1 (3 ∷ 1 ∷ 1 ∷ [])
    ∷ not (is_in 2 (3 ∷ 1 ∷ 1 ∷ []))
    ∷ same (all_told (by_notice 3 ∷ by_ask 2 ∷ [])) (3 ∷ 0 ∷ 1 ∷ [])
    -- a notice tells its rank; the ASK from 1 tells 2 of 0, and nobody else, and the report tells nobody
    ∷ tells_now (event_of 4 2 0) 2 (0 ∷ [])
    ∷ tells_now (event_of 4 2 0) 1 []
    ∷ tells_now (event_of 2 1 0) 2 (0 ∷ [])
    ∷ tells_now (event_of 2 1 0) 1 []
    ∷ tells_now (event_of 2 0 0) 0 []
    -- once 2 has marked 1, the ASK is dropped
    ∷ tells_late (event_of 2 1 0) 2 []
    -- 1 knows of a death that 2 does not, both live, and their tables differ
    ∷ not (has (whole_run asking).state.group.dead 1 || has (whole_run asking).state.group.dead 2)
    ∷ not (same (row_at (whole_run asking).state 1) (row_at (whole_run asking).state 2))
    ∷ []
