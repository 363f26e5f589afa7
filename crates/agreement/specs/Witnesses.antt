-- Closed tests: the claims are not empty, and no premise of them can be left out. Nine schedules, and the states in which they end.
use Rattle.std.specs.Prelude.{ℕ, ◌<◌, ◌≡◌, Bool, true, cond, not, ◌||◌, List, [], ◌∷◌, eqb, replicate}
use Rattle.sets.specs.Sets.{has, minus, every}
use Rattle.tree.specs.Tree.{flat}
use Rattle.tree.specs.Forms.{flat_form}
use Rattle.tree.specs.Calls.{same}
use Rattle.rank.specs.Words.{outside, decided}
use Rattle.rank.specs.Triples.{code}
use Rattle.events.specs.Events.{event_of}
use Rattle.state.specs.declared.State.{State}
use Rattle.state.specs.States.{rank_at}
use Rattle.state.specs.Starting.{started}
use Rattle.group.specs.Events.{event}
use Rattle.schedule.specs.Steps.{stepped_run}
use Rattle.files.specs.Cases.{file}
use Rattle.schedule.specs.Samples.{then, three}
use Rattle.agreement.specs.Agreement.{Decides}

-- ---- schedules

-- examples/reporter_hangs, with its last answer delivered: rank 1 dies, and rank 2 reports to a rank that has not heard of it
unfoldable pub mourned : List ℕ
mourned =
    file 3
    (then 1 2 7
    (then 1 1 6
    (then 2 0 0
    (then 3 1 0
    (then 4 2 1
    (then 1 0 5
    (then 2 1 0
    (then 2 0 0
    (then 2 0 0
    (then 4 0 1
    (then 2 0 0
    [])))))))))))

-- two ranks, and nobody enters
unfoldable pub absent : List ℕ
absent = file 2 []

-- both enter, and a report is still in flight
unfoldable pub busy : List ℕ
busy = file 2 (then 1 1 5 (then 1 0 6 []))

-- the root dies, the report to it is lost, and nobody tells the reporter
unfoldable pub untold : List ℕ
untold = file 2 (then 1 1 5 (then 3 0 0 (then 5 0 0 [])))

-- two roots are lost one after the other: rank 0 decides 8 and dies, then rank 1 decides 12 and dies, and no DOWN of theirs is taken; ranks 2 and
-- 3, which hold 14 and 15, decide 14
unfoldable pub bereft : List ℕ
bereft =
    file 4
    (then 1 3 15
    (then 1 2 14
    (then 1 1 13
    (then 1 0 11
    (then 2 0 0
    (then 2 0 0
    (then 2 0 0
    (then 3 0 0
    (then 4 1 0
    (then 2 0 0
    (then 2 0 0
    (then 2 0 0
    (then 2 0 0
    (then 2 0 0
    (then 3 1 0
    (then 4 2 1
    (then 2 0 0
    (then 2 1 0
    (then 2 0 0
    (then 2 0 0
    (then 2 0 0
    [])))))))))))))))))))))

-- examples/late_root: the root is told of a death after it entered, and nobody proposed it
unfoldable pub late : List ℕ
late = file 2 (then 1 0 5 (then 3 1 0 (then 4 0 1 [])))

-- examples/told_since: the root decides with one death known and acknowledged, and is told of another after that
unfoldable pub since : List ℕ
since =
    file 3
    (then 3 1 0
    (then 4 0 1
    (then 4 2 1
    (then 6 0 0
    (then 6 2 0
    (then 1 2 7
    (then 1 0 5
    (then 2 0 0
    (then 2 0 0
    (then 3 2 0
    (then 4 0 2
    [])))))))))))

-- examples/nobody_acknowledged: rank 1 is told of a death after it entered, and the root never is
unfoldable pub unheard : List ℕ
unheard = file 3 (then 1 0 5 (then 1 1 6 (then 3 2 0 (then 4 1 2 (then 2 0 0 (then 2 0 0 []))))))

-- ---- where they end

-- room for the answers to twenty-one events
unfoldable pub slice : List ℕ
slice = replicate 63 0

unfoldable pub runs : List ℕ → Bool
runs f = eqb (stepped_run f slice).answer 0

unfoldable pub ended : List ℕ → State
ended f = (stepped_run f slice).state

-- The words of the claim as tests.
unfoldable pub is_quiet : State → Bool
is_quiet s = eqb s.group.count 0

unfoldable pub all_entered : ℕ → State → Bool
all_entered n s = every (λ i. has s.group.dead i || not (eqb (rank_at s i).phase outside)) n

unfoldable pub all_deaths_known : ℕ → State → Bool
all_deaths_known n s = every (λ i. has s.group.dead i || eqb (minus s.group.dead (rank_at s i).marks) 0) n

unfoldable pub all_decided : ℕ → State → Bool
all_decided n s = every (λ i. has s.group.dead i || eqb (rank_at s i).phase decided) n

-- What the listing shows of a rank: 1 if it lives, its phase, its result, its code.
unfoldable pub shown : State → ℕ → List ℕ
shown s i = cond (has s.group.dead i) 0 1 ∷ (rank_at s i).phase ∷ (rank_at s i).result.word ∷ code (rank_at s i).result ∷ []

-- The same in words: rank i lives and has decided w with this code; it died, and had decided so.
abbrev pub LivesWith : ℕ → State → ℕ → ℕ → ℕ → Type 0
LivesWith n s i w c = Decides n s i × ((rank_at s i).result.word ≡ w) × (code (rank_at s i).result ≡ c)

abbrev pub DiedWith : ℕ → State → ℕ → ℕ → ℕ → Type 0
DiedWith n s i w c = (i < n) × (has s.group.dead i ≡ true) × ((rank_at s i).phase ≡ decided) × ((rank_at s i).result.word ≡ w) × (code (rank_at s i).result ≡ c)

-- What it knows: the known dead of its result and of its own triple, and its marks.
unfoldable pub knows : State → ℕ → List ℕ
knows s i = (rank_at s i).result.known ∷ (rank_at s i).triple.known ∷ (rank_at s i).marks ∷ []

unfoldable pub witnesses : List Bool
witnesses =
    -- all premises are met, and a rank is dead
    runs mourned ∷ is_quiet (ended mourned) ∷ all_entered 3 (ended mourned) ∷ all_deaths_known 3 (ended mourned) ∷ has (ended mourned).group.dead 1
    -- all but "has entered", and nobody has decided
    ∷ runs absent
    ∷ is_quiet (ended absent)
    ∷ all_deaths_known 2 (ended absent)
    ∷ not (all_decided 2 (ended absent))
    -- all but "no message in flight"
    ∷ runs busy
    ∷ all_entered 2 (ended busy)
    ∷ all_deaths_known 2 (ended busy)
    ∷ not (all_decided 2 (ended busy))
    -- all but "has marked every dead one"
    ∷ runs untold
    ∷ is_quiet (ended untold)
    ∷ all_entered 2 (ended untold)
    ∷ not (all_decided 2 (ended untold))
    -- document 01's example: rank 0 decided 4 and died, the living hold 6
    ∷ runs three
    ∷ same (shown (ended three) 0) (0 ∷ 3 ∷ 4 ∷ 0 ∷ [])
    ∷ same (shown (ended three) 1) (1 ∷ 3 ∷ 6 ∷ 1 ∷ [])
    ∷ same (shown (ended three) 2) (1 ∷ 3 ∷ 6 ∷ 1 ∷ [])
    -- two roots lost, each with its own result, and the living hold a third
    ∷ runs bereft
    ∷ same (shown (ended bereft) 0) (0 ∷ 3 ∷ 8 ∷ 0 ∷ [])
    ∷ same (shown (ended bereft) 1) (0 ∷ 3 ∷ 12 ∷ 1 ∷ [])
    ∷ same (shown (ended bereft) 2) (1 ∷ 3 ∷ 14 ∷ 1 ∷ [])
    ∷ same (shown (ended bereft) 3) (1 ∷ 3 ∷ 14 ∷ 1 ∷ [])
    -- a rank alone enters 9
    ∷ eqb (started flat 1 flat_form 1).answer 0
    ∷ eqb (event flat (started flat 1 flat_form 1).state (event_of 1 0 9)).answer 0
    -- the verdict knows of rank 1's death, and nobody proposed it: the root's own triple has it not
    ∷ runs late
    ∷ same (shown (ended late) 0) (1 ∷ 3 ∷ 5 ∷ 1 ∷ [])
    ∷ same (knows (ended late) 0) (2 ∷ 0 ∷ 2 ∷ [])
    -- the verdict knows of rank 1's death, and the root by now of rank 2's too
    ∷ runs since
    ∷ same (shown (ended since) 0) (1 ∷ 3 ∷ 5 ∷ 0 ∷ [])
    ∷ same (knows (ended since) 0) (2 ∷ 2 ∷ 6 ∷ [])
    -- rank 1 knew of rank 2's death when it reported, and the verdict does not
    ∷ runs unheard
    ∷ same (shown (ended unheard) 1) (1 ∷ 3 ∷ 4 ∷ 0 ∷ [])
    ∷ same (knows (ended unheard) 1) (0 ∷ 0 ∷ 4 ∷ [])
    ∷ []
