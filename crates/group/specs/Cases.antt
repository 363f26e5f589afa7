-- Closed tests: request 2026-09, worked by hand from document 02, as one list. Ten ranks in boxes of four: boxes 0 to 3, 4 to 7, 8 and 9, with
-- the heads 0, 4 and 8; the box above box 2 is box 1, and above box 1 box 0.
use Rattle.std.specs.Prelude.{ℕ, Bool, ◌&&◌, List, [], ◌∷◌, ◌++◌, eqb, replicate}
use Rattle.tree.specs.Tree.{fresh}
use Rattle.tree.specs.Forms.{flat_form, star_form, nested_form, tree_of}
use Rattle.tree.specs.Calls.{same}
use Rattle.calls.specs.Calls.{Marked, marked, climbed}
use Rattle.calls.specs.Examples.{tallies, tells}
use Rattle.rank.specs.Words.{decided}
use Rattle.events.specs.Events.{event_of}
use Rattle.state.specs.declared.State.{State}
use Rattle.state.specs.States.{joined, rank_at, place_at, own_tree}
use Rattle.state.specs.Starting.{started}
use Rattle.group.specs.Events.{Stepped, event}
use Rattle.group.specs.Examples.{answers}

-- A table of so many ranks has these parents, and 255 past them.
unfoldable pub parents : ℕ → List ℕ → List ℕ → Bool
parents past table these = same table (these ++ replicate past 255)

-- A mark of ten ranks is accepted, and gives these parents and moved.
unfoldable pub turns : Marked → List ℕ → ℕ → ℕ → Bool
turns r these ranks count = eqb r.answer 0 && parents 54 r.table these && tallies r.moved ranks count

unfoldable pub star_view : Marked
star_view = marked 10 star_form 4 0 (fresh (tree_of star_form 4) 10 0) 4

unfoldable pub nested_view : Marked
nested_view = marked 10 nested_form 4 0 (fresh (tree_of nested_form 4) 10 0) 5

-- Three ranks in one box, as a star: 2 and 1 enter, then 0, and what they sent is delivered.
unfoldable pub goes : Stepped → ℕ → ℕ → ℕ → Stepped
goes r kind a b = event (own_tree r.state) r.state (event_of kind a b)

unfoldable pub begun : Stepped
begun = event (tree_of star_form 3) (started (tree_of star_form 3) 3 star_form 3).state (event_of 1 2 7)

unfoldable pub gathered : Stepped
gathered = goes (goes begun 1 1 6) 1 0 5

unfoldable pub ended : Stepped
ended = goes (goes gathered 2 0 0) 2 0 0

-- A start's answer; a state with another form and box size.
unfoldable pub starts : ℕ → ℕ → ℕ → ℕ
starts n form span = (started (tree_of form span) n form span).answer

unfoldable pub formed : ℕ → ℕ → ℕ → State → State
formed n form span s =
    joined (record { n = n; form = form; span = span; count = s.group.count; dead = s.group.dead; ranks = s.group.ranks; net = s.group.net }) s.tables

unfoldable pub refuses : State → ℕ → Bool
refuses s number = answers (event (own_tree s) s (event_of 1 0 5)) number 0

unfoldable pub form_examples : List Bool
form_examples =
    -- star: the others of a box report to its head, and heads along a tree that halves box numbers
    parents 54 (fresh (tree_of star_form 4) 10 0) (255 ∷ 0 ∷ 0 ∷ 0 ∷ 0 ∷ 4 ∷ 4 ∷ 4 ∷ 4 ∷ 8 ∷ [])
    -- mark 4: its box and the head of box 2 go to 0; then 0: 1 is the root, and all that reported to 0 go to it
    ∷ turns star_view (255 ∷ 0 ∷ 0 ∷ 0 ∷ 0 ∷ 0 ∷ 0 ∷ 0 ∷ 0 ∷ 8 ∷ []) 0b111100000 4
    ∷ turns (marked 10 star_form 4 star_view.marks star_view.table 0) (255 ∷ 255 ∷ 1 ∷ 1 ∷ 1 ∷ 1 ∷ 1 ∷ 1 ∷ 1 ∷ 8 ∷ []) 0b111101110 7
    -- nested: inside a box places are halved
    ∷ parents 54 (fresh (tree_of nested_form 4) 10 0) (255 ∷ 0 ∷ 1 ∷ 1 ∷ 0 ∷ 4 ∷ 5 ∷ 5 ∷ 4 ∷ 8 ∷ [])
    -- mark 5: 6 and 7 go to their head, 4; then 4: they and the head of box 2 go to 0, and so does 5, which is not counted
    ∷ turns nested_view (255 ∷ 0 ∷ 1 ∷ 1 ∷ 0 ∷ 4 ∷ 4 ∷ 4 ∷ 4 ∷ 8 ∷ []) 0b11000000 2
    ∷ turns (marked 10 nested_form 4 nested_view.marks nested_view.table 4) (255 ∷ 0 ∷ 1 ∷ 1 ∷ 0 ∷ 0 ∷ 0 ∷ 0 ∷ 0 ∷ 8 ∷ []) 0b111000000 3
    -- 64 ranks in boxes of eight, from 63: by 56, 24, 8 to 0; nested by 59 and 57 first; an allowance of one less ends at 8
    ∷ tells (climbed 64 star_form 8 0 63 4) 0 0 4 ∷ tells (climbed 64 star_form 8 0 63 3) 12 8 3
    ∷ tells (climbed 64 nested_form 8 0 63 6) 0 0 6 ∷ tells (climbed 64 nested_form 8 0 63 5) 12 8 5
    -- one box: all report to 0, or along the flat tree; boxes of one rank, all heads; a box larger than the group
    ∷ tells (climbed 64 star_form 64 0 63 9) 0 0 1 ∷ tells (climbed 64 nested_form 64 0 63 9) 0 0 6
    ∷ tells (climbed 64 star_form 1 0 63 9) 0 0 6 ∷ tells (climbed 64 nested_form 1 0 63 9) 0 0 6
    ∷ parents 61 (fresh (tree_of star_form 8) 3 0) (255 ∷ 0 ∷ 0 ∷ []) ∷ parents 61 (fresh (tree_of nested_form 8) 3 0) (255 ∷ 0 ∷ 1 ∷ [])
    -- 50, for the flat form too, then 51, both after 1 and before the rest; a climb then answers rank 255 and 0 links
    ∷ eqb (starts 0 3 0) 1 ∷ eqb (starts 8 3 0) 50 ∷ eqb (starts 8 flat_form 65) 50 ∷ eqb (starts 8 3 64) 51 ∷ eqb (starts 8 nested_form 64) 0
    ∷ tells (climbed 65 3 0 0 9 9) 1 255 0 ∷ tells (climbed 8 3 0 0 9 9) 50 255 0 ∷ tells (climbed 8 3 1 0 9 9) 51 255 0
    -- a mark then hands back view and table, and nobody has moved
    ∷ eqb (marked 8 flat_form 0 5 [] 9).answer 50 ∷ eqb (marked 8 3 1 5 (7 ∷ []) 9).answer 51
    ∷ eqb (marked 8 3 1 5 (7 ∷ []) 9).marks 5 ∷ same (marked 8 3 1 5 (7 ∷ []) 9).table (7 ∷ []) ∷ tallies (marked 8 3 1 5 (7 ∷ []) 9).moved 0 0
    -- in a star of three 2 reports to 0 (in the flat tree it would to 1), and 0 decides 7 AND 6 AND 5 and tells both
    ∷ answers begun 0 1 ∷ eqb (place_at begun.state 0).to 0 ∷ answers gathered 0 0 ∷ answers ended 0 2
    ∷ eqb (rank_at ended.state 0).phase decided ∷ eqb (rank_at ended.state 0).result.word 4
    ∷ eqb ended.state.group.form star_form ∷ eqb ended.state.group.span 3
    -- a state with form or box size at fault is not in order; its size comes first
    ∷ refuses (formed 3 3 3 gathered.state) 2 ∷ refuses (formed 3 star_form 0 gathered.state) 2 ∷ refuses (formed 0 3 0 gathered.state) 1
    -- and so is one whose tables are of another form
    ∷ refuses (formed 3 flat_form 3 gathered.state) 2
    ∷ []
