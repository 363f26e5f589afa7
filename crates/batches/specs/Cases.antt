-- Closed tests: document 01's example as a lent run, both refusals of a batch and which comes first, and states of a wrong size and out of
-- order.
use Rattle.std.specs.Prelude.{ℕ, Bool, ◌&&◌, List, [], ◌∷◌, eqb, replicate}
use Rattle.tree.specs.Tree.{flat}
use Rattle.tree.specs.Forms.{flat_form}
use Rattle.tree.specs.Calls.{same}
use Rattle.state.specs.declared.State.{State}
use Rattle.state.specs.States.{joined, rank_at}
use Rattle.state.specs.Starting.{fresh_state, empty_state}
use Rattle.playing.specs.Playing.{Run}
use Rattle.batches.specs.Batches.{batch}

-- The answer of a batch, and every place of its slice.
unfoldable pub leaves : Run → ℕ → List ℕ → Bool
leaves r number places = eqb r.answer number && same r.answers places

-- Three ranks; the same with a message counted that is not there.
unfoldable pub three : State
three = fresh_state flat 3 flat_form 1

unfoldable pub miscounted : State
miscounted = joined (record { n = 3; form = flat_form; span = 1; count = 1; dead = 0; ranks = three.group.ranks; net = three.group.net }) three.tables

-- Document 01's example, with room for one event more.
unfoldable pub example : Run
example =
    batch flat
    (1 ∷ 2 ∷ 7 ∷ 1 ∷ 1 ∷ 6 ∷ 1 ∷ 0 ∷ 5 ∷ 2 ∷ 0 ∷ 0 ∷ 2 ∷ 0 ∷ 0 ∷ 3 ∷ 0 ∷ 0
    ∷ 4 ∷ 1 ∷ 0 ∷ 2 ∷ 0 ∷ 0 ∷ 2 ∷ 0 ∷ 0 ∷ 2 ∷ 0 ∷ 0 ∷ 2 ∷ 0 ∷ 0 ∷ 4 ∷ 2 ∷ 1 ∷ [])
    (replicate 39 77) three

unfoldable pub cases : List Bool
cases =
    -- 40, also where 41 applies; 41, by one number; then nothing has changed
    leaves (batch flat (1 ∷ 0 ∷ []) [] three) 40 []
    ∷ leaves (batch flat (1 ∷ 0 ∷ 5 ∷ 1 ∷ []) (77 ∷ []) three) 40 (77 ∷ [])
    ∷ leaves (batch flat (1 ∷ 0 ∷ 5 ∷ []) (77 ∷ 77 ∷ []) three) 41 (77 ∷ 77 ∷ [])
    ∷ eqb (rank_at (batch flat (1 ∷ 0 ∷ 5 ∷ []) (77 ∷ 77 ∷ []) three).state 0).phase 0
    -- no event
    ∷ leaves (batch flat [] (77 ∷ []) three) 0 (77 ∷ [])
    -- the example: its twelve events, and three places past them as found
    ∷ leaves example 0
    (0 ∷ 1 ∷ 0 ∷ 0 ∷ 0 ∷ 0 ∷ 0 ∷ 0 ∷ 0 ∷ 0 ∷ 1 ∷ 0 ∷ 0 ∷ 1 ∷ 0 ∷ 0 ∷ 0 ∷ 0
    ∷ 0 ∷ 1 ∷ 1 ∷ 0 ∷ 0 ∷ 0 ∷ 0 ∷ 1 ∷ 1 ∷ 0 ∷ 1 ∷ 0 ∷ 0 ∷ 1 ∷ 0 ∷ 8 ∷ 0 ∷ 0 ∷ 77 ∷ 77 ∷ 77 ∷ [])
    ∷ eqb (rank_at example.state 2).result.word 6
    -- a refused start: each event is answered 1; a state out of order: each is answered 2
    ∷ leaves (batch flat (1 ∷ 0 ∷ 9 ∷ 9 ∷ 9 ∷ 9 ∷ []) (replicate 6 77) empty_state) 0 (1 ∷ 0 ∷ 0 ∷ 1 ∷ 0 ∷ 0 ∷ [])
    ∷ leaves (batch flat (1 ∷ 0 ∷ 9 ∷ 9 ∷ 9 ∷ 9 ∷ []) (replicate 6 77) miscounted) 0 (2 ∷ 0 ∷ 0 ∷ 2 ∷ 0 ∷ 0 ∷ [])
    ∷ eqb (batch flat (1 ∷ 0 ∷ 9 ∷ []) (replicate 3 77) miscounted).state.group.count 1
    ∷ []
