-- Closed tests: document 01, "Examples on both sides", all of those that are to be proved, as one list.
use Rattle.std.specs.Prelude.{ℕ, Bool, ◌&&◌, List, [], ◌∷◌, ◌++◌, eqb}
use Rattle.tree.specs.Tree.{flat}
use Rattle.tree.specs.Forms.{flat_form}
use Rattle.calls.specs.Examples as Tree
use Rattle.rank.specs.Words.{decided}
use Rattle.events.specs.Events.{event_of}
use Rattle.state.specs.States.{rank_at}
use Rattle.state.specs.Starting.{started}
use Rattle.group.specs.Events.{Stepped, event}

unfoldable pub answers : Stepped → ℕ → ℕ → Bool
answers r number sent = eqb r.answer number && eqb r.sent sent

-- one rank that enters with 9
unfoldable pub alone : Stepped
alone = event flat (started flat 1 flat_form 1).state (event_of 1 0 9)

unfoldable pub examples : List Bool
examples =
    -- 1 to 7
    Tree.examples
    -- 8. n=1, enter 9: decided 9, sent 0; crash: 9.
    ++ (answers alone 0 0 ∷ eqb (rank_at alone.state 0).phase decided ∷ eqb (rank_at alone.state 0).result.word 9
    ∷ eqb (event flat alone.state (event_of 3 0 0)).answer 9
    -- 9. Sizes 0 and 65: 1; 64 accepted.
    ∷ eqb (started flat 0 flat_form 1).answer 1 ∷ eqb (started flat 65 flat_form 1).answer 1 ∷ eqb (started flat 64 flat_form 1).answer 0
    ∷ [])
