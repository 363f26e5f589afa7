-- A state: the group record, and beside it the tables, one row of 64 parent numbers for each rank's view. The record has the size of the group and
-- the form and the box size of its tree.
use Rattle.std.specs.Prelude.{ℕ, List, [], get_or, take}
use Rattle.tree.specs.Forms.{tree_of}
use Rattle.rank.specs.declared.Rank.{Rank}
use Rattle.rank.specs.declared.Message.{Message}
use Rattle.rank.specs.Triples.{zero_triple}
use Rattle.net.specs.Net.{zero_message}
use Rattle.state.specs.declared.Group.{Group}
use Rattle.state.specs.declared.State.{State}

abbrev pub zero_rank : Rank
zero_rank = record { phase = 0; marks = 0; acknowledged = 0; heard = 0; awaited = 0; owed = 0; triple = zero_triple; result = zero_triple }

abbrev pub joined : Group → List (List ℕ) → State
joined g t = record { group = g; tables = t }

-- The record and the row of rank i, the message at place i, and the messages in flight.
abbrev pub rank_at : State → ℕ → Rank
rank_at s i = get_or s.group.ranks i zero_rank

abbrev pub row_at : State → ℕ → List ℕ
row_at s i = get_or s.tables i []

abbrev pub place_at : State → ℕ → Message
place_at s i = get_or s.group.net i zero_message

abbrev pub flying : State → List Message
flying s = take s.group.count s.group.net

-- The ancestor sets of a state's own form and box size.
abbrev pub own_tree : State → ℕ → ℕ
own_tree s = tree_of s.group.form s.group.span

-- A state with another box size, and the rest as it is.
abbrev pub with_box : ℕ → State → State
with_box span s =
    joined
    (record { n = s.group.n; form = s.group.form; span = span; count = s.group.count; dead = s.group.dead; ranks = s.group.ranks; net = s.group.net })
    s.tables
