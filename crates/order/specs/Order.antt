-- "A state is in order when", clause by clause.
use Rattle.std.specs.Prelude.{ℕ, Bool, cond, not, ◌&&◌, ◌||◌, List, [], ◌∷◌, eqb, ltb, leb, replicate}
use Rattle.sets.specs.Sets.{none, has, minus, below, every, all}
use Rattle.tree.specs.Tree.{fresh}
use Rattle.answers.specs.Refusals.{accepted}
use Rattle.tree.specs.Calls.{same}
use Rattle.calls.specs.Calls.{misshapen}
use Rattle.rank.specs.declared.Rank.{Rank}
use Rattle.rank.specs.declared.Message.{Message}
use Rattle.rank.specs.declared.Triple.{Triple}
use Rattle.rank.specs.Words.{gathering, waiting, decided, up, ask}
use Rattle.rank.specs.Records.{parent_of, awaiting}
use Rattle.net.specs.Net.{in_flight}
use Rattle.state.specs.declared.State.{State}
use Rattle.state.specs.States.{rank_at, row_at, place_at}

-- All sets lie within n; marks lie within the dead set.
unfoldable pub is_within : ℕ → ℕ → Bool
is_within w bound = eqb (minus w bound) 0

-- A set lies within n and leaves out its own rank.
unfoldable pub proper : ℕ → ℕ → ℕ → Bool
proper n me w = is_within w (below n) && not (has w me)

-- A triple's sets lie within n; they may have their own rank in them.
unfoldable pub triple_within : ℕ → Triple → Bool
triple_within n t = is_within t.known (below n) && is_within t.acknowledged (below n)

-- A triple is all 0.
unfoldable pub is_zero : Triple → Bool
is_zero t = all (eqb t.word 0 ∷ eqb t.known 0 ∷ eqb t.acknowledged 0 ∷ [])

-- One rank: the rank numbered me, in a group of n, with its row of the tables.
unfoldable pub clauses : (ℕ → ℕ) → ℕ → ℕ → Rank → List ℕ → List Bool
clauses anc n me r row =
    -- all sets lie within n and leave out their own rank
    proper n me r.marks ∷ proper n me r.heard ∷ proper n me r.awaited ∷ proper n me r.owed
    -- the acknowledged set lies within the marks, and a triple's sets within n
    ∷ is_within r.acknowledged r.marks ∷ triple_within n r.triple ∷ triple_within n r.result
    -- tables and awaited sets equal the fresh ones
    ∷ same row (fresh anc n r.marks) ∷ eqb r.awaited (awaiting anc n me r.marks r.heard)
    -- gathering means awaited is not empty
    ∷ (not (eqb r.phase gathering) || not (eqb r.awaited 0))
    -- waiting means there is a parent
    ∷ (not (eqb r.phase waiting) || not (eqb (parent_of anc me r) none))
    -- a result is all 0 unless decided
    ∷ (eqb r.phase decided || is_zero r.result)
    -- phases are known
    ∷ leb r.phase decided
    ∷ []

unfoldable pub rank_in_order : (ℕ → ℕ) → ℕ → ℕ → Rank → List ℕ → Bool
rank_in_order anc n me r row = all (clauses anc n me r row)

-- A rank of the group: its sets, its table and awaited set, its phase and its result; and its marks lie within the dead set.
unfoldable pub member_in_order : (ℕ → ℕ) → ℕ → ℕ → ℕ → Rank → List ℕ → Bool
member_in_order anc n dead i r row = rank_in_order anc n i r row && is_within r.marks dead

-- Records of ranks at n and above are all zero and their table rows all 255.
unfoldable pub zero_record : Rank → Bool
zero_record r =
    all (eqb r.phase 0 ∷ eqb r.marks 0 ∷ eqb r.acknowledged 0 ∷ eqb r.heard 0 ∷ eqb r.awaited 0 ∷ eqb r.owed 0
    ∷ is_zero r.triple ∷ is_zero r.result
    ∷ [])

unfoldable pub stranger_in_order : Rank → List ℕ → Bool
stranger_in_order r row = zero_record r && same row (replicate 64 none)

unfoldable pub seat_in_order : (ℕ → ℕ) → ℕ → ℕ → ℕ → Rank → List ℕ → Bool
seat_in_order anc n dead i r row = cond (ltb i n) (member_in_order anc n dead i r row) (stranger_in_order r row)

unfoldable pub seat_in_order_at : (ℕ → ℕ) → State → ℕ → Bool
seat_in_order_at anc s i = seat_in_order anc s.group.n s.group.dead i (rank_at s i) (row_at s i)

-- A message in flight.
unfoldable pub message_in_order : ℕ → ℕ → Message → Bool
message_in_order n dead m =
    -- message ends are two different ranks below n
    all (ltb m.from n ∷ ltb m.to n ∷ not (eqb m.from m.to)
    -- kinds are known
    ∷ leb up m.kind ∷ leb m.kind ask
    -- a triple's sets lie within n, and an ASK's triple is all 0
    ∷ triple_within n m.triple ∷ (not (eqb m.kind ask) || is_zero m.triple)
    -- every rank below an ASK's sender is dead
    ∷ (not (eqb m.kind ask) || is_within (below m.from) dead)
    ∷ [])

-- Places after the last are all zero.
unfoldable pub zero_place : Message → Bool
zero_place m = all (eqb m.kind 0 ∷ eqb m.from 0 ∷ eqb m.to 0 ∷ is_zero m.triple ∷ [])

unfoldable pub place_in_order : ℕ → ℕ → ℕ → ℕ → Message → Bool
place_in_order n dead c i m = cond (ltb i c) (message_in_order n dead m) (zero_place m)

unfoldable pub place_in_order_at : State → ℕ → Bool
place_in_order_at s i = place_in_order s.group.n s.group.dead s.group.count i (place_at s i)

-- n is 1 to 64, box size and form are right, and some rank lives; the dead lie within n; at most 128 messages are listed; each rank and each
-- place.
unfoldable pub in_order : (ℕ → ℕ) → State → Bool
in_order anc s =
    all (eqb (misshapen s.group.n s.group.form s.group.span) accepted
    ∷ not (eqb (minus (below s.group.n) s.group.dead) 0)
    ∷ is_within s.group.dead (below s.group.n)
    ∷ leb s.group.count in_flight
    ∷ every (seat_in_order_at anc s) 64
    ∷ every (place_in_order_at s) in_flight
    ∷ [])
