-- Closed tests: no promise is empty. For each refusal number of an event and of a run one that gets it, and for each rule an accepted event
-- that uses it, as one list. Marks, climbs and headers have lists of their own beside their definitions.
use Rattle.std.specs.Prelude.{ℕ, Bool, ◌&&◌, List, [], ◌∷◌, eqb, replicate}
use Rattle.sets.specs.Sets.{has}
use Rattle.tree.specs.Tree.{flat}
use Rattle.tree.specs.Forms.{flat_form}
use Rattle.tree.specs.Calls.{same}
use Rattle.calls.specs.Examples.{tallies}
use Rattle.rank.specs.declared.Rank.{Rank}
use Rattle.rank.specs.Triples.{zero_triple}
use Rattle.net.specs.Net.{in_flight}
use Rattle.events.specs.Events.{event_of}
use Rattle.state.specs.declared.State.{State}
use Rattle.state.specs.States.{joined, rank_at}
use Rattle.state.specs.Starting.{fresh_state, started}
use Rattle.group.specs.Events.{Stepped, stepped, event}
use Rattle.playing.specs.Playing.{Run}
use Rattle.files.specs.Files.{event_at}
use Rattle.files.specs.Cases.{file}
use Rattle.schedule.specs.Runs.{run}
use Rattle.schedule.specs.Steps.{stepping}
use Rattle.schedule.specs.Samples.{then, three}
use Rattle.listing.specs.Listings.{report}

unfoldable pub three_listing : List ℕ
three_listing =
    -- agr 1 3 12
    97 ∷ 103 ∷ 114 ∷ 32 ∷ 49 ∷ 32 ∷ 51 ∷ 32 ∷ 49 ∷ 50 ∷ 10 ∷
    -- 0 0 1 0
    48 ∷ 32 ∷ 48 ∷ 32 ∷ 49 ∷ 32 ∷ 48 ∷ 10 ∷
    -- 1 0 0 0
    49 ∷ 32 ∷ 48 ∷ 32 ∷ 48 ∷ 32 ∷ 48 ∷ 10 ∷
    -- 2 0 0 0
    50 ∷ 32 ∷ 48 ∷ 32 ∷ 48 ∷ 32 ∷ 48 ∷ 10 ∷
    -- 3 0 1 0
    51 ∷ 32 ∷ 48 ∷ 32 ∷ 49 ∷ 32 ∷ 48 ∷ 10 ∷
    -- 4 0 1 0
    52 ∷ 32 ∷ 48 ∷ 32 ∷ 49 ∷ 32 ∷ 48 ∷ 10 ∷
    -- 5 0 0 0
    53 ∷ 32 ∷ 48 ∷ 32 ∷ 48 ∷ 32 ∷ 48 ∷ 10 ∷
    -- 6 0 1 1
    54 ∷ 32 ∷ 48 ∷ 32 ∷ 49 ∷ 32 ∷ 49 ∷ 10 ∷
    -- 7 0 0 0
    55 ∷ 32 ∷ 48 ∷ 32 ∷ 48 ∷ 32 ∷ 48 ∷ 10 ∷
    -- 8 0 1 1
    56 ∷ 32 ∷ 48 ∷ 32 ∷ 49 ∷ 32 ∷ 49 ∷ 10 ∷
    -- 9 0 1 0
    57 ∷ 32 ∷ 48 ∷ 32 ∷ 49 ∷ 32 ∷ 48 ∷ 10 ∷
    -- 10 0 1 0
    49 ∷ 48 ∷ 32 ∷ 48 ∷ 32 ∷ 49 ∷ 32 ∷ 48 ∷ 10 ∷
    -- 11 8 0 0
    49 ∷ 49 ∷ 32 ∷ 56 ∷ 32 ∷ 48 ∷ 32 ∷ 48 ∷ 10 ∷
    -- r 0 0 3 4 0
    114 ∷ 32 ∷ 48 ∷ 32 ∷ 48 ∷ 32 ∷ 51 ∷ 32 ∷ 52 ∷ 32 ∷ 48 ∷ 10 ∷
    -- r 1 1 3 6 1
    114 ∷ 32 ∷ 49 ∷ 32 ∷ 49 ∷ 32 ∷ 51 ∷ 32 ∷ 54 ∷ 32 ∷ 49 ∷ 10 ∷
    -- r 2 1 3 6 1
    114 ∷ 32 ∷ 50 ∷ 32 ∷ 49 ∷ 32 ∷ 51 ∷ 32 ∷ 54 ∷ 32 ∷ 49 ∷ 10 ∷
    -- m 1
    109 ∷ 32 ∷ 49 ∷ 10 ∷
    []

-- ---- states

-- The example after its first k events, and its rank i.
unfoldable pub later : ℕ → State
later k = (stepping (event_at three) k 0 (fresh_state flat 3 flat_form 1) []).state

unfoldable pub seen : ℕ → ℕ → Rank
seen k i = rank_at (later k) i

-- Event k of the example is accepted.
unfoldable pub goes : ℕ → Bool
goes k = eqb (stepped flat (later k) (event_at three k)).answer 0

unfoldable pub one : State
one = (started flat 1 flat_form 1).state

unfoldable pub two : State
two = (started flat 2 flat_form 1).state

-- rank 1 of two has entered, and its UP is in flight; it has crashed; rank 0 is told of it
unfoldable pub reporting : State
reporting = (event flat two (event_of 1 1 5)).state

unfoldable pub widowed : State
widowed = (event flat reporting (event_of 3 1 0)).state

unfoldable pub informed : State
informed = (event flat widowed (event_of 4 0 1)).state

-- nobody lives; and 128 messages are in flight
unfoldable pub extinct : State
extinct = joined (record { n = 1; form = flat_form; span = 1; count = 0; dead = 1; ranks = one.group.ranks; net = one.group.net }) one.tables

unfoldable pub crowded : State
crowded =
    joined
    (record {
      n = 2;
      form = flat_form;
      span = 1;
      count = in_flight;
      dead = 0;
      ranks = two.group.ranks;
      net = replicate in_flight (record { kind = 1; from = 1; to = 0; triple = zero_triple });
    })
    two.tables

-- Rank 2 of four, and rank 3 of five: it has reported, every rank below it has crashed, and it is told of them one after the other, until it is
-- the root and asks the last rank, which knows no death.
unfoldable pub four : State
four = (stepping (event_at (file 4 (then 1 2 7 (then 3 0 0 (then 3 1 0 (then 4 2 0 (then 4 2 1 []))))))) 5 0 (fresh_state flat 4 flat_form 1) []).state

unfoldable pub five : State
five =
    (stepping (event_at (file 5 (then 1 3 7 (then 3 0 0 (then 3 1 0 (then 3 2 0 (then 4 3 0 (then 4 3 1 (then 4 3 2 []))))))))) 7 0 (fresh_state flat 5 flat_form 1) []).state

-- An event is accepted, and moves these ranks, counted so often.
unfoldable pub moves_these : Stepped → ℕ → ℕ → Bool
moves_these r ranks count = eqb r.answer 0 && tallies r.moved ranks count

-- An event is refused with this number, sends nothing and moves nothing. That the state is unchanged is a theorem of every refused event.
unfoldable pub refuses : Stepped → ℕ → Bool
refuses r number = eqb r.answer number && eqb r.sent 0 && tallies r.moved 0 0

-- A run is refused with this number, gives a group of none and leaves the slice as found.
unfoldable pub leaves : Run → ℕ → List ℕ → Bool
leaves r number out = eqb r.answer number && eqb r.state.group.n 0 && same r.answers out

unfoldable pub witnesses : List Bool
witnesses =
    -- 1: a start, and an event on what it gives
    eqb (started flat 0 flat_form 1).answer 1 ∷ eqb (started flat 65 flat_form 1).answer 1 ∷ refuses (event flat (started flat 65 flat_form 1).state (event_of 1 0 0)) 1
    -- 2: nobody lives
    ∷ refuses (event flat extinct (event_of 1 0 0)) 2
    -- 3: no such kind; a delivery and an acknowledgement with b
    ∷ refuses (event flat two (event_of 7 0 0)) 3
    ∷ refuses (event flat reporting (event_of 2 0 1)) 3
    ∷ refuses (event flat two (event_of 6 0 1)) 3
    -- 4: who enters; who is dead; who acknowledges
    ∷ refuses (event flat two (event_of 1 2 0)) 4
    ∷ refuses (event flat two (event_of 4 0 2)) 4
    ∷ refuses (event flat two (event_of 6 2 0)) 4
    -- 5 and 6
    ∷ refuses (event flat two (event_of 2 0 0)) 5
    ∷ refuses (event flat widowed (event_of 1 1 0)) 6
    ∷ refuses (event flat widowed (event_of 6 1 0)) 6
    -- 7 to 11
    ∷ refuses (event flat reporting (event_of 1 1 5)) 7
    ∷ refuses (event flat reporting (event_of 6 1 0)) 7
    ∷ refuses (event flat two (event_of 4 0 1)) 8
    ∷ refuses (event flat one (event_of 3 0 0)) 9
    ∷ refuses (event flat reporting (event_of 5 0 0)) 10
    ∷ refuses (event flat crowded (event_of 1 1 0)) 11
    -- a run: a bad header, and 25
    ∷ leaves (run [] (7 ∷ [])) 20 (7 ∷ [])
    ∷ leaves (run (file 1 (then 1 0 9 [])) (7 ∷ 7 ∷ [])) 25 (7 ∷ 7 ∷ [])
    -- Enter, with settle: rank 2 reports and waits.
    ∷ (goes 0 && eqb (seen 1 2).phase 2)
    -- UP: rank 1 has heard rank 2, and owes it.
    ∷ (goes 3 && has (seen 4 1).heard 2 && has (seen 4 1).owed 2)
    -- Decide: the root has heard its child, and settles on 4.
    ∷ (goes 4 && eqb (seen 5 0).phase 3 && eqb (seen 5 0).result.word 4)
    -- A crash: rank 0 is dead.
    ∷ (goes 5 && has (later 6).group.dead 0)
    -- Notice: rank 1 marks its parent, becomes root and gathers again.
    ∷ (goes 6 && has (seen 7 1).marks 0 && eqb (seen 7 1).phase 1)
    -- A message from a marked sender is dropped: rank 1 goes on gathering.
    ∷ (goes 7 && eqb (seen 8 1).phase 1)
    -- ASK: rank 2 marks rank 0, owes rank 1, and reports to it.
    ∷ (goes 8 && has (seen 9 2).marks 0 && has (seen 9 2).owed 1 && eqb (seen 9 2).phase 2)
    -- moved of a notice: in rank 1's view of three, and in rank 2's by the ASK, rank 1 moves.
    ∷ (moves_these (stepped flat (later 6) (event_at three 6)) 0b10 1 && moves_these (stepped flat (later 8) (event_at three 8)) 0b10 1)
    -- moved of an ASK, the union over its marks: of 1, then 2 and 3, though the second mark marks 1.
    ∷ (moves_these (event flat four (event_of 2 1 0)) 0b1110 3 && has (rank_at (event flat four (event_of 2 1 0)).state 3).marks 1)
    -- and the sum over its marks: 1, then 2 and 3, then 3 and 4, so 3 counts twice.
    ∷ moves_these (event flat five (event_of 2 2 0)) 0b11110 5
    -- DOWN: rank 2 decides 6.
    ∷ (goes 10 && eqb (seen 11 2).phase 3 && eqb (seen 11 2).result.word 6)
    -- Acknowledge: the death that rank 0 was told of.
    ∷ (eqb (event flat informed (event_of 6 0 0)).answer 0 && has (rank_at (event flat informed (event_of 6 0 0)).state 0).acknowledged 1)
    -- A lost message.
    ∷ eqb (event flat widowed (event_of 5 0 0)).answer 0
    -- The whole example prints its listing.
    ∷ same (report three (replicate 36 0)) three_listing
    ∷ []
