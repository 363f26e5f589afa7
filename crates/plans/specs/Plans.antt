-- The plan of an event: what it has one rank do, whether its message leaves and its rank dies, or why it is refused. Over any ancestor sets.
use Rattle.std.specs.Prelude.{ℕ, ◌+◌, ◌-◌, Bool, false, cond, ◌||◌, List, eqb, ltb, Result, Ok, Err}
use Rattle.sets.specs.Sets.{has}
use Rattle.answers.specs.Answers.{number}
use Rattle.answers.specs.Refusals.{accepted, too_many}
use Rattle.tree.specs.Tree.{nobody}
use Rattle.rank.specs.declared.Rank.{Rank}
use Rattle.rank.specs.declared.Message.{Message}
use Rattle.rank.specs.declared.Acted.{Acted}
use Rattle.rank.specs.Words.{up, down}
use Rattle.rank.specs.Sends.{silent, size}
use Rattle.rank.specs.Rules.{entering, taking_up, taking_down, taking_ask, noticing, acknowledging}
use Rattle.net.specs.Net.{in_flight}
use Rattle.events.specs.declared.Event.{Event}
use Rattle.events.specs.Events.{enters, delivers, crashes, notices, acknowledges, names_place}
use Rattle.refusals.specs.Refusing.{refusal}
use Rattle.plans.specs.declared.Plan.{Plan}
use Rattle.plans.specs.declared.NotPlanned.{NotPlanned}

-- A rank that does nothing, with its row.
abbrev pub idle : Rank → List ℕ → Acted
idle r row = record { rank = r; row = row; first = silent; second = silent; moved = nobody }

-- The rank that an event is about, always one of the group: the receiver of the message, or rank a.
unfoldable pub subject : ℕ → Event → Message → ℕ
subject n ev m = cond (names_place ev.kind) m.to (cond (ltb ev.a n) ev.a 0)

-- What is planned: the answer, whether the message leaves, whether the rank dies, and what the rank does.
pub record Planned : Type 0 where
  pub answer : ℕ
  pub leaves : Bool
  pub dies : Bool
  pub acted : Acted

-- A refusal plans nothing.
unfoldable pub refusing : ℕ → Rank → List ℕ → Planned
refusing number r row = record { answer = number; leaves = false; dies = false; acted = idle r row }

unfoldable pub accepting : Event → Acted → Planned
accepting ev a = record { answer = accepted; leaves = names_place ev.kind; dies = eqb ev.kind crashes; acted = a }

-- How many are in flight once the message has left and the sends have joined.
unfoldable pub afterwards : ℕ → Event → Acted → ℕ
afterwards count ev a = count + size a.first + size a.second - cond (names_place ev.kind) 1 0

-- 11: over 128 messages would be in flight afterwards.
unfoldable pub fitting : ℕ → Event → Rank → List ℕ → Acted → Planned
fitting count ev r row a = cond (ltb in_flight (afterwards count ev a)) (refusing too_many r row) (accepting ev a)

module _ (anc : ℕ → ℕ) (n dead : ℕ) where
  -- Delivery to a dead rank, or from a sender the receiver has marked, removes the message and does nothing else.
  unfoldable pub delivered : ℕ → Message → Rank → List ℕ → Acted
  delivered me m r row =
      cond (has dead me || has r.marks m.from) (idle r row)
      (cond (eqb m.kind up) (taking_up anc n me m.from m.triple r)
      (cond (eqb m.kind down) (taking_down anc n me m.triple r)
      (taking_ask anc n me m.from r)))

  -- What the event has its rank do. A crash freezes the record, and a lost message is nobody's.
  unfoldable pub acting : Event → Message → ℕ → Rank → List ℕ → Acted
  acting ev m me r row =
      cond (eqb ev.kind enters) (entering anc n me ev.b r)
      (cond (eqb ev.kind delivers) (delivered me m r row)
      (cond (eqb ev.kind notices) (noticing anc n me ev.b r)
      (cond (eqb ev.kind acknowledges) (acknowledging anc n me r)
      (idle r row))))

  unfoldable pub planned : ℕ → Event → Message → ℕ → Rank → List ℕ → Planned
  planned count ev m me r row =
      cond (eqb (refusal n dead count ev r m) accepted)
      (fitting count ev r row (acting ev m me r row))
      (refusing (refusal n dead count ev r m) r row)

-- What a plan, and what an answer with a plan in it, is of these.
abbrev pub as_planned : Plan → Planned
as_planned p = record { answer = accepted; leaves = p.leaves; dies = p.dies; acted = p.acted }

abbrev pub told : Result Plan NotPlanned → Planned
told (Ok p) = as_planned p
told (Err e) = refusing (number e.refusal) e.rank e.row
