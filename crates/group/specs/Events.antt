-- The group and its events: what carrying a plan out does to the state, and an event on any state handed in. Over any ancestor sets.
use Rattle.std.specs.Prelude.{ℕ, ◌+◌, cond, List, ◌++◌, eqb, set, Result, Ok, Err}
use Rattle.sets.specs.Sets.{add}
use Rattle.answers.specs.Answers.{number}
use Rattle.answers.specs.Refusals.{accepted, bad_size, not_in_order}
use Rattle.tree.specs.declared.Moved.{Moved}
use Rattle.tree.specs.Tree.{nobody}
use Rattle.tree.specs.Calls.{wrong_size}
use Rattle.rank.specs.declared.Message.{Message}
use Rattle.rank.specs.Sends.{letters, size}
use Rattle.net.specs.Net.{without, placed}
use Rattle.events.specs.declared.Event.{Event}
use Rattle.state.specs.declared.State.{State}
use Rattle.state.specs.declared.Refused.{Refused}
use Rattle.state.specs.States.{joined, rank_at, row_at, place_at, flying}
use Rattle.order.specs.Order.{in_order}
use Rattle.plans.specs.Plans.{Planned, subject, planned}
use Rattle.group.specs.declared.Stepped as Declared

-- The list once a message has left and the sends have joined at the end.
unfoldable pub posted : List Message → ℕ → ℕ → Planned → List Message
posted l place me p = (cond p.leaves (without place l) l ++ letters me p.acted.first) ++ letters me p.acted.second

-- Carrying a plan out: one rank's record and row, the dead set and the list; and nothing else.
unfoldable pub applied : State → ℕ → ℕ → Planned → State
applied s place me p =
    joined
    (record { n = s.group.n; form = s.group.form; span = s.group.span; count = (placed (posted (flying s) place me p)).count; dead = cond p.dies (add s.group.dead me) s.group.dead; ranks = set s.group.ranks me p.acted.rank; net = (placed (posted (flying s) place me p)).net })
    (set s.tables me p.acted.row)

-- What an event answers: a number, how many messages were sent, which ranks moved, and the state.
pub record Stepped : Type 0 where
  pub answer : ℕ
  pub sent : ℕ
  pub moved : Moved
  pub state : State

-- A refused event gives sent 0, moved 0, of nobody, and the state unchanged in every field.
abbrev pub refused : ℕ → State → Stepped
refused number s = record { answer = number; sent = 0; moved = nobody; state = s }

-- What is told of each reply.
abbrev pub told : Result Declared.Stepped Refused → Stepped
told (Ok r) = record { answer = accepted; sent = r.sent; moved = r.moved; state = r.state }
told (Err r) = refused (number r.refusal) r.state

unfoldable pub carried : State → ℕ → ℕ → Planned → Stepped
carried s place me p =
    cond (eqb p.answer accepted)
    (record { answer = accepted; sent = size p.acted.first + size p.acted.second; moved = p.acted.moved; state = applied s place me p })
    (refused p.answer s)

-- The rank of an event on a state, and its plan.
unfoldable pub subject_of : State → Event → ℕ
subject_of s ev = subject s.group.n ev (place_at s ev.a)

unfoldable pub plan_of : (ℕ → ℕ) → State → Event → Planned
plan_of anc s ev =
    planned anc s.group.n s.group.dead s.group.count ev (place_at s ev.a) (subject_of s ev)
    (rank_at s (subject_of s ev)) (row_at s (subject_of s ev))

-- The step of an event on a state in order.
unfoldable pub stepped : (ℕ → ℕ) → State → Event → Stepped
stepped anc s ev = carried s ev.a (subject_of s ev) (plan_of anc s ev)

-- An event on a state handed in: the size (1), then the order (2), then the step.
unfoldable pub event : (ℕ → ℕ) → State → Event → Stepped
event anc s ev =
    cond (wrong_size s.group.n) (refused bad_size s)
    (cond (in_order anc s) (stepped anc s ev)
    (refused not_in_order s))
