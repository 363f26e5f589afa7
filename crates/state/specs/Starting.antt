-- Start: an accepted start gives n fresh ranks, all living, with nothing in flight. A refused start gives a group of size 0 with every other
-- field and every table entry 0.
use Rattle.std.specs.Prelude.{ℕ, cond, List, eqb, ltb, replicate, Result, Ok, Err}
use Rattle.sets.specs.Sets.{none}
use Rattle.answers.specs.Answers.{number}
use Rattle.answers.specs.Refusals.{accepted}
use Rattle.tree.specs.Tree.{row, fresh}
use Rattle.calls.specs.Calls.{misshapen}
use Rattle.rank.specs.declared.Rank.{Rank}
use Rattle.rank.specs.Records.{fresh_rank}
use Rattle.net.specs.Net.{in_flight, zero_message}
use Rattle.state.specs.declared.State.{State}
use Rattle.state.specs.declared.Refused.{Refused}
use Rattle.state.specs.States.{zero_rank, joined}

-- Each rank's record and row at the start: fresh below n, zero and all 255 from n on.
unfoldable pub first_rank : (ℕ → ℕ) → ℕ → ℕ → Rank
first_rank anc n i = cond (ltb i n) (fresh_rank anc n i) zero_rank

unfoldable pub first_row : (ℕ → ℕ) → ℕ → ℕ → List ℕ
first_row anc n i = cond (ltb i n) (fresh anc n 0) (replicate 64 none)

-- The group record keeps the form and the box size that the ancestor sets are of.
unfoldable pub fresh_state : (ℕ → ℕ) → ℕ → ℕ → ℕ → State
fresh_state anc n form span =
    joined (record { n = n; form = form; span = span; count = 0; dead = 0; ranks = row (first_rank anc n) 64; net = replicate in_flight zero_message })
    (row (first_row anc n) 64)

unfoldable pub empty_state : State
empty_state =
    joined (record { n = 0; form = 0; span = 0; count = 0; dead = 0; ranks = replicate 64 zero_rank; net = replicate in_flight zero_message })
    (replicate 64 (replicate 64 0))

-- What a start answers: a number, and the state.
pub record Started : Type 0 where
  pub answer : ℕ
  pub state : State

-- The number and the state of each reply.
abbrev pub told : Result State Refused → Started
told (Ok s) = record { answer = accepted; state = s }
told (Err r) = record { answer = number r.refusal; state = r.state }

-- Refused with 1, 50 or 51.
unfoldable pub started : (ℕ → ℕ) → ℕ → ℕ → ℕ → Started
started anc n form span =
    cond (eqb (misshapen n form span) accepted)
    (record { answer = accepted; state = fresh_state anc n form span })
    (record { answer = misshapen n form span; state = empty_state })
