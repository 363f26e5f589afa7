-- What an accepted step has its rank do. Over any ancestor sets. Assumes nothing.
use mathlib.Core.Path.{◌≡◌, ap, ◌∙◌}
use mathlib.Core.List.{[]}
use Prim.Native.Nat.{ℕ}
use native.Mathlib.Omega.{arith}
use lib.Seq.{get_or-set_same}
use borrow.Author.Tests.{eq-eqb}
use Rattle.rank.specs.declared.Acted.{Acted}
use Rattle.events.specs.declared.Event.{Event}
use Rattle.state.specs.declared.State.{State}
use Rattle.state.specs.States.{zero_rank, rank_at, row_at, place_at}
use Rattle.order.proofs.Facts.{InOrderFacts}
use Rattle.plans.specs.Plans.{acting}
use Rattle.group.specs.Events.{applied, carried, subject_of, plan_of, stepped}
use Rattle.group.proofs.Laws.Stepping.{step_plan, step_taken, subject_in}

-- what an accepted step has its rank do
abbrev pub acting_on : (ℕ → ℕ) → State → Event → Acted
acting_on anc s ev = acting anc s.group.n s.group.dead ev (place_at s ev.a) (subject_of s ev) (rank_at s (subject_of s ev)) (row_at s (subject_of s ev))

-- its record, and its row
pub step_acts : (anc : ℕ → ℕ) (s : State) (ev : Event) → InOrderFacts anc s → (stepped anc s ev).answer ≡ 0 → rank_at (stepped anc s ev).state (subject_of s ev) ≡ (acting_on anc s ev).rank
unfolding stepped carried applied
step_acts anc s ev f z =
    rw (eq-eqb (plan_of anc s ev).answer 0 (step_plan anc s ev z))
    (get_or-set_same s.group.ranks (subject_of s ev) (plan_of anc s ev).acted.rank zero_rank (let x = f.shaped.ranks-long in let y = f.shape.small in omega (arith, subject_in anc s f ev))
    ∙ ap (λ (x : Acted). x.rank) (step_taken anc s ev z).acted_is)

pub step_row : (anc : ℕ → ℕ) (s : State) (ev : Event) → InOrderFacts anc s → (stepped anc s ev).answer ≡ 0 → row_at (stepped anc s ev).state (subject_of s ev) ≡ (acting_on anc s ev).row
unfolding stepped carried applied
step_row anc s ev f z =
    rw (eq-eqb (plan_of anc s ev).answer 0 (step_plan anc s ev z))
    (get_or-set_same s.tables (subject_of s ev) (plan_of anc s ev).acted.row [] (let x = f.shaped.rows_long in let y = f.shape.small in omega (arith, subject_in anc s f ev))
    ∙ ap (λ (x : Acted). x.row) (step_taken anc s ev z).acted_is)
