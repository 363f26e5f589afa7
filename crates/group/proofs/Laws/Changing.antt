-- What an accepted event on a state in order changes: the record and the row of the rank that it names, the dead, and the list. Over any
-- ancestor sets. Assumes nothing.
use mathlib.Core.Path.{◌≡◌, refl, sym, ap, ap₂, subst, ◌∙◌}
use mathlib.Core.Bool.{Bool, true, false, cond}
use mathlib.Core.List.{◌++◌, append_assoc}
use mathlib.Core.Logic.{inl, inr}
use Prim.Native.Nat.{ℕ, ◌+◌}
use lib.Dec.{eqb}
use lib.ListN.{length, length-append}
use borrow.Author.Tests.{eqb-true, eq-eqb}
use Rattle.sets.specs.Sets.{add}
use Rattle.sets.proofs.Laws.Bools.{cond_true, cond_false}
use Rattle.rank.specs.declared.Acted.{Acted}
use Rattle.rank.specs.Sends.{letters, size}
use Rattle.rank.proofs.Laws.Letters.{length-letters}
use Rattle.net.specs.Net.{without}
use Rattle.net.proofs.Laws.Net.{padded-take}
use Rattle.events.specs.declared.Event.{Event}
use Rattle.events.specs.Events.{names_place}
use Rattle.events.proofs.Laws.Naming.{names_a_rank}
use Rattle.refusals.proofs.Laws.Refusing.{clean_rank, clean_names}
use Rattle.state.specs.declared.State.{State}
use Rattle.state.specs.States.{rank_at, row_at, place_at, flying}
use Rattle.order.specs.Between.{InOrder}
use Rattle.order.proofs.Laws.Ordering.{in_order_facts}
use Rattle.plans.specs.Plans.{Planned, acting}
use Rattle.group.specs.Events.{Stepped, posted, applied, carried, subject_of, plan_of, stepped, event}
use Rattle.group.specs.Changes.{named, doing, sends}
use Rattle.group.proofs.Laws.Stepping.{Taken, step_plan, step_taken, subject-named, subject_receives}
use Rattle.group.proofs.Laws.Events.{event_steps_on, event-accepted, event-applied}
use Rattle.group.proofs.Laws.Knowing.{acting_on, step_acts, step_row}

-- what a step answers besides its state
step_sent : (anc : ℕ → ℕ) (s : State) (ev : Event) → (stepped anc s ev).answer ≡ 0 → (stepped anc s ev).sent ≡ size (plan_of anc s ev).acted.first + size (plan_of anc s ev).acted.second
unfolding stepped carried
step_sent anc s ev z = rw (eq-eqb (plan_of anc s ev).answer 0 (step_plan anc s ev z))

step-moved : (anc : ℕ → ℕ) (s : State) (ev : Event) → (stepped anc s ev).answer ≡ 0 → (stepped anc s ev).moved ≡ (plan_of anc s ev).acted.moved
unfolding stepped carried
step-moved anc s ev z = rw (eq-eqb (plan_of anc s ev).answer 0 (step_plan anc s ev z))

applied-flying : (s : State) (place me : ℕ) (p : Planned) → flying (applied s place me p) ≡ posted (flying s) place me p
unfolding applied
applied-flying s place me p = padded-take (posted (flying s) place me p)

-- a kind that names a place is about a receiver, any other about rank a
pub named-rank : (s : State) (ev : Event) → names_place ev.kind ≡ false → named s ev ≡ ev.a
unfolding named
named-rank s ev t = cond_false (names_place ev.kind) (place_at s ev.a).to ev.a t

pub named_receiver : (s : State) (ev : Event) → names_place ev.kind ≡ true → named s ev ≡ (place_at s ev.a).to
unfolding named
named_receiver s ev t = cond_true (names_place ev.kind) (place_at s ev.a).to ev.a t

module _ (anc : ℕ → ℕ) (s : State) (o : InOrder anc s) (ev : Event) (z : (event anc s ev).answer ≡ 0) where
  steps : event anc s ev ≡ stepped anc s ev
  steps = event_steps_on anc s ev o

  goes : (stepped anc s ev).answer ≡ 0
  goes = event-accepted anc s ev o z

  taken : Taken anc s ev (plan_of anc s ev)
  taken = step_taken anc s ev goes

  -- ---- the rank that it names

  pub subject_is : subject_of s ev ≡ named s ev
  unfolding named
  subject_is = go (names_place ev.kind) refl
    where
      go : (t : Bool) → names_place ev.kind ≡ t → subject_of s ev ≡ cond t (place_at s ev.a).to ev.a
      go true e = subject_receives s ev e
      go false e = subject-named s ev e (clean_rank _ _ _ _ _ _ taken.clean (clean_names _ _ _ _ _ _ taken.clean e)).0

  doing_is : acting_on anc s ev ≡ doing anc s ev
  unfolding doing
  doing_is = ap (λ (p : ℕ). acting anc s.group.n s.group.dead ev (place_at s ev.a) p (rank_at s p) (row_at s p)) subject_is

  acts : (plan_of anc s ev).acted ≡ doing anc s ev
  acts = taken.acted_is ∙ doing_is

  pub moved_is : (event anc s ev).moved ≡ (doing anc s ev).moved
  moved_is = ap (λ (x : Stepped). x.moved) steps ∙ step-moved anc s ev goes ∙ ap (λ (x : Acted). x.moved) acts

  pub record_is : rank_at (event anc s ev).state (named s ev) ≡ (doing anc s ev).rank
  record_is =
      subst (λ (i : ℕ). rank_at (event anc s ev).state i ≡ (doing anc s ev).rank) subject_is
      (ap (λ (x : Stepped). rank_at x.state (subject_of s ev)) steps ∙ step_acts anc s ev (in_order_facts anc s o) goes ∙ ap (λ (x : Acted). x.rank) doing_is)

  pub row_is : row_at (event anc s ev).state (named s ev) ≡ (doing anc s ev).row
  row_is =
      subst (λ (i : ℕ). row_at (event anc s ev).state i ≡ (doing anc s ev).row) subject_is
      (ap (λ (x : Stepped). row_at x.state (subject_of s ev)) steps ∙ step_row anc s ev (in_order_facts anc s o) goes ∙ ap (λ (x : Acted). x.row) doing_is)

  -- ---- the dead

  pub dead_is : (event anc s ev).state.group.dead ≡ cond (eqb ev.kind 3) (add s.group.dead ev.a) s.group.dead
  unfolding applied
  dead_is = ap (λ (x : State). x.group.dead) (event-applied anc s ev o z) ∙ ap (λ (t : Bool). cond t (add s.group.dead (subject_of s ev)) s.group.dead) taken.dies_is ∙ go (eqb ev.kind 3) refl
    where
      go : (t : Bool) → eqb ev.kind 3 ≡ t → cond t (add s.group.dead (subject_of s ev)) s.group.dead ≡ cond t (add s.group.dead ev.a) s.group.dead
      go true e =
          let t = names_a_rank ev.kind (inr (inl (eqb-true ev.kind 3 e))) in
          ap (add s.group.dead) (subject-named s ev t.1 (clean_rank _ _ _ _ _ _ taken.clean t.0).0)
      go false e = refl

  -- ---- the list

  pub flying_is : flying (event anc s ev).state ≡ cond (names_place ev.kind) (without ev.a (flying s)) (flying s) ++ sends anc s ev
  unfolding posted sends
  flying_is =
      ap flying (event-applied anc s ev o z) ∙ applied-flying s ev.a (subject_of s ev) (plan_of anc s ev)
      ∙ append_assoc (cond (plan_of anc s ev).leaves (without ev.a (flying s)) (flying s)) (letters (subject_of s ev) (plan_of anc s ev).acted.first) (letters (subject_of s ev) (plan_of anc s ev).acted.second)
      ∙ rw (taken.leaves_is, subject_is, acts)

  pub sent_is : (event anc s ev).sent ≡ length (sends anc s ev)
  unfolding sends
  sent_is =
      ap (λ (x : Stepped). x.sent) steps ∙ step_sent anc s ev goes
      ∙ ap (λ (x : Acted). size x.first + size x.second) acts
      ∙ sym (length-append (letters (named s ev) (doing anc s ev).first) (letters (named s ev) (doing anc s ev).second) ∙ ap₂ (λ (x y : ℕ). x + y) (length-letters (named s ev) (doing anc s ev).first) (length-letters (named s ev) (doing anc s ev).second))
