-- An event along its code: the size, then the order, then the step. Assumes nothing.
use mathlib.Core.Path.{◌≡◌, refl, sym, ap, ap₂, ◌∙◌}
use mathlib.Core.Bool.{Bool, true, false}
use mathlib.Core.Logic.{◌⊎◌, inl, inr}
use Prim.Native.Nat.{ℕ}
use lib.Dec.{eqb}
use Rattle.sets.proofs.Laws.Bools.{passes_or_fails}
use Rattle.tree.specs.Tree.{nobody}
use Rattle.tree.specs.Calls.{wrong_size}
use Rattle.tree.proofs.Laws.Calls.{size_none, size_right}
use Rattle.events.specs.declared.Event.{Event}
use Rattle.state.specs.declared.State.{State}
use Rattle.state.specs.Starting.{started}
use Rattle.state.proofs.Laws.Starting.{started_none, empty_size, not_accepted}
use Rattle.order.specs.Order.{in_order}
use Rattle.order.specs.Between.{Shaped, InOrder}
use Rattle.order.proofs.Laws.Ordering.{in_order_facts}
use Rattle.std.specs.Prelude.{Result, Ok, Err}
use Rattle.answers.specs.declared.Refusal.{Refusal}
use Rattle.answers.specs.Answers.{number}
use Rattle.answers.proofs.Laws.Numbers.{number-one_to_one}
use Rattle.tree.specs.declared.Moved.{Moved}
use Rattle.state.specs.declared.Refused.{Refused}
use Rattle.group.specs.declared.Stepped as Declared
use Rattle.group.specs.Events.{told, Stepped, applied, refused, carried, subject_of, plan_of, stepped, event}
use Rattle.group.proofs.Laws.Stepping.{step-applied}

-- ---- an event on a state handed in

pub event_wrong_size : (anc : ℕ → ℕ) (s : State) (ev : Event) (t : Bool) (r : Stepped) → t ≡ wrong_size s.group.n → t ≡ true → r ≡ refused 1 s → r ≡ event anc s ev
unfolding event
event_wrong_size anc s ev t r e f g = g ∙ rw (sym e ∙ f)

pub event_disordered : (anc : ℕ → ℕ) (s : State) (ev : Event) (t o : Bool) (r : Stepped) → t ≡ wrong_size s.group.n → t ≡ false → o ≡ in_order anc s → o ≡ false → r ≡ refused 2 s → r ≡ event anc s ev
unfolding event
event_disordered anc s ev t o r e f g h i = i ∙ rw (sym e ∙ f, sym g ∙ h)

pub event_steps : (anc : ℕ → ℕ) (s : State) (ev : Event) (t o : Bool) (r : Stepped) → t ≡ wrong_size s.group.n → t ≡ false → o ≡ in_order anc s → o ≡ true → r ≡ stepped anc s ev → r ≡ event anc s ev
unfolding event
event_steps anc s ev t o r e f g h i = i ∙ rw (sym e ∙ f, sym g ∙ h)

pub in_order_from : (anc : ℕ → ℕ) (s : State) (o : Bool) → o ≡ in_order anc s → o ≡ true → (o ≡ true → Shaped s) → InOrder anc s
in_order_from anc s o e h f = record { shaped = f h; tested = sym e ∙ h }

-- On a state in order an event is the step.
pub event_steps_on : (anc : ℕ → ℕ) (s : State) (ev : Event) → InOrder anc s → event anc s ev ≡ stepped anc s ev
unfolding event
event_steps_on anc s ev o =
    let f = in_order_facts anc s o in
    rw (size_right s.group.n f.shape.some f.shape.small, o.tested)

-- So an accepted event is an accepted step, and carries its plan out.
pub event-accepted : (anc : ℕ → ℕ) (s : State) (ev : Event) → InOrder anc s → (event anc s ev).answer ≡ 0 → (stepped anc s ev).answer ≡ 0
event-accepted anc s ev o z = sym (ap (λ (x : Stepped). x.answer) (event_steps_on anc s ev o)) ∙ z

pub event-applied : (anc : ℕ → ℕ) (s : State) (ev : Event) → InOrder anc s → (event anc s ev).answer ≡ 0 → (event anc s ev).state ≡ applied s ev.a (subject_of s ev) (plan_of anc s ev)
event-applied anc s ev o z = ap (λ (x : Stepped). x.state) (event_steps_on anc s ev o) ∙ step-applied anc s ev (event-accepted anc s ev o z)

-- ---- refused events

-- A refused start gives a group of size 0, and so refuses every event with 1.
pub event_on_none : (anc : ℕ → ℕ) (n form span : ℕ) (along : ℕ → ℕ) (ev : Event) → ((started anc n form span).answer ≡ 0 → ⊥) → event along (started anc n form span).state ev ≡ refused 1 (started anc n form span).state
event_on_none anc n form span along ev d = sym (event_wrong_size along (started anc n form span).state ev true _ (sym (ap wrong_size (ap (λ (x : State). x.group.n) (started_none anc n form span d) ∙ empty_size) ∙ size_none)) refl refl)

-- What a refusal is: the number, sent 0, moved 0, and the state.
pub refused_says : (number : ℕ) (s : State) → refused number s ≡ record { answer = number; sent = 0; moved = nobody; state = s }
refused_says number s = refl

-- A refused event hands the state back.
pub event-refused : (anc : ℕ → ℕ) (s : State) (ev : Event) → ((event anc s ev).answer ≡ 0 → ⊥) → event anc s ev ≡ refused (event anc s ev).answer s
unfolding event stepped carried
event-refused anc s ev d = size (passes_or_fails (wrong_size s.group.n))
  where
    step : wrong_size s.group.n ≡ false → in_order anc s ≡ true → (eqb (plan_of anc s ev).answer 0 ≡ true) ⊎ (eqb (plan_of anc s ev).answer 0 ≡ false) → event anc s ev ≡ refused (event anc s ev).answer s
    step t u (inl v) = absurd (d (rw (t, u, v)))
    step t u (inr v) = rw (t, u, v)

    order : wrong_size s.group.n ≡ false → (in_order anc s ≡ true) ⊎ (in_order anc s ≡ false) → event anc s ev ≡ refused (event anc s ev).answer s
    order t (inl u) = step t u (passes_or_fails (eqb (plan_of anc s ev).answer 0))
    order t (inr u) = rw (t, u)

    size : (wrong_size s.group.n ≡ true) ⊎ (wrong_size s.group.n ≡ false) → event anc s ev ≡ refused (event anc s ev).answer s
    size (inl t) = rw t
    size (inr t) = order t (passes_or_fails (in_order anc s))

pub refused_stays : (anc : ℕ → ℕ) (s : State) (ev : Event) → ((event anc s ev).answer ≡ 0 → ⊥) → (event anc s ev).state ≡ s
refused_stays anc s ev d = ap (λ (x : Stepped). x.state) (event-refused anc s ev d)

-- ---- replies

-- A reply is known by what is told of it.
pub told_alike : (a b : Result Declared.Stepped Refused) → told a ≡ told b → a ≡ b
told_alike (Ok a) (Ok b) e =
    ap₂ {C = Result Declared.Stepped Refused} (λ (x : ℕ × Moved) (y : State). Ok (record { sent = x.0; moved = x.1; state = y })) (ap (λ (x : Stepped). (x.sent, x.moved)) e) (ap (λ (x : Stepped). x.state) e)
told_alike (Ok a) (Err r) e = absurd (not_accepted r.refusal (sym (ap (λ (x : Stepped). x.answer) e)))
told_alike (Err r) (Ok b) e = absurd (not_accepted r.refusal (ap (λ (x : Stepped). x.answer) e))
told_alike (Err r) (Err q) e =
    let f : r.refusal ≡ q.refusal = number-one_to_one r.refusal q.refusal (ap (λ (x : Stepped). x.answer) e) in
    ap₂ {C = Result Declared.Stepped Refused} (λ (x : Refusal) (y : State). Err (record { refusal = x; state = y })) f (ap (λ (x : Stepped). x.state) e)
