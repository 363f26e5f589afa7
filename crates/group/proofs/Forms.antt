-- Request 2026-09: calls go by the form that their state has. A run of the calls is a run along that form's ancestor sets, and with form 0 it
-- goes alike for every box size. Assumes nothing.
use mathlib.Core.Path.{◌≡◌, refl, sym, ap, ap₂, subst, ◌∙◌}
use mathlib.Core.Bool.{Bool, true, false, cond}
use Prim.Native.Nat.{ℕ, ◌+◌}
use lib.Dec.{eqb}
use Rattle.tree.specs.Tree.{flat}
use Rattle.tree.specs.Forms.{tree_of, flat_form}
use Rattle.answers.specs.Refusals.{accepted}
use Rattle.tree.specs.Calls.{wrong_size}
use Rattle.calls.specs.Calls.{misshapen}
use Rattle.tree.proofs.Laws.Forms.{flat_form_lem}
use Rattle.tree.proofs.Laws.Calls.{size_pos, size-le, size_right}
use Rattle.calls.proofs.Laws.Shapes.{Shapely, shapely, shape_right, both_right}
use Rattle.rank.specs.Sends.{size}
use Rattle.events.specs.declared.Event.{Event}
use Rattle.plans.specs.Plans.{Planned}
use Rattle.state.specs.declared.State.{State}
use Rattle.state.specs.States.{own_tree, with_box}
use Rattle.state.specs.Starting.{fresh_state, started}
use Rattle.state.proofs.Laws.Starting.{started-fresh, started-small, fresh_form, fresh_span, fresh_alike}
use Rattle.order.specs.Order.{in_order}
use Rattle.order.proofs.Laws.Ordering.{in_order_facts, in_order_alike}
use Rattle.group.specs.Events.{Stepped, applied, refused, carried, subject_of, plan_of, stepped, event}
use Rattle.group.specs.Reaching.{Reaches, begun, next, Runs, starts, goes, SameForm, reboxed}
use Rattle.group.proofs.Laws.Reached.{reached_in_order}

-- ---- form and box size stay

-- An event on any state, accepted or not, leaves its form and its box size.
pub an_event_keeps_the_form : (anc : ℕ → ℕ) (s : State) (ev : Event) → SameForm (event anc s ev).state s
unfolding event stepped carried applied
an_event_keeps_the_form anc s ev = sized (wrong_size s.group.n)
  where
    p : Planned
    p = plan_of anc s ev

    taken : (b : Bool) → SameForm (cond {A = Stepped} b (record { answer = accepted; sent = size p.acted.first + size p.acted.second; moved = p.acted.moved; state = applied s ev.a (subject_of s ev) p }) (refused p.answer s)).state s
    taken true = (refl, refl)
    taken false = (refl, refl)

    ordered : (b : Bool) → SameForm (cond b (stepped anc s ev) (refused 2 s)).state s
    ordered true = taken (eqb p.answer accepted)
    ordered false = (refl, refl)

    sized : (b : Bool) → SameForm (cond b (refused 1 s) (cond (in_order anc s) (stepped anc s ev) (refused 2 s))).state s
    sized true = (refl, refl)
    sized false = ordered (in_order anc s)

-- So a run of the calls has one form and one box size, and is a run along that form's ancestor sets.
pub the_form_stays : (n form span : ℕ) (s : State) → Runs n form span s → (s.group.form ≡ form) × (s.group.span ≡ span)
the_form_stays n form span s (starts z) =
    let e = (started-fresh (tree_of form span) n form span z).1 in
    (ap (λ (x : State). x.group.form) e ∙ fresh_form (tree_of form span) n form span, ap (λ (x : State). x.group.span) e ∙ fresh_span (tree_of form span) n form span)
the_form_stays n form span s (goes s' ev run z) =
    let kept = an_event_keeps_the_form (own_tree s') s' ev in
    let known = the_form_stays n form span s' run in
    (kept.0 ∙ known.0, kept.1 ∙ known.1)

pub own_tree_lem : (n form span : ℕ) (s : State) → Runs n form span s → own_tree s ≡ tree_of form span
own_tree_lem n form span s run = let e = the_form_stays n form span s run in ap₂ tree_of e.0 e.1

pub the_calls_run_in_their_form : (n form span : ℕ) (s : State) → Runs n form span s → Reaches (tree_of form span) n s
the_calls_run_in_their_form n form span s (starts z) = begun form span z
the_calls_run_in_their_form n form span s (goes s' ev run z) =
    let e = own_tree_lem n form span s' run in
    subst (λ (anc : ℕ → ℕ). Reaches (tree_of form span) n (event anc s' ev).state) (sym e)
    (next s' ev (the_calls_run_in_their_form n form span s' run) (subst (λ (anc : ℕ → ℕ). (event anc s' ev).answer ≡ 0) e z))

-- It is one along its own state's sets, so demand 3 holds of it in its form (`Demands`).
pub the_calls_run_in_their_own : (n form span : ℕ) (s : State) → Runs n form span s → Reaches (own_tree s) n s
the_calls_run_in_their_own n form span s run = subst (λ (anc : ℕ → ℕ). Reaches anc n s) (sym (own_tree_lem n form span s run)) (the_calls_run_in_their_form n form span s run)

-- ---- the flat form ignores box size

module _ (anc : ℕ → ℕ) (s : State) (ev : Event) (y : ℕ) (alike : misshapen s.group.n s.group.form y ≡ misshapen s.group.n s.group.form s.group.span) where
  p : Planned
  p = plan_of anc s ev

  taken : (b : Bool) → cond {A = Stepped} b (record { answer = accepted; sent = size p.acted.first + size p.acted.second; moved = p.acted.moved; state = applied (with_box y s) ev.a (subject_of s ev) p }) (refused p.answer (with_box y s))
      ≡ reboxed y (cond b (record { answer = accepted; sent = size p.acted.first + size p.acted.second; moved = p.acted.moved; state = applied s ev.a (subject_of s ev) p }) (refused p.answer s))
  unfolding applied
  taken true = refl
  taken false = refl

  step_alike : stepped anc (with_box y s) ev ≡ reboxed y (stepped anc s ev)
  unfolding stepped carried plan_of subject_of p
  step_alike = taken (eqb p.answer accepted)

  ordered : (b : Bool) → cond b (stepped anc (with_box y s) ev) (refused 2 (with_box y s)) ≡ reboxed y (cond b (stepped anc s ev) (refused 2 s))
  ordered true = step_alike
  ordered false = refl

  sized : (b : Bool) → cond b (refused 1 (with_box y s)) (cond (in_order anc s) (stepped anc (with_box y s) ev) (refused 2 (with_box y s))) ≡ reboxed y (cond b (refused 1 s) (cond (in_order anc s) (stepped anc s ev) (refused 2 s)))
  sized true = refl
  sized false = ordered (in_order anc s)

  event_alike : event anc (with_box y s) ev ≡ reboxed y (event anc s ev)
  unfolding event
  event_alike = rw (in_order_alike anc s y alike) (sized (wrong_size s.group.n))

own-flat : (s : State) → s.group.form ≡ flat_form → own_tree s ≡ flat
own-flat s e = ap (λ (f : ℕ). tree_of f s.group.span) e ∙ flat_form_lem s.group.span

-- An event on a state of form 0 does the same for every right box size.
pub an_event_ignores_box_size : (s : State) (ev : Event) (y : ℕ) → s.group.form ≡ flat_form → wrong_size s.group.span ≡ false → wrong_size y ≡ false
    → event (own_tree (with_box y s)) (with_box y s) ev ≡ reboxed y (event (own_tree s) s ev)
an_event_ignores_box_size s ev y e right other = rw (own-flat (with_box y s) e, own-flat s e) (event_alike flat s ev y (both_right s.group.n s.group.form s.group.span y right other))

-- So does an accepted start with form 0, and every run of the calls from it.
pub a_flat_run_ignores_box_size : (n x y : ℕ) (s : State) → wrong_size y ≡ false → Runs n flat_form x s → Runs n flat_form y (with_box y s)
a_flat_run_ignores_box_size n x y s other (starts z) = subst (Runs n flat_form y) (fresh.1 ∙ fresh_alike n x y ∙ ap (with_box y) (sym known.1)) (starts fresh.0)
  where
    known : (misshapen n flat_form x ≡ 0) × ((started (tree_of flat_form x) n flat_form x).state ≡ fresh_state (tree_of flat_form x) n flat_form x)
    known = started-fresh (tree_of flat_form x) n flat_form x z

    right : Shapely n flat_form y
    right = let k = shapely n flat_form x known.0 in record { some = k.some; small = k.small; boxed = size_pos y other; box_small = size-le y (wrong_size y) refl other; known = k.known }

    fresh : ((started (tree_of flat_form y) n flat_form y).answer ≡ 0) × ((started (tree_of flat_form y) n flat_form y).state ≡ fresh_state (tree_of flat_form y) n flat_form y)
    fresh = started-small (tree_of flat_form y) n flat_form y (shape_right n flat_form y right)
a_flat_run_ignores_box_size n x y s other (goes s' ev run z) =
    subst (λ (r : Stepped). r.answer ≡ 0 → Runs n flat_form y r.state) alike (goes (with_box y s') ev (a_flat_run_ignores_box_size n x y s' other run)) z
  where
    right : Shapely s'.group.n s'.group.form s'.group.span
    right = (in_order_facts (tree_of flat_form x) s' (reached_in_order (tree_of flat_form x) n s' (the_calls_run_in_their_form n flat_form x s' run))).shape

    alike : event (own_tree (with_box y s')) (with_box y s') ev ≡ reboxed y (event (own_tree s') s' ev)
    alike = an_event_ignores_box_size s' ev y (the_form_stays n flat_form x s' run).0 (size_right s'.group.span right.boxed right.box_small) other
