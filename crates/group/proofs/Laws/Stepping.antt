-- The step along its code: what a state in order gives the plan and the list, and what carrying a plan out makes of the state.
-- Assumes nothing.
use mathlib.Core.Path.{◌≡◌, refl, sym, ap, subst, ◌∙◌}
use mathlib.Core.Bool.{true, false, cond}
use mathlib.Core.List.{List, [], append-nil}
use mathlib.Core.Logic.{◌⊎◌, inl, inr, ⊎_elim}
use Prim.Native.Nat.{ℕ, ◌+◌, ◌≤◌, ◌<◌}
use native.Mathlib.Omega.{arith}
use lib.Dec.{eqb}
use lib.ListN.{length, get_or, set, take, get_or-eq_default}
use borrow.Author.Tests.{eq-eqb, eqb-true}
use Rattle.sets.specs.Sets.{has, add, count}
use Rattle.sets.proofs.Laws.Bools.{passes_or_fails, lt-or-le}
use Rattle.std.specs.Prelude.{Result, Ok, Err}
use Rattle.answers.specs.declared.Refusal.{Refusal}
use Rattle.answers.specs.Answers.{number}
use Rattle.answers.proofs.Laws.Numbers.{number-not_0}
use Rattle.tree.specs.Tree.{nobody}
use Rattle.rank.specs.declared.Rank.{Rank}
use Rattle.rank.specs.declared.Message.{Message}
use Rattle.rank.specs.Between.{FreshRow}
use Rattle.rank.specs.Sends.{silent}
use Rattle.rank.proofs.Laws.Letters.{letters-silent}
use Rattle.net.specs.Net.{in_flight, zero_message, padded}
use Rattle.events.specs.declared.Event.{Event}
use Rattle.events.specs.Events.{names_place}
use Rattle.state.specs.declared.State.{State}
use Rattle.state.specs.States.{zero_rank, joined, rank_at, row_at, place_at, flying}
use Rattle.order.proofs.Facts.{InOrderFacts}
use Rattle.order.specs.Between.{InOrder}
use Rattle.order.proofs.Laws.Ordering.{in_order_facts, places-held}
use Rattle.plans.specs.declared.Plan.{Plan}
use Rattle.plans.specs.declared.NotPlanned.{NotPlanned}
use Rattle.plans.specs.Plans.{Planned, subject, refusing, planned, as_planned, told}
use Rattle.plans.specs.Between.{FreshSubject}
use Rattle.refusals.proofs.Laws.Refusing.{clean_place}
use Rattle.plans.proofs.Laws.Planning as Planning
use Rattle.plans.proofs.Laws.Accepting.{Accepted, planned-accepted}
use Rattle.group.specs.Between.{Carriable}
use Rattle.group.specs.Events.{Stepped, posted, applied, refused, carried, subject_of, plan_of, stepped}

-- ---- what an accepted event is about

-- the plan of this event on this state is accepted
abbrev pub Taken : (ℕ → ℕ) → State → Event → Planned → Type 0
Taken anc s ev p = Accepted anc s.group.n s.group.dead s.group.count ev (place_at s ev.a) (subject_of s ev) (rank_at s (subject_of s ev)) (row_at s (subject_of s ev)) p

pub plan_taken : (anc : ℕ → ℕ) (s : State) (ev : Event) (p : Planned) → p ≡ plan_of anc s ev → p.answer ≡ 0 → Taken anc s ev p
unfolding plan_of
plan_taken anc s ev p e z = planned-accepted anc s.group.n s.group.dead s.group.count ev (place_at s ev.a) (subject_of s ev) (rank_at s (subject_of s ev)) (row_at s (subject_of s ev)) p e z

pub step_plan : (anc : ℕ → ℕ) (s : State) (ev : Event) → (stepped anc s ev).answer ≡ 0 → (plan_of anc s ev).answer ≡ 0
unfolding stepped carried
step_plan anc s ev e = ⊎_elim (λ (t : eqb (plan_of anc s ev).answer 0 ≡ true). eqb-true (plan_of anc s ev).answer 0 t) (λ (t : eqb (plan_of anc s ev).answer 0 ≡ false). rw t at e) (passes_or_fails (eqb (plan_of anc s ev).answer 0))

-- a refused event leaves the state as it was
pub step_stays : (anc : ℕ → ℕ) (s : State) (ev : Event) → ((stepped anc s ev).answer ≡ 0 → ⊥) → (stepped anc s ev).state ≡ s
unfolding stepped carried
step_stays anc s ev d = go (passes_or_fails (eqb (plan_of anc s ev).answer 0))
  where
    go : (eqb (plan_of anc s ev).answer 0 ≡ true) ⊎ (eqb (plan_of anc s ev).answer 0 ≡ false) → (stepped anc s ev).state ≡ s
    go (inl t) = absurd (d (rw t))
    go (inr t) = rw t

-- an accepted step carries its plan out
pub step-applied : (anc : ℕ → ℕ) (s : State) (ev : Event) → (stepped anc s ev).answer ≡ 0 → (stepped anc s ev).state ≡ applied s ev.a (subject_of s ev) (plan_of anc s ev)
unfolding stepped carried
step-applied anc s ev z = rw (eq-eqb (plan_of anc s ev).answer 0 (step_plan anc s ev z))

pub step_taken : (anc : ℕ → ℕ) (s : State) (ev : Event) → (stepped anc s ev).answer ≡ 0 → Taken anc s ev (plan_of anc s ev)
step_taken anc s ev e = plan_taken anc s ev (plan_of anc s ev) refl (step_plan anc s ev e)

pub subject-named : (s : State) (ev : Event) → names_place ev.kind ≡ false → ev.a < s.group.n → subject_of s ev ≡ ev.a
unfolding subject_of
subject-named s ev t l = sym (Planning.subject-named s.group.n ev (place_at s ev.a) (names_place ev.kind) refl t l)

pub subject_receives : (s : State) (ev : Event) → names_place ev.kind ≡ true → subject_of s ev ≡ (place_at s ev.a).to
unfolding subject_of
subject_receives s ev t = sym (Planning.subject_receiver s.group.n ev (place_at s ev.a) (names_place ev.kind) refl t)

-- ---- what a state in order gives

module _ (anc : ℕ → ℕ) (s : State) (f : InOrderFacts anc s) where
  -- the message at any place has its ends in the group
  ends_in : (i : ℕ) → ((place_at s i).from < s.group.n) × ((place_at s i).to < s.group.n)
  ends_in i = ⊎_elim (λ (l : i < s.group.count). ((f.message i l).from_in, (f.message i l).to_in)) (λ (l : s.group.count ≤ i). nobody l (lt-or-le i in_flight)) (lt-or-le i s.group.count)
    where
      zero-ends : (m : Message) → m ≡ zero_message → (m.from < s.group.n) × (m.to < s.group.n)
      zero-ends m e = rw e (f.shape.some, f.shape.some)

      nobody : s.group.count ≤ i → (i < in_flight) ⊎ (in_flight ≤ i) → ((place_at s i).from < s.group.n) × ((place_at s i).to < s.group.n)
      nobody l (inl b) = zero-ends (place_at s i) (f.vacant i l b)
      nobody l (inr b) = zero-ends (place_at s i) (get_or-eq_default s.group.net zero_message (let h = f.shaped.net-long in let g : length s.group.net ≤ i = omega arith in g))

  pub subject_in : (ev : Event) → subject_of s ev < s.group.n
  unfolding subject_of
  subject_in ev = Planning.subject_in s.group.n ev (place_at s ev.a) f.shape.some (ends_in ev.a).1

pub subject-below : (anc : ℕ → ℕ) (s : State) (ev : Event) (m : Message) (me : ℕ) → InOrder anc s → m ≡ get_or s.group.net ev.a zero_message → me ≡ subject s.group.n ev m → me < 64
unfolding subject_of
subject-below anc s ev m me o e g =
    let f = in_order_facts anc s o in
    let l : subject_of s ev < s.group.n = subject_in anc s f ev in
    let h : me ≡ subject_of s ev = g ∙ ap (subject s.group.n ev) e in
    omega (arith, f.shape.small)

-- the rank that the event is about has a seat
pub step_seat : (anc : ℕ → ℕ) (s : State) (ev : Event) (m : Message) (me : ℕ) → InOrder anc s → m ≡ get_or s.group.net ev.a zero_message → me ≡ subject s.group.n ev m
    → FreshRow anc s.group.n me (get_or s.group.ranks me zero_rank) (get_or s.tables me [])
unfolding subject_of
step_seat anc s ev m me o e g =
    let f = in_order_facts anc s o in
    let h : me ≡ subject_of s ev = g ∙ ap (subject s.group.n ev) e in
    let l : me < s.group.n = subst (λ (x : ℕ). x < s.group.n) (sym h) (subject_in anc s f ev) in
    record { size = f.shape.small; own = l; table = (f.member me l).table }

pub step_ready : (anc : ℕ → ℕ) (s : State) (ev : Event) (m : Message) (me : ℕ) → InOrder anc s → m ≡ get_or s.group.net ev.a zero_message → me ≡ subject s.group.n ev m
    → FreshSubject anc s.group.n m me (get_or s.group.ranks me zero_rank)
step_ready anc s ev m me o e g =
    let f = in_order_facts anc s o in
    let own = step_seat anc s ev m me o e g in
    record { awaits = (f.member me own.own).in_order.to_settle.awaits; sender = subst (λ (x : Message). x.from < s.group.n) (sym e) (ends_in anc s f ev.a).0 }

-- ---- what a state in order gives the list

pub step-held : (anc : ℕ → ℕ) (s : State) → InOrder anc s → s.group.net ≡ padded (take s.group.count s.group.net)
step-held anc s o = places-held anc s (in_order_facts anc s o)

pub step_count : (anc : ℕ → ℕ) (s : State) → InOrder anc s → s.group.count ≤ 128
step_count anc s o = (in_order_facts anc s o).count-le

-- ---- what comes of it

pub plan_is : (anc : ℕ → ℕ) (s : State) (ev : Event) (m : Message) (me : ℕ) (x : Result Plan NotPlanned) → m ≡ get_or s.group.net ev.a zero_message → me ≡ subject s.group.n ev m
    → told x ≡ planned anc s.group.n s.group.dead s.group.count ev m me (rank_at s me) (row_at s me)
    → told x ≡ plan_of anc s ev
unfolding plan_of subject_of
plan_is anc s ev m me x e g q = rw (g, e) at q

pub me_is : (s : State) (ev : Event) (m : Message) (me : ℕ) → m ≡ get_or s.group.net ev.a zero_message → me ≡ subject s.group.n ev m → me ≡ subject_of s ev
unfolding subject_of
me_is s ev m me e g = g ∙ ap (subject s.group.n ev) e

-- a plan that is accepted can be carried out
pub step_carriable : (anc : ℕ → ℕ) (s : State) (ev : Event) (p : Planned) (me : ℕ) → InOrder anc s → p ≡ plan_of anc s ev → p.answer ≡ 0 → me ≡ subject_of s ev → Carriable s ev.a me p
step_carriable anc s ev p me o e z g =
    let f = in_order_facts anc s o in
    let x = plan_taken anc s ev p e z in
    record {
      held = places-held anc s f;
      count-le = f.count-le;
      there = λ t. clean_place _ _ _ _ _ _ x.clean (sym x.leaves_is ∙ t);
      room = x.room;
      own = omega (arith, subject_in anc s f ev, f.shape.small);
    }

-- where nothing leaves and nothing is sent the list stays
pub posted_nothing : (l : List Message) (place me : ℕ) (p : Planned) → p.leaves ≡ false → p.acted.first ≡ silent → p.acted.second ≡ silent → l ≡ posted l place me p
unfolding posted
posted_nothing l place me p e f g = rw (e, f, g, letters-silent me, append-nil l, append-nil l) refl

-- l is the list that flies once the plan is carried out
pub carry-applied : (s : State) (place me : ℕ) (p : Planned) (l : List Message) (d : ℕ) → l ≡ posted (flying s) place me p → d ≡ cond p.dies (add s.group.dead me) s.group.dead
    → joined (record { n = s.group.n; form = s.group.form; span = s.group.span; count = length l; dead = d; ranks = set s.group.ranks me p.acted.rank; net = padded l }) (set s.tables me p.acted.row) ≡ applied s place me p
unfolding applied
carry-applied s place me p l d e ed = rw (e, ed)

pub step-refuses : (anc : ℕ → ℕ) (s : State) (ev : Event) (e : Refusal) (r : Rank) (row : List ℕ) → refusing (number e) r row ≡ plan_of anc s ev → refused (number e) s ≡ stepped anc s ev
unfolding stepped carried
step-refuses anc s ev e r row h = let a : (plan_of anc s ev).answer ≡ number e = ap (λ (p : Planned). p.answer) (sym h) ∙ Planning.refusing-answer (number e) r row in rw (a, number-not_0 e)

pub step_carries : (anc : ℕ → ℕ) (s : State) (ev : Event) (p : Planned) (me x y : ℕ) (u : State) → p ≡ plan_of anc s ev → p.answer ≡ 0 → me ≡ subject_of s ev
    → x ≡ count (has p.acted.first.to) 64 → y ≡ count (has p.acted.second.to) 64 → u ≡ applied s ev.a me p
    → ◌≡◌ {A = Stepped} (record { answer = 0; sent = x + y; moved = p.acted.moved; state = u }) (stepped anc s ev)
unfolding stepped carried
step_carries anc s ev p me x y u e z g ex ey eu = rw (← e, ← g, eq-eqb p.answer 0 z, eu, ex, ey)

-- ---- the same from the parts of a state

pub step-refused : (anc : ℕ → ℕ) (s : State) (ev : Event) (m : Message) (me : ℕ) (e : Refusal) → m ≡ get_or s.group.net ev.a zero_message → me ≡ subject s.group.n ev m
    → refusing (number e) (rank_at s me) (row_at s me) ≡ planned anc s.group.n s.group.dead s.group.count ev m me (rank_at s me) (row_at s me)
    → ◌≡◌ {A = Stepped} (record { answer = number e; sent = 0; moved = nobody; state = s }) (stepped anc s ev)
step-refused anc s ev m me e em eg q = step-refuses anc s ev e _ _ (plan_is anc s ev m me (Err (record { refusal = e; rank = rank_at s me; row = row_at s me })) em eg q)

pub step-accepted : (anc : ℕ → ℕ) (s : State) (ev : Event) (m : Message) (me : ℕ) (p : Plan) (l : List Message) (d x y : ℕ) → m ≡ get_or s.group.net ev.a zero_message → me ≡ subject s.group.n ev m
    → as_planned p ≡ planned anc s.group.n s.group.dead s.group.count ev m me (rank_at s me) (row_at s me)
    → l ≡ posted (flying s) ev.a me (as_planned p) → d ≡ cond p.dies (add s.group.dead me) s.group.dead → x ≡ count (has p.acted.first.to) 64 → y ≡ count (has p.acted.second.to) 64
    → ◌≡◌ {A = Stepped}
    (record {
      answer = 0;
      sent = x + y;
      moved = p.acted.moved;
      state = joined (record { n = s.group.n; form = s.group.form; span = s.group.span; count = length l; dead = d; ranks = set s.group.ranks me p.acted.rank; net = padded l }) (set s.tables me p.acted.row);
    })
    (stepped anc s ev)
step-accepted anc s ev m me p l d x y em eg ep el ed ex ey =
    step_carries anc s ev (as_planned p) me x y _ (plan_is anc s ev m me (Ok p) em eg ep) refl (me_is s ev m me em eg) ex ey (carry-applied s ev.a me (as_planned p) l d el ed)
