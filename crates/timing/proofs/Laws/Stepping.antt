-- The two loops along their code: what is still to come, from place k on, has the same end. Assumes nothing.
use mathlib.Core.Path.{◌≡◌, refl, sym, ap, ap₂, subst, ◌∙◌}
use mathlib.Core.List.{List}
use Prim.Native.Nat.{ℕ, ◌+◌, ◌*◌, ◌-◌, ◌/◌, ◌%◌, ◌≤◌, ◌<◌}
use native.Mathlib.Omega.{arith}
use lib.ListN.{length}
use borrow.Rule.Slice.PartMut.{mid_of, put_mid}
use mathlib.Core.Bool.{Bool, true, false, not, cond}
use lib.Dec.{eqb, ltb}
use borrow.Author.Tests.{eqb-true, ltb-false, ne_eqb, lt-ltb, le-ltb}
use Rattle.answers.specs.declared.Refusal.{Refusal}
use Rattle.answers.specs.Answers.{number}
use Rattle.state.proofs.Laws.Starting.{not_accepted}
use Rattle.tree.specs.Forms.{tree_of}
use Rattle.events.specs.declared.Event.{Event}
use Rattle.state.specs.declared.State.{State}
use Rattle.state.specs.States.{own_tree}
use Rattle.group.specs.Events.{Stepped, refused, event}
use Rattle.playing.specs.Playing.{Run, written, event_in, played}
use Rattle.playing.proofs.Laws.Playing.{played-none, played-next, played_keeps_the_form, played_splits, played-long}
use Rattle.batches.specs.Batches.{uneven, too_short, batch}
use Rattle.batches.proofs.Laws.Handling.{batch_taken}
use Rattle.batches.proofs.Batching.{what_a_batch_answers, a_refused_batch_changes_nothing}
use Rattle.timing.proofs.Laws.Parts.{part-played}

-- ---- the loops

-- Before the event at place k, with the state s and the slice out.
pub record Stepping (anc : ℕ → ℕ) (numbers : List ℕ) (total : ℕ) (s₀ : State) (out₀ : List ℕ) (s : State) (out : List ℕ) (k : ℕ) : Type 0 where
  pub room : 3 * total ≤ length out
  pub within : k ≤ total
  pub kept : length out ≡ length out₀
  pub own : own_tree s ≡ anc
  pub same_end : played anc (event_in numbers) (total - k) k s out ≡ played anc (event_in numbers) total 0 s₀ out₀

pub stepping-start : (numbers : List ℕ) (total : ℕ) (s : State) (out : List ℕ) → 3 * total ≤ length out → Stepping (own_tree s) numbers total s out s out 0
stepping-start numbers total s out r = record { room = r; within = omega arith; kept = refl; own = refl; same_end = ap (λ (t : ℕ). played (own_tree s) (event_in numbers) t 0 s out) (let z : total - 0 ≡ total = omega arith in z) }

pub stepping-room : (anc : ℕ → ℕ) (numbers : List ℕ) (total : ℕ) (s₀ : State) (out₀ : List ℕ) (s : State) (out : List ℕ) (k : ℕ) → Stepping anc numbers total s₀ out₀ s out k → k < total → 3 * k + 3 ≤ length out
stepping-room anc numbers total s₀ out₀ s out k g l = omega (arith, g.room)

-- The events up to place e.
stepping_on : (anc : ℕ → ℕ) (numbers : List ℕ) (total : ℕ) (s₀ : State) (out₀ : List ℕ) (s : State) (out : List ℕ) (k e : ℕ) (t : State) (v : List ℕ) → Stepping anc numbers total s₀ out₀ s out k → k ≤ e → e ≤ total
    → t ≡ (played anc (event_in numbers) (e - k) k s out).state → v ≡ (played anc (event_in numbers) (e - k) k s out).answers → Stepping anc numbers total s₀ out₀ t v e
stepping_on anc numbers total s₀ out₀ s out k e t v g l m et ev =
    let long : length v ≡ length out = ap length ev ∙ played-long anc (event_in numbers) (e - k) k s out in
    let form = played_keeps_the_form anc (event_in numbers) (e - k) k s out in
    let stays : own_tree t ≡ anc = ap own_tree et ∙ ap₂ tree_of form.0 form.1 ∙ g.own in
    let left : total - k ≡ e - k + (total - e) = omega arith in
    let place : k + (e - k) ≡ e = omega arith in
    let next : played anc (event_in numbers) (total - k) k s out ≡ played anc (event_in numbers) (total - e) e t v = rw (left, et, ev) (played_splits anc (event_in numbers) (e - k) (total - e) k s out ∙ rw place) in
    record { room = omega (arith, g.room); within = m; kept = long ∙ g.kept; own = stays; same_end = sym next ∙ g.same_end }

-- One event.
pub stepping-one : (anc : ℕ → ℕ) (numbers : List ℕ) (total : ℕ) (s₀ : State) (out₀ : List ℕ) (s : State) (out : List ℕ) (k : ℕ) (ev : Event) (u : Stepped) (v : List ℕ) → Stepping anc numbers total s₀ out₀ s out k → k < total
    → ev ≡ event_in numbers k → u ≡ event (own_tree s) s ev → v ≡ written out k u.answer u.sent u.moved.count → Stepping anc numbers total s₀ out₀ u.state v (k + 1)
stepping-one anc numbers total s₀ out₀ s out k ev u v g l ee eu w =
    let one : k + 1 - k ≡ 1 = omega arith in
    let o = written out k u.answer u.sent u.moved.count in
    let e : played anc (event_in numbers) (k + 1 - k) k s out ≡ record { answer = 0; state = u.state; answers = o } =
    rw one (played-next anc (event_in numbers) 0 k s out u (sym (eu ∙ ap₂ (λ (a : ℕ → ℕ) (x : Event). event a s x) g.own ee)) ∙ played-none anc (event_in numbers) (k + 1) u.state o) in
    stepping_on anc numbers total s₀ out₀ s out k (k + 1) u.state v g (omega arith) (omega arith) (sym (ap (λ (x : Run). x.state) e)) (w ∙ sym (ap (λ (x : Run). x.answers) e))

pub stepping_refused : (anc : ℕ → ℕ) (numbers : List ℕ) (total : ℕ) (s₀ : State) (out₀ : List ℕ) (s : State) (out : List ℕ) (k : ℕ) (ev : Event) (e : Refusal) (t : State) (v : List ℕ) → Stepping anc numbers total s₀ out₀ s out k → k < total
    → ev ≡ event_in numbers k → refused (number e) t ≡ event (own_tree s) s ev → v ≡ written out k (number e) 0 0 → Stepping anc numbers total s₀ out₀ t v (k + 1)
stepping_refused anc numbers total s₀ out₀ s out k ev e t v g l ee eu w = stepping-one anc numbers total s₀ out₀ s out k ev (refused (number e) t) v g l ee eu w

-- A handful, up to place e: its batch has the two slices' parts.
pub stepping_many : (anc : ℕ → ℕ) (numbers : List ℕ) (total : ℕ) (s₀ : State) (out₀ : List ℕ) (s : State) (out : List ℕ) (k e : ℕ) (t : State) (v : List ℕ) → Stepping anc numbers total s₀ out₀ s out k → 3 * total ≤ length numbers → k < e → e ≤ total
    → t ≡ (batch (own_tree s) (mid_of (3 * k) (3 * e - 3 * k) numbers) (mid_of (3 * k) (3 * e - 3 * k) out) s).state → v ≡ (batch (own_tree s) (mid_of (3 * k) (3 * e - 3 * k) numbers) (mid_of (3 * k) (3 * e - 3 * k) out) s).answers
    → Stepping anc numbers total s₀ out₀ t (put_mid (3 * k) (3 * e - 3 * k) out v) e
stepping_many anc numbers total s₀ out₀ s out k e t v g r l m et ev =
    let same : batch (own_tree s) (mid_of (3 * k) (3 * e - 3 * k) numbers) (mid_of (3 * k) (3 * e - 3 * k) out) s ≡ batch anc (mid_of (3 * k) (3 * e - 3 * k) numbers) (mid_of (3 * k) (3 * e - 3 * k) out) s =
    ap (λ (a : ℕ → ℕ). batch a (mid_of (3 * k) (3 * e - 3 * k) numbers) (mid_of (3 * k) (3 * e - 3 * k) out) s) g.own in
    let x = part-played anc numbers out k e s (omega arith) (omega arith) (omega (arith, g.room)) t v (et ∙ ap (λ (r : Run). r.state) same) (ev ∙ ap (λ (r : Run). r.answers) same) in
    stepping_on anc numbers total s₀ out₀ s out k e t (put_mid (3 * k) (3 * e - 3 * k) out v) g (omega arith) m x.0 x.1

pub stepping_end : (anc : ℕ → ℕ) (numbers : List ℕ) (total : ℕ) (s₀ : State) (out₀ : List ℕ) (s : State) (out : List ℕ) (k : ℕ) → Stepping anc numbers total s₀ out₀ s out k → total ≤ k → out ≡ (played anc (event_in numbers) total 0 s₀ out₀).answers
stepping_end anc numbers total s₀ out₀ s out k g l =
    let z : total - k ≡ 0 = omega arith in
    let e : played anc (event_in numbers) 0 k s out ≡ played anc (event_in numbers) total 0 s₀ out₀ = subst (λ (x : ℕ). played anc (event_in numbers) x k s out ≡ played anc (event_in numbers) total 0 s₀ out₀) z g.same_end in
    ap (λ (x : Run). x.answers) (sym (played-none anc (event_in numbers) k s out) ∙ e)

-- ---- the exported functions: a batch on the started state, of which no state is told

-- What the check of the lengths answers: a batch's 40 or 41, or 0.
abbrev pub Checked : ℕ → List ℕ → List ℕ → Type 0
Checked number numbers out = number ≡ cond (uneven numbers) 40 (cond (too_short numbers out) 41 0)

abbrev pub Passes : List ℕ → List ℕ → Type 0
Passes = Checked 0

pub begin_uneven : (numbers out : List ℕ) → (length numbers % 3 ≡ 0 → ⊥) → Checked 40 numbers out
begin_uneven numbers out d = rw (ne_eqb (length numbers % 3) 0 d)

pub begin_short : (numbers out : List ℕ) → length numbers % 3 ≡ 0 → length out < 3 * (length numbers / 3) → Checked 41 numbers out
begin_short numbers out e l = rw (e, lt-ltb (length out) (3 * (length numbers / 3)) l)

pub begin_right : (numbers out : List ℕ) → length numbers % 3 ≡ 0 → 3 * (length numbers / 3) ≤ length out → Checked 0 numbers out
begin_right numbers out e l = rw (e, le-ltb (length out) (3 * (length numbers / 3)) l)

-- and what it says where it answers 0
lengths_right : (numbers out : List ℕ) → Passes numbers out → (length numbers % 3 ≡ 0) × (3 * (length numbers / 3) ≤ length out)
lengths_right numbers out = go (eqb (length numbers % 3) 0) (ltb (length out) (3 * (length numbers / 3))) refl refl
  where
    go : (t u : Bool) → eqb (length numbers % 3) 0 ≡ t → ltb (length out) (3 * (length numbers / 3)) ≡ u → ◌≡◌ {A = ℕ} 0 (cond (not t) 40 (cond u 41 0)) → (length numbers % 3 ≡ 0) × (3 * (length numbers / 3) ≤ length out)
    go false u p q e = absurd (omega arith)
    go true true p q e = absurd (omega arith)
    go true false p q e = (eqb-true (length numbers % 3) 0 p, ltb-false (length out) (3 * (length numbers / 3)) q)

pub told_refused : (numbers out : List ℕ) (s : State) (e : Refusal) → Checked (number e) numbers out → (number e ≡ (batch (own_tree s) numbers out s).answer) × (out ≡ (batch (own_tree s) numbers out s).answers)
told_refused numbers out s e h =
    let a : number e ≡ (batch (own_tree s) numbers out s).answer = h ∙ sym (what_a_batch_answers (own_tree s) numbers out s) in
    (a, sym (a_refused_batch_changes_nothing (own_tree s) numbers out s (λ z. not_accepted e (a ∙ z))).1)

pub told_taken : (numbers out v : List ℕ) (s b : State) → Passes numbers out → s ≡ b → v ≡ (played (own_tree s) (event_in numbers) (length numbers / 3) 0 s out).answers
    → (0 ≡ (batch (own_tree b) numbers out b).answer) × (v ≡ (batch (own_tree b) numbers out b).answers)
told_taken numbers out v s b h e f =
    let r = lengths_right numbers out h in
    let x = batch_taken (own_tree b) numbers out v b (played (own_tree b) (event_in numbers) (length numbers / 3) 0 b out).state r.0 r.1 refl
    (f ∙ ap (λ (y : State). (played (own_tree y) (event_in numbers) (length numbers / 3) 0 y out).answers) e) in
    (x.0, x.1.1)

-- so there is room for the events and for what is told of them
pub events_room : (numbers out : List ℕ) → Passes numbers out → 3 * (length numbers / 3) ≤ length out
events_room numbers out h = (lengths_right numbers out h).1
