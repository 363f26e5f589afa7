-- The loop along its code: the messages in flight are held beside the state, the events still to come stand as they did, and what is still to
-- come has the same end. Assumes nothing.
use mathlib.Core.Path.{◌≡◌, refl, sym, ap, ap₂, subst, ◌∙◌}
use mathlib.Core.Bool.{true, false, cond, ◌&&◌}
use mathlib.Core.List.{List, []}
use mathlib.Core.Logic.{inr}
use Prim.Native.Nat.{ℕ, suc, ◌+◌, ◌*◌, ◌-◌, ◌≤◌, ◌<◌}
use native.Mathlib.Omega.{arith}
use lib.ListN.{length, get_or, set}
use lib.Seq.{get_or-set_same, set-get_or, length-take-le}
use lib.Dec.{eqb}
use Rattle.sets.specs.Sets.{add, has}
use Rattle.answers.specs.declared.Refusal.{Refusal}
use Rattle.answers.specs.Answers.{number}
use Rattle.tree.specs.Tree.{fresh, nobody}
use Rattle.tree.specs.Forms.{tree_of}
use Rattle.rank.specs.declared.Rank.{Rank}
use Rattle.rank.specs.declared.Message.{Message}
use Rattle.rank.specs.Between.{FreshRow}
use Rattle.rank.specs.Sends.{silent, size}
use Rattle.net.specs.Net.{zero_message, padded}
use Rattle.net.proofs.Laws.Net.{padded_at, padded-take}
use Rattle.events.specs.declared.Event.{Event}
use Rattle.state.specs.declared.State.{State}
use Rattle.state.specs.States.{zero_rank, joined, own_tree, flying}
use Rattle.order.specs.Between.{InOrder}
use Rattle.order.proofs.Laws.Ordering.{in_order_facts}
use Rattle.refusals.specs.Refusing.{refusal}
use Rattle.plans.specs.declared.Plan.{Plan}
use Rattle.plans.specs.Plans.{subject, idle, refusing, planned, as_planned}
use Rattle.plans.proofs.Laws.Planning.{plan_refused, known_plan, silent_size}
use Rattle.plans.specs.Between.{FreshSubject}
use Rattle.std.specs.Prelude.{Err}
use Rattle.group.specs.Events.{Stepped, posted, refused, event}
use Rattle.group.proofs.Laws.Stepping.{posted_nothing, subject-below, step_seat, step_ready, step-held, step-refuses, step-accepted, plan_is}
use Rattle.group.proofs.Laws.Events.{event_steps_on}
use Rattle.group.proofs.Laws.Moving.{event_keeps_order}
use Rattle.group.proofs.Forms.{an_event_keeps_the_form}
use Rattle.playing.specs.Playing.{Run, written, event_in, told, played}
use Rattle.playing.specs.Between.{listed}
use Rattle.playing.proofs.Laws.Slices.{written-long, written_keeps, reads_alike}

-- ---- one event, on a state s whose messages in flight are l

pub advance_small : (anc : ℕ → ℕ) (s : State) (l : List Message) → InOrder anc (listed s l) → s.group.n ≤ 64
advance_small anc s l o = (in_order_facts anc (listed s l) o).shape.small

-- The message at the event's place is m, and the event is about rank me.
module _ (anc : ℕ → ℕ) (s : State) (l : List Message) (ev : Event) (m : Message) (me : ℕ) (o : InOrder anc (listed s l)) (at : m ≡ get_or l ev.a zero_message) (eg : me ≡ subject s.group.n ev m) where
  em : m ≡ get_or (padded l) ev.a zero_message
  em = at ∙ sym (padded_at l ev.a)

  pub advance_subject : me < 64
  advance_subject = subject-below anc (listed s l) ev m me o em eg

  pub advance_seat : FreshRow anc s.group.n me (get_or s.group.ranks me zero_rank) (get_or s.tables me [])
  advance_seat = step_seat anc (listed s l) ev m me o em eg

  pub advance_ready : FreshSubject anc s.group.n m me (get_or s.group.ranks me zero_rank)
  advance_ready = step_ready anc (listed s l) ev m me o em eg

  -- a refusal of the plan
  pub advance_unplanned : (e : Refusal) (r : Rank) (row : List ℕ) → refusing (number e) r row ≡ planned anc s.group.n s.group.dead (length l) ev m me (get_or s.group.ranks me zero_rank) (get_or s.tables me [])
      → refused (number e) (listed s l) ≡ event anc (listed s l) ev
  advance_unplanned e r row q = step-refuses anc (listed s l) ev e _ _ (plan_is anc (listed s l) ev m me (Err (record { refusal = e; rank = r; row = row })) em eg q) ∙ sym (event_steps_on anc (listed s l) ev o)

  -- a refusal that comes before a plan
  pub advance_refused : (e : Refusal) → number e ≡ refusal s.group.n s.group.dead (length l) ev (get_or s.group.ranks me zero_rank) m → refused (number e) (listed s l) ≡ event anc (listed s l) ev
  advance_refused e h = advance_unplanned e _ _ (plan_refused anc s.group.n s.group.dead (length l) ev m me _ _ e h)

  -- a death that is known leaves the state as it is
  advance_still : (r : Rank) (row : List ℕ) → r ≡ get_or s.group.ranks me zero_rank → ◌≡◌ {A = Stepped}
      (record {
        answer = 0;
        sent = 0;
        moved = nobody;
        state = joined (record { n = s.group.n; form = s.group.form; span = s.group.span; count = length l; dead = s.group.dead; ranks = set s.group.ranks me r; net = padded l }) s.tables;
      })
      (record { answer = 0; sent = 0; moved = nobody; state = listed s l })
  advance_still r row e = rw (e, set-get_or s.group.ranks me zero_rank) refl

  pub advance_accepted : (p : Plan) (sent d : ℕ) (next : List Message) → as_planned p ≡ planned anc s.group.n s.group.dead (length l) ev m me (get_or s.group.ranks me zero_rank) (get_or s.tables me [])
      → sent ≡ size p.acted.first + size p.acted.second → next ≡ posted l ev.a me (as_planned p)
      → d ≡ cond p.dies (add s.group.dead me) s.group.dead
      → ◌≡◌ {A = Stepped}
      (record {
        answer = 0;
        sent = sent;
        moved = p.acted.moved;
        state = joined (record { n = s.group.n; form = s.group.form; span = s.group.span; count = length next; dead = d; ranks = set s.group.ranks me p.acted.rank; net = padded next }) (set s.tables me p.acted.row);
      })
      (event anc (listed s l) ev)
  advance_accepted p sent d next q es en ed = rw es (step-accepted anc (listed s l) ev m me p next d (size p.acted.first) (size p.acted.second) em eg q (en ∙ ap (λ (t : List Message). posted t ev.a me (as_planned p)) (sym (padded-take l))) ed refl refl ∙ sym (event_steps_on anc (listed s l) ev o))

  -- A row changes only with the marks: it is the fresh one before and after.
  pub advance_marks : (p : Plan) (sent d : ℕ) (next : List Message) → as_planned p ≡ planned anc s.group.n s.group.dead (length l) ev m me (get_or s.group.ranks me zero_rank) (get_or s.tables me [])
      → sent ≡ size p.acted.first + size p.acted.second → next ≡ posted l ev.a me (as_planned p)
      → d ≡ cond p.dies (add s.group.dead me) s.group.dead → p.acted.rank.marks ≡ (get_or s.group.ranks me zero_rank).marks
      → ◌≡◌ {A = Stepped}
      (record {
        answer = 0;
        sent = sent;
        moved = p.acted.moved;
        state = joined (record { n = s.group.n; form = s.group.form; span = s.group.span; count = length next; dead = d; ranks = set s.group.ranks me p.acted.rank; net = padded next }) s.tables;
      })
      (event anc (listed s l) ev)
  advance_marks p sent d next q es en ed e =
      let u : State = joined (record { n = s.group.n; form = s.group.form; span = s.group.span; count = length next; dead = d; ranks = set s.group.ranks me p.acted.rank; net = padded next }) (set s.tables me p.acted.row) in
      let done = advance_accepted p sent d next q es en ed in
      let h : InOrder anc u = subst (λ (x : Stepped). InOrder anc x.state) (sym done) (event_keeps_order anc (listed s l) ev o) in
      let f = in_order_facts anc (listed s l) o in
      let f' = in_order_facts anc u h in
      let own = advance_seat in
      let here : get_or (set s.tables me p.acted.row) me [] ≡ p.acted.row = get_or-set_same s.tables me p.acted.row [] (omega (arith, f.shaped.rows_long, own.own, own.size)) in
      let mine : get_or (set s.group.ranks me p.acted.rank) me zero_rank ≡ p.acted.rank = get_or-set_same s.group.ranks me p.acted.rank zero_rank (omega (arith, f.shaped.ranks-long, own.own, own.size)) in
      let now : p.acted.row ≡ get_or s.tables me [] = sym here ∙ (f'.member me own.own).table ∙ ap (λ (x : Rank). fresh anc s.group.n x.marks) mine ∙ ap (fresh anc s.group.n) e ∙ sym own.table in
      let same : set s.tables me p.acted.row ≡ s.tables = ap (set s.tables me) now ∙ set-get_or s.tables me [] in
      sym
      (ap {B = Stepped}
      (λ (t : List (List ℕ)). record {
        answer = 0;
        sent = sent;
        moved = p.acted.moved;
        state = joined (record { n = s.group.n; form = s.group.form; span = s.group.span; count = length next; dead = d; ranks = set s.group.ranks me p.acted.rank; net = padded next }) t;
      })
      same)
      ∙ done

  -- A death that is known changes nothing.
  pub advance_known : (eqb ev.kind 4 && has (get_or s.group.ranks me zero_rank).marks ev.b) ≡ true → refusal s.group.n s.group.dead (length l) ev (get_or s.group.ranks me zero_rank) m ≡ 0
      → ◌≡◌ {A = Stepped} (record { answer = 0; sent = 0; moved = nobody; state = listed s l }) (event anc (listed s l) ev)
  advance_known k z =
      let r : Rank = get_or s.group.ranks me zero_rank in
      let row : List ℕ = get_or s.tables me [] in
      let p : Plan = record { leaves = false; dies = false; acted = idle r row } in
      let q = known_plan anc s.group.n s.group.dead (length l) ev m me r row z k (in_order_facts anc (listed s l) o).count-le advance_seat.table in
      let none : 0 ≡ size silent + size silent = omega (arith, silent_size) in
      sym (advance_still r row refl) ∙ advance_marks p 0 s.group.dead l q none (posted_nothing l ev.a me (as_planned p) refl refl refl) refl refl

-- ---- events one after the other

-- Before the event at place k: the slice out₀ held the events, and the state s has the form and box size of the first.
pub record Going (anc : ℕ → ℕ) (total : ℕ) (s₀ : State) (out₀ : List ℕ) (s : State) (out : List ℕ) (k : ℕ) : Type 0 where
  pub room : 3 * total ≤ length out
  pub within : k ≤ total
  pub kept : length out ≡ length out₀
  pub formed : own_tree s ≡ anc
  pub in_order : InOrder (own_tree s) s
  pub ahead : (i : ℕ) → 3 * k ≤ i → get_or out i 0 ≡ get_or out₀ i 0
  pub same_end : played anc (event_in out₀) (total - k) k s out ≡ played anc (event_in out₀) total 0 s₀ out₀

-- The code starts with the list of s taken out.
pub going_begin : (total : ℕ) (s : State) (l : List Message) (out : List ℕ) → l ≡ flying s → 3 * total ≤ length out → InOrder (own_tree s) s → Going (own_tree s) total s out (listed s l) out 0
going_begin total s l out e r o =
    let z : total - 0 ≡ total = omega arith in
    let h = in_order_facts (own_tree s) s o in
    let c : length (flying s) ≡ s.group.count = length-take-le s.group.count s.group.net (omega (arith, h.count-le, h.shaped.net-long)) in
    let q : listed s l ≡ s = rw e (ap₂ (λ (x : ℕ) (y : List Message). joined (record { n = s.group.n; form = s.group.form; span = s.group.span; count = x; dead = s.group.dead; ranks = s.group.ranks; net = y }) s.tables) c (sym (step-held (own_tree s) s o))) in
    record {
      room = r;
      within = omega arith;
      kept = refl;
      formed = refl;
      in_order = subst (InOrder (own_tree s)) (sym q) o;
      ahead = λ i l. refl;
      same_end = ap₂ (λ (t : ℕ) (x : State). played (own_tree s) (event_in out) t 0 x out) z q;
    }

pub going_room : (anc : ℕ → ℕ) (total : ℕ) (s₀ : State) (out₀ : List ℕ) (s : State) (out : List ℕ) (k : ℕ) → Going anc total s₀ out₀ s out k → k < total → 3 * k + 3 ≤ length out
going_room anc total s₀ out₀ s out k g l = omega (arith, g.room)

-- One event more: the event that is read is the one that stood there at first.
pub going_on : (anc : ℕ → ℕ) (total : ℕ) (s₀ : State) (out₀ : List ℕ) (s : State) (out : List ℕ) (k : ℕ) (ev : Event) (u : Stepped) (v : List ℕ) → Going anc total s₀ out₀ s out k → k < total → ev ≡ event_in out k → u ≡ event (own_tree s) s ev
    → v ≡ written out k u.answer u.sent u.moved.count → Going anc total s₀ out₀ u.state v (k + 1)
unfolding played told
going_on anc total s₀ out₀ s out k ev u v g l ee e w =
    let o : own_tree u.state ≡ own_tree s = ap (λ (x : Stepped). own_tree x.state) e ∙ formed in
    rw w
    (record {
      room = omega (arith, g.room, written-long out k u.answer u.sent u.moved.count);
      within = omega arith;
      kept = written-long out k u.answer u.sent u.moved.count ∙ g.kept;
      formed = o ∙ g.formed;
      in_order = subst (λ (t : ℕ → ℕ). InOrder t u.state) (sym o) (subst (λ (x : Stepped). InOrder (own_tree s) x.state) (sym e) (event_keeps_order (own_tree s) s ev g.in_order));
      ahead = λ i m. written_keeps out k u.answer u.sent u.moved.count i (inr (omega arith)) ∙ g.ahead i (omega arith);
      same_end = next (total - (k + 1)) (omega arith) ∙ g.same_end;
    })
  where
    formed : own_tree (event (own_tree s) s ev).state ≡ own_tree s
    formed = let k = an_event_keeps_the_form (own_tree s) s ev in ap₂ tree_of k.0 k.1

    f : u ≡ event anc s (event_in out₀ k)
    f = e ∙ ap₂ (λ (t : ℕ → ℕ) (x : Event). event t s x) g.formed (ee ∙ reads_alike out out₀ k (λ i m n. g.ahead i m))

    next : (left : ℕ) → total - k ≡ suc left → played anc (event_in out₀) (total - (k + 1)) (k + 1) u.state (written out k u.answer u.sent u.moved.count) ≡ played anc (event_in out₀) (total - k) k s out
    next left h =
        let p : total - (k + 1) ≡ left = omega arith in
        rw (p, h, f)

pub going_refused : (anc : ℕ → ℕ) (total : ℕ) (s₀ : State) (out₀ : List ℕ) (s : State) (out : List ℕ) (k : ℕ) (ev : Event) (e : Refusal) (t : State) (v : List ℕ) → Going anc total s₀ out₀ s out k → k < total → ev ≡ event_in out k
    → refused (number e) t ≡ event (own_tree s) s ev → v ≡ written out k (number e) 0 0 → Going anc total s₀ out₀ t v (k + 1)
going_refused anc total s₀ out₀ s out k ev e t v g l ee q w = going_on anc total s₀ out₀ s out k ev (refused (number e) t) v g l ee q w

-- All events played.
pub going_end : (anc : ℕ → ℕ) (total : ℕ) (s : State) (out₀ : List ℕ) (u : State) (out : List ℕ) (k : ℕ) → Going anc total s out₀ u out k → total ≤ k
    → (u ≡ (played anc (event_in out₀) total 0 s out₀).state) × (out ≡ (played anc (event_in out₀) total 0 s out₀).answers)
unfolding played
going_end anc total s out₀ u out k g l =
    let z : total - k ≡ 0 = omega arith in
    let e : ◌≡◌ {A = Run} (record { answer = 0; state = u; answers = out }) (played anc (event_in out₀) total 0 s out₀) = subst (λ (x : ℕ). played anc (event_in out₀) x k u out ≡ played anc (event_in out₀) total 0 s out₀) z g.same_end in
    (ap (λ (x : Run). x.state) e, ap (λ (x : Run). x.answers) e)
