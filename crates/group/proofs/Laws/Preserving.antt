-- A fresh group is in order, and an accepted event on a state in order gives a state in order. Over any ancestor sets. Assumes nothing.
use mathlib.Core.Path.{◌≡◌, refl, sym, ap, ap₂, subst, ◌∙◌}
use mathlib.Core.Bool.{Bool, true, false, cond}
use mathlib.Core.List.{List, [], ◌++◌}
use mathlib.Core.Logic.{◌⊎◌, inl, inr, ⊎_elim}
use Prim.Native.Nat.{ℕ, ◌+◌, ◌-◌, ◌≤◌, ◌<◌}
use native.Mathlib.Omega.{arith}
use lib.Dec.{eqb}
use lib.ListN.{length, get_or, set, length-set, length-append}
use lib.Seq.{get_or-set_same, get_or-set_other, length-take-le, get_or-take}
use borrow.Author.Tests.{eqb-true, eq-eqb}
use Rattle.sets.specs.Sets.{has, only, add, minus, below}
use Rattle.sets.proofs.Laws.Bools.{clash, eq_or_ne, or_cases, same_test}
use Rattle.sets.proofs.Laws.Members.{ext, has-zero, has-only, has-add, has_add_more, has-add-other, has-below-lt, minus_l, minus_r, minus_i}
use Rattle.tree.specs.Tree.{nobody}
use Rattle.rank.specs.declared.Rank.{Rank}
use Rattle.rank.specs.declared.Message.{Message}
use Rattle.rank.specs.Sends.{letters, size}
use Rattle.rank.proofs.Laws.Letters.{length-letters}
use Rattle.rank.proofs.Facts.{MemberInOrder}
use Rattle.net.specs.Net.{zero_message, without}
use Rattle.net.proofs.Facts.{MessageInOrder}
use Rattle.net.proofs.Laws.Net.{padded-long, padded_in, padded-past, length_without}
use Rattle.net.proofs.Laws.Lists.{any_default, AllInOrder, message_more, all_append, all_without, all-letters}
use Rattle.events.specs.declared.Event.{Event}
use Rattle.events.specs.Events.{names_rank, names_place}
use Rattle.events.proofs.Laws.Naming.{names_a_rank, names_a_place}
use Rattle.refusals.proofs.Laws.Refusing.{clean_place, clean_rank, clean_notice, clean_outside, clean_told, clean_others}
use Rattle.state.specs.declared.State.{State}
use Rattle.state.specs.States.{zero_rank, rank_at, row_at, place_at, flying}
use Rattle.order.proofs.Facts.{InOrderFacts}
use Rattle.order.specs.Between.{InOrder}
use Rattle.order.proofs.Laws.Ordering.{in_order_facts, facts_in_order}
use Rattle.plans.specs.Plans.{Planned}
use Rattle.plans.proofs.Laws.Acting.{Outcome, acting_outcome}
use Rattle.group.specs.Events.{Stepped, posted, applied, carried, subject_of, plan_of, stepped}
use Rattle.group.proofs.Laws.Stepping.{Taken, plan_taken, subject-named, subject_receives, subject_in}

-- ---- an accepted event

last_one : (n dead a : ℕ) → a < n → has dead a ≡ false → minus (below n) (add dead a) ≡ 0 → minus (below n) dead ≡ only a
last_one n dead a l f e = ext (minus (below n) dead) (only a) (λ k. same_test (has (minus (below n) dead) k) (has (only a) k) (alone k) (him k))
  where
    alone : (k : ℕ) → has (minus (below n) dead) k ≡ true → has (only a) k ≡ true
    alone k t = ⊎_elim (λ (q : k ≡ a). has-only a k ∙ eq-eqb k a q)
        (λ (q : k ≡ a → ⊥). absurd (clash (has (minus (below n) (add dead a)) k) (minus_i (below n) (add dead a) k (minus_l (below n) dead k t) (has-add-other dead a k q ∙ minus_r (below n) dead k t)) (ap (λ (w : ℕ). has w k) e ∙ has-zero k)))
        (eq_or_ne k a)

    him : (k : ℕ) → has (only a) k ≡ true → has (minus (below n) dead) k ≡ true
    him k t = let q : k ≡ a = eqb-true k a (sym (has-only a k) ∙ t) in subst (λ (x : ℕ). has (minus (below n) dead) x ≡ true) (sym q) (minus_i (below n) dead a (has-below-lt n a l) f)

module _ (anc : ℕ → ℕ) (s : State) (f : InOrderFacts anc s) (ev : Event) (p : Planned) (e : p ≡ plan_of anc s ev) (z : p.answer ≡ 0) where
  own : subject_of s ev < s.group.n
  own = subject_in anc s f ev

  pub ok : Taken anc s ev p
  ok = plan_taken anc s ev p e z

  -- a kind that names a rank names this one, below n and living
  pub named : names_rank ev.kind ≡ true → names_place ev.kind ≡ false → (subject_of s ev ≡ ev.a) × (ev.a < s.group.n) × (has s.group.dead ev.a ≡ false)
  named r q =
      let x = clean_rank _ _ _ _ _ _ ok.clean r in
      (subject-named s ev q x.0, x.0, x.1)

  -- a place that is named holds a message
  pub listed-there : names_place ev.kind ≡ true → ev.a < s.group.count
  listed-there q = clean_place _ _ _ _ _ _ ok.clean q

  pub outcome : Outcome anc s.group.n s.group.dead (subject_of s ev) p.acted
  outcome = subst (Outcome anc s.group.n s.group.dead (subject_of s ev)) (sym ok.acted_is)
      (acting_outcome anc s.group.n s.group.dead (subject_of s ev) f.shape.small own ev (place_at s ev.a) (rank_at s (subject_of s ev)) (row_at s (subject_of s ev)) (f.member (subject_of s ev) own)
      (clean_outside _ _ _ _ _ _ ok.clean) delivery notice)
    where
      delivery : ev.kind ≡ 2 → MessageInOrder s.group.n s.group.dead (place_at s ev.a) × ((place_at s ev.a).to ≡ subject_of s ev)
      delivery k = (f.message ev.a (listed-there (names_a_place ev.kind k)), sym (subject_receives s ev (names_a_place ev.kind k)))

      notice : ev.kind ≡ 4 → (ev.b < s.group.n) × (has s.group.dead ev.b ≡ true) × (has s.group.dead (subject_of s ev) ≡ false)
      notice k =
          let t = names_a_rank ev.kind (inr (inr (inl k))) in
          let x = named t.0 t.1 in
          (clean_notice _ _ _ _ _ _ ok.clean k, clean_told _ _ _ _ _ _ ok.clean k, subst (λ (y : ℕ). has s.group.dead y ≡ false) (sym x.0) x.2)

  -- ---- the list

  pub list-long : length (flying s) ≡ s.group.count
  list-long = length-take-le s.group.count s.group.net (let x = f.count-le in let y = f.shaped.net-long in omega arith)

  list_in_order : AllInOrder s.group.n s.group.dead (flying s)
  list_in_order d i h =
      let h' : i < s.group.count = subst (λ (x : ℕ). i < x) list-long h in
      subst (MessageInOrder s.group.n s.group.dead) (sym (get_or-take s.group.count s.group.net i d h' ∙ any_default s.group.net i d zero_message (let x = f.count-le in let y = f.shaped.net-long in omega arith))) (f.message i h')

  rest_in_order : (t : Bool) → AllInOrder s.group.n s.group.dead (cond t (without ev.a (flying s)) (flying s))
  rest_in_order true = all_without s.group.n s.group.dead ev.a (flying s) list_in_order
  rest_in_order false = list_in_order

  posted_in_order : AllInOrder s.group.n s.group.dead (posted (flying s) ev.a (subject_of s ev) p)
  unfolding posted
  posted_in_order =
      all_append s.group.n s.group.dead (cond p.leaves (without ev.a (flying s)) (flying s) ++ letters (subject_of s ev) p.acted.first) (letters (subject_of s ev) p.acted.second)
      (all_append s.group.n s.group.dead (cond p.leaves (without ev.a (flying s)) (flying s)) (letters (subject_of s ev) p.acted.first) (rest_in_order p.leaves)
      (all-letters s.group.n s.group.dead (subject_of s ev) p.acted.rank.marks p.acted.first own' outcome.first-posted outcome.seat.marks_dead))
      (all-letters s.group.n s.group.dead (subject_of s ev) p.acted.rank.marks p.acted.second own' outcome.second_posted outcome.seat.marks_dead)
    where
      own' : subject_of s ev < s.group.n
      own' = subject_in anc s f ev

  rest_long : (t : Bool) → (t ≡ true → ev.a < s.group.count) → length (cond t (without ev.a (flying s)) (flying s)) ≡ s.group.count - cond t 1 0
  rest_long true h = length_without s.group.net s.group.count ev.a f.shaped.net-long f.count-le (h refl)
  rest_long false h = list-long ∙ (let q : s.group.count ≡ s.group.count - 0 = omega arith in q)

  -- sent is what joined the list: its length afterwards is what was left and what was sent
  pub posted-long : length (posted (flying s) ev.a (subject_of s ev) p) ≡ s.group.count - cond p.leaves 1 0 + size p.acted.first + size p.acted.second
  unfolding posted
  posted-long =
      length-append (cond p.leaves (without ev.a (flying s)) (flying s) ++ letters (subject_of s ev) p.acted.first) (letters (subject_of s ev) p.acted.second)
      ∙ ap₂ (λ (x y : ℕ). x + y) (length-append (cond p.leaves (without ev.a (flying s)) (flying s)) (letters (subject_of s ev) p.acted.first) ∙ ap₂ (λ (x y : ℕ). x + y) (rest_long p.leaves (λ t. listed-there (sym ok.leaves_is ∙ t))) (length-letters (subject_of s ev) p.acted.first)) (length-letters (subject_of s ev) p.acted.second)

  some-there : (t : Bool) → (t ≡ true → ev.a < s.group.count) → cond {A = ℕ} t 1 0 ≤ s.group.count
  some-there true h = omega (arith, h refl)
  some-there false h = omega arith

  posted_fits : length (posted (flying s) ev.a (subject_of s ev) p) ≤ 128
  posted_fits = omega (arith, posted-long, ok.room, some-there p.leaves (λ t. listed-there (sym ok.leaves_is ∙ t)))

  -- ---- the dead

  dead' : ℕ
  dead' = cond p.dies (add s.group.dead (subject_of s ev)) s.group.dead

  dead_more : (k : ℕ) → has s.group.dead k ≡ true → has dead' k ≡ true
  unfolding dead'
  dead_more k h = go p.dies
    where
      go : (t : Bool) → has (cond t (add s.group.dead (subject_of s ev)) s.group.dead) k ≡ true
      go true = has_add_more s.group.dead (subject_of s ev) k h
      go false = h

  dead_within : (k : ℕ) → has dead' k ≡ true → k < s.group.n
  unfolding dead'
  dead_within k = go p.dies
    where
      own' : subject_of s ev < s.group.n
      own' = subject_in anc s f ev

      go : (t : Bool) → has (cond t (add s.group.dead (subject_of s ev)) s.group.dead) k ≡ true → k < s.group.n
      go true h = ⊎_elim (f.dead_in k) (λ (q : eqb k (subject_of s ev) ≡ true). subst (λ (x : ℕ). x < s.group.n) (sym (eqb-true k (subject_of s ev) q)) own') (or_cases (has s.group.dead k) (eqb k (subject_of s ev)) (sym (has-add s.group.dead (subject_of s ev) k) ∙ h))
      go false h = f.dead_in k h

  -- somebody lives: only a crash adds to the dead, and not of the last
  still_lives : minus (below s.group.n) dead' ≡ 0 → ⊥
  unfolding dead'
  still_lives = go p.dies refl
    where
      crash : ev.kind ≡ 3 → minus (below s.group.n) (add s.group.dead (subject_of s ev)) ≡ 0 → ⊥
      crash k q =
          let t = names_a_rank ev.kind (inr (inl k)) in
          let x = named t.0 t.1 in
          clean_others _ _ _ _ _ _ ok.clean k (last_one s.group.n s.group.dead ev.a x.1 x.2 (subst (λ (y : ℕ). minus (below s.group.n) (add s.group.dead y) ≡ 0) x.0 q))

      go : (t : Bool) → p.dies ≡ t → minus (below s.group.n) (cond t (add s.group.dead (subject_of s ev)) s.group.dead) ≡ 0 → ⊥
      go true d q = crash (eqb-true ev.kind 3 (sym ok.dies_is ∙ d)) q
      go false d q = f.lives q

  -- ---- the state

  member_more : (i : ℕ) (r : Rank) (row : List ℕ) → MemberInOrder anc s.group.n s.group.dead i r row → MemberInOrder anc s.group.n dead' i r row
  member_more i r row x = record { in_order = x.in_order; table = x.table; marks_dead = λ k h. dead_more k (x.marks_dead k h) }

  pub applied_facts : InOrderFacts anc (applied s ev.a (subject_of s ev) p)
  unfolding applied dead'
  applied_facts = record {
    shaped = record { ranks-long = length-set s.group.ranks (subject_of s ev) p.acted.rank ∙ f.shaped.ranks-long; rows_long = length-set s.tables (subject_of s ev) p.acted.row ∙ f.shaped.rows_long; net-long = padded-long list posted_fits };
    shape = f.shape;
    lives = still_lives;
    dead_in = dead_within;
    count-le = posted_fits;
    member = λ i l. seat i l (eq_or_ne i me');
    stranger = λ i l h. (get_or-set_other s.group.ranks me' i p.acted.rank zero_rank (λ q. omega (arith, own')) ∙ (f.stranger i l h).0, get_or-set_other s.tables me' i p.acted.row [] (λ q. omega (arith, own')) ∙ (f.stranger i l h).1);
    message = λ i l. subst (MessageInOrder s.group.n dead') (sym (padded_in list i l)) (message_more s.group.n s.group.dead dead' (get_or list i zero_message) dead_more (posted_in_order zero_message i l));
    vacant = λ i l h. padded-past list i l;
  }
    where
      me' : ℕ
      me' = subject_of s ev

      own' : subject_of s ev < s.group.n
      own' = subject_in anc s f ev

      list : List Message
      list = posted (flying s) ev.a (subject_of s ev) p

      seat : (i : ℕ) → i < s.group.n → (i ≡ subject_of s ev) ⊎ (i ≡ subject_of s ev → ⊥) → MemberInOrder anc s.group.n dead' i (get_or (set s.group.ranks (subject_of s ev) p.acted.rank) i zero_rank) (get_or (set s.tables (subject_of s ev) p.acted.row) i [])
      seat i l (inl q) =
          rw (q, get_or-set_same s.group.ranks (subject_of s ev) p.acted.rank zero_rank (let x = f.shaped.ranks-long in let y = f.shape.small in omega (arith, own')), get_or-set_same s.tables (subject_of s ev) p.acted.row [] (let x = f.shaped.rows_long in let y = f.shape.small in omega (arith, own')))
          (member_more (subject_of s ev) p.acted.rank p.acted.row outcome.seat)
      seat i l (inr q) =
          rw (get_or-set_other s.group.ranks (subject_of s ev) i p.acted.rank zero_rank q, get_or-set_other s.tables (subject_of s ev) i p.acted.row [] q)
          (member_more i (rank_at s i) (row_at s i) (f.member i l))

-- ---- the theorem

pub stepped-cases : (anc : ℕ → ℕ) (s : State) (ev : Event) (P : State → Type 0) → P s → ((p : Planned) → p ≡ plan_of anc s ev → p.answer ≡ 0 → P (applied s ev.a (subject_of s ev) p)) → P (stepped anc s ev).state
unfolding stepped carried
stepped-cases anc s ev P same taken = go (eqb (plan_of anc s ev).answer 0) refl
  where
    go : (t : Bool) → eqb (plan_of anc s ev).answer 0 ≡ t → P (cond {A = Stepped} t (record { answer = 0; sent = size (plan_of anc s ev).acted.first + size (plan_of anc s ev).acted.second; moved = (plan_of anc s ev).acted.moved; state = applied s ev.a (subject_of s ev) (plan_of anc s ev) }) (record { answer = (plan_of anc s ev).answer; sent = 0; moved = nobody; state = s })).state
    go true e = taken (plan_of anc s ev) refl (eqb-true (plan_of anc s ev).answer 0 e)
    go false e = same

-- The step changes one rank's record and row, the dead set and the list, and nothing else.
pub step_changes_one : (anc : ℕ → ℕ) (s : State) (ev : Event) (j : ℕ) → (j ≡ subject_of s ev → ⊥)
    → ((stepped anc s ev).state.group.n ≡ s.group.n) × (rank_at (stepped anc s ev).state j ≡ rank_at s j) × (row_at (stepped anc s ev).state j ≡ row_at s j)
unfolding applied
step_changes_one anc s ev j h =
    stepped-cases anc s ev (λ t. (t.group.n ≡ s.group.n) × (rank_at t j ≡ rank_at s j) × (row_at t j ≡ row_at s j)) (refl, refl, refl)
    (λ p e z. (refl, get_or-set_other s.group.ranks (subject_of s ev) j p.acted.rank zero_rank h, get_or-set_other s.tables (subject_of s ev) j p.acted.row [] h))

-- An event on a state in order gives a state in order.
pub step_keeps_order : (anc : ℕ → ℕ) (s : State) (ev : Event) → InOrder anc s → InOrder anc (stepped anc s ev).state
step_keeps_order anc s ev o =
    let f = in_order_facts anc s o in
    stepped-cases anc s ev (InOrder anc) o (λ p e z. facts_in_order anc (applied s ev.a (subject_of s ev) p) (applied_facts anc s f ev p e z))
