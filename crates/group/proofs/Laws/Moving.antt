-- Which links of which tables an accepted event moves, on any state in order. Before and after the event each table is the one worked out
-- afresh, and two fresh tables one death apart differ exactly at the links that ended at the dead rank. Over any ancestor sets. Assumes nothing.
use mathlib.Core.Path.{◌≡◌, refl, sym, ap, subst, ◌∙◌}
use mathlib.Core.Bool.{true, false, ◌||◌}
use mathlib.Core.List.{List}
use mathlib.Core.Logic.{◌⊎◌, inl, inr, ⊎_elim}
use Prim.Native.Nat.{ℕ, ◌+◌, ◌≤◌, ◌<◌}
use native.Mathlib.Numerals.{add-one}
use native.Mathlib.Omega.{arith}
use lib.ListN.{get_or}
use Rattle.sets.specs.Sets.{has, add, union, below}
use Rattle.sets.proofs.Laws.Bools.{eq_or_ne}
use Rattle.sets.proofs.Laws.Members.{add-again, union-below-suc, union-below-zero}
use Rattle.tree.specs.Tree.{fresh}
use Rattle.tree.proofs.Laws.Parents.{marked_more}
use Rattle.tree.proofs.Laws.Mending.{table_moves_exactly, table_free}
use Rattle.rank.specs.declared.Rank.{Rank}
use Rattle.rank.specs.Words.{up, down, ask}
use Rattle.net.proofs.Facts.{MessageInOrder}
use Rattle.events.specs.Events.{event_of}
use Rattle.events.proofs.Laws.Naming.{names_a_rank, names_a_place}
use Rattle.events.specs.declared.Event.{Event}
use Rattle.refusals.proofs.Laws.Refusing.{clean_rank, clean_place, clean_notice}
use Rattle.state.specs.declared.State.{State}
use Rattle.state.specs.States.{rank_at, row_at, place_at}
use Rattle.order.proofs.Facts.{InOrderFacts}
use Rattle.order.specs.Between.{InOrder}
use Rattle.order.proofs.Laws.Ordering.{in_order_facts}
use Rattle.plans.proofs.Laws.Cases.{is_dropped, is_undropped}
use Rattle.plans.proofs.Laws.Knowing as Knowing
use Rattle.group.specs.Events.{Stepped, applied, subject_of, stepped, event}
use Rattle.group.specs.Reaching.{MovesExactly, table_below, AskMoves}
use Rattle.group.proofs.Laws.Stepping.{step_taken, subject-named, subject_receives, subject_in}
use Rattle.group.proofs.Laws.Preserving.{stepped-cases, step_changes_one, step_keeps_order}
use Rattle.group.proofs.Laws.Events.{event_steps_on, event-accepted}
use Rattle.group.proofs.Laws.Knowing.{acting_on, step_acts}

-- ---- before and after an event

pub event_keeps_order : (anc : ℕ → ℕ) (s : State) (ev : Event) → InOrder anc s → InOrder anc (event anc s ev).state
event_keeps_order anc s ev o = subst (λ (x : Stepped). InOrder anc x.state) (sym (event_steps_on anc s ev o)) (step_keeps_order anc s ev o)

step-size : (anc : ℕ → ℕ) (s : State) (ev : Event) → (stepped anc s ev).state.group.n ≡ s.group.n
unfolding applied
step-size anc s ev = stepped-cases anc s ev (λ t. t.group.n ≡ s.group.n) refl (λ p e z. refl)

pub event-size : (anc : ℕ → ℕ) (s : State) (ev : Event) → InOrder anc s → (event anc s ev).state.group.n ≡ s.group.n
event-size anc s ev o = ap (λ (x : Stepped). x.state.group.n) (event_steps_on anc s ev o) ∙ step-size anc s ev

pub table-fresh : (anc : ℕ → ℕ) (s : State) (n i : ℕ) → InOrder anc s → s.group.n ≡ n → i < n → row_at s i ≡ fresh anc n (rank_at s i).marks
table-fresh anc s n i o e l = ((in_order_facts anc s o).member i (omega arith)).table ∙ ap (λ (m : ℕ). fresh anc m (rank_at s i).marks) e

-- No link ends at a rank that is known to be dead.
pub link_free : (anc : ℕ → ℕ) (s : State) (i p k : ℕ) → InOrder anc s → i < s.group.n → p < s.group.n → has (rank_at s i).marks k ≡ true → get_or (row_at s i) p 0 ≡ k → ⊥
link_free anc s i p k o l b h e =
    let f = in_order_facts anc s o in
    let small : s.group.n ≤ 64 = f.shape.small in
    let c : k < s.group.n = (f.member i l).in_order.to_settle.marks_inside.inside k h in
    table_free anc s.group.n (rank_at s i).marks k p small (omega arith) b h (sym (ap (λ (t : List ℕ). get_or t p 0) (table-fresh anc s s.group.n i o refl l)) ∙ e)

-- ---- any accepted event

module _ (anc : ℕ → ℕ) (s : State) (o : InOrder anc s) (ev : Event) (z : (event anc s ev).answer ≡ 0) where
  facts : InOrderFacts anc s
  facts = in_order_facts anc s o

  steps : event anc s ev ≡ stepped anc s ev
  steps = event_steps_on anc s ev o

  -- the table of any rank afterwards
  after-fresh : (i : ℕ) → i < s.group.n → row_at (event anc s ev).state i ≡ fresh anc s.group.n (rank_at (event anc s ev).state i).marks
  after-fresh i l = table-fresh anc (event anc s ev).state s.group.n i (event_keeps_order anc s ev o) (event-size anc s ev o) l

  -- the rank that the event is about knows what its rule had it know
  subject-knows : (marks : ℕ) → (acting_on anc s ev).rank.marks ≡ marks → (rank_at (event anc s ev).state (subject_of s ev)).marks ≡ marks
  subject-knows marks e =
      ap (λ (x : Stepped). (rank_at x.state (subject_of s ev)).marks) steps
      ∙ ap (λ (r : Rank). r.marks) (step_acts anc s ev facts (event-accepted anc s ev o z)) ∙ e

  -- and if it knows no more than before, its table is as it was
  subject_stays : (acting_on anc s ev).rank.marks ≡ (rank_at s (subject_of s ev)).marks → row_at (event anc s ev).state (subject_of s ev) ≡ row_at s (subject_of s ev)
  subject_stays e =
      let l : subject_of s ev < s.group.n = subject_in anc s facts ev in
      after-fresh (subject_of s ev) l ∙ ap (fresh anc s.group.n) (subject-knows (rank_at s (subject_of s ev)).marks e) ∙ sym (table-fresh anc s s.group.n (subject_of s ev) o refl l)

  -- Every other rank keeps its record and its row.
  pub others_stay : (j : ℕ) → (j ≡ subject_of s ev → ⊥) → (rank_at (event anc s ev).state j ≡ rank_at s j) × (row_at (event anc s ev).state j ≡ row_at s j)
  others_stay j h =
      let x = step_changes_one anc s ev j h in
      (ap (λ (y : Stepped). rank_at y.state j) steps ∙ x.1, ap (λ (y : Stepped). row_at y.state j) steps ∙ x.2)

  -- An event that lets its rank know no more leaves every row as it was.
  rows_stay : (acting_on anc s ev).rank.marks ≡ (rank_at s (subject_of s ev)).marks → (j : ℕ) → row_at (event anc s ev).state j ≡ row_at s j
  rows_stay e j =
      ⊎_elim (λ (q : j ≡ subject_of s ev). subst (λ (i : ℕ). row_at (event anc s ev).state i ≡ row_at s i) (sym q) (subject_stays e)) (λ (q : j ≡ subject_of s ev → ⊥). (others_stay j q).1) (eq_or_ne j (subject_of s ev))

  -- and every rank's marks
  marks_stay : (acting_on anc s ev).rank.marks ≡ (rank_at s (subject_of s ev)).marks → (j : ℕ) → (rank_at (event anc s ev).state j).marks ≡ (rank_at s j).marks
  marks_stay e j =
      ⊎_elim (λ (q : j ≡ subject_of s ev). subst (λ (i : ℕ). (rank_at (event anc s ev).state i).marks ≡ (rank_at s i).marks) (sym q) (subject-knows (rank_at s (subject_of s ev)).marks e))
      (λ (q : j ≡ subject_of s ev → ⊥). ap (λ (r : Rank). r.marks) (others_stay j q).0) (eq_or_ne j (subject_of s ev))

  -- a message that is delivered is in order
  pub delivered_in_order : ev.kind ≡ 2 → MessageInOrder s.group.n s.group.dead (place_at s ev.a)
  delivered_in_order k = facts.message ev.a (clean_place _ _ _ _ _ _ (step_taken anc s ev (event-accepted anc s ev o z)).clean (names_a_place ev.kind k))

  -- what is delivered and no ASK is an UP or a DOWN
  pub word_or_ask : ev.kind ≡ 2 → ((place_at s ev.a).kind ≡ ask → ⊥) → ((place_at s ev.a).kind ≡ up) ⊎ ((place_at s ev.a).kind ≡ down)
  word_or_ask e v =
      let l = delivered_in_order e in
      ⊎_elim (λ (u : (place_at s ev.a).kind ≡ up). inl u) (λ (u : (place_at s ev.a).kind ≡ up → ⊥). inr (second l.kind-low l.kind-high u)) (eq_or_ne (place_at s ev.a).kind up)
    where
      second : up ≤ (place_at s ev.a).kind → (place_at s ev.a).kind ≤ ask → ((place_at s ev.a).kind ≡ up → ⊥) → (place_at s ev.a).kind ≡ down
      second x y u = omega arith

  -- So do all but a notice and the delivery of an ASK.
  pub others_move_nothing : (ev.kind ≡ 4 → ⊥) → (ev.kind ≡ 2 → (place_at s ev.a).kind ≡ ask → ⊥) → (j : ℕ) → row_at (event anc s ev).state j ≡ row_at s j
  others_move_nothing h k = rows_stay (Knowing.other_calm anc _ _ ev _ _ _ _ h (λ e. word_or_ask e (k e))).0

  -- Nor does a rank learn of a death by them.
  pub others_tell_nothing : (ev.kind ≡ 4 → ⊥) → (ev.kind ≡ 2 → (place_at s ev.a).kind ≡ ask → ⊥) → (j : ℕ) → (rank_at (event anc s ev).state j).marks ≡ (rank_at s j).marks
  others_tell_nothing h k = marks_stay (Knowing.other_calm anc _ _ ev _ _ _ _ h (λ e. word_or_ask e (k e))).0

-- ---- a notice

module _ (anc : ℕ → ℕ) (s : State) (o : InOrder anc s) (a b : ℕ) (z : (event anc s (event_of 4 a b)).answer ≡ 0) where
  -- it is about rank a, and both ranks are of the group
  pub notice_about : (subject_of s (event_of 4 a b) ≡ a) × (a < s.group.n) × (b < s.group.n)
  notice_about =
      let c = (step_taken anc s (event_of 4 a b) (event-accepted anc s (event_of 4 a b) o z)).clean in
      let t = names_a_rank 4 (inr (inr (inl refl))) in
      let l = (clean_rank _ _ _ _ _ _ c t.0).0 in
      (subject-named s (event_of 4 a b) t.1 l, l, clean_notice _ _ _ _ _ _ c refl)

  pub notice-knows : (rank_at (event anc s (event_of 4 a b)).state a).marks ≡ add (rank_at s a).marks b
  notice-knows =
      subst (λ (i : ℕ). (rank_at (event anc s (event_of 4 a b)).state i).marks ≡ add (rank_at s i).marks b) notice_about.0
      (subject-knows anc s o (event_of 4 a b) z (add (rank_at s (subject_of s (event_of 4 a b))).marks b) (Knowing.notice-knows anc _ _ _ _ _ _ _ refl))

  notice-table : row_at (event anc s (event_of 4 a b)).state a ≡ fresh anc s.group.n (add (rank_at s a).marks b)
  notice-table = after-fresh anc s o (event_of 4 a b) z a notice_about.1 ∙ ap (fresh anc s.group.n) notice-knows

  -- One newly known death moves exactly the links that ended at the dead rank.
  pub notice-moves : MovesExactly s.group.n b (row_at s a) (row_at (event anc s (event_of 4 a b)).state a)
  notice-moves p l =
      let small : s.group.n ≤ 64 = (in_order_facts anc s o).shape.small in
      let c : b < s.group.n = notice_about.2 in
      rw (notice-table, table-fresh anc s s.group.n a o refl notice_about.1) (table_moves_exactly anc s.group.n (rank_at s a).marks b p small (omega arith) l)

  -- A death that was known already moves nothing.
  pub known_death_stays : has (rank_at s a).marks b ≡ true → row_at (event anc s (event_of 4 a b)).state a ≡ row_at s a
  known_death_stays h = notice-table ∙ ap (fresh anc s.group.n) (add-again (rank_at s a).marks b h) ∙ sym (table-fresh anc s s.group.n a o refl notice_about.1)

-- ---- a delivery

module _ (anc : ℕ → ℕ) (s : State) (o : InOrder anc s) (a b : ℕ) (z : (event anc s (event_of 2 a b)).answer ≡ 0) where
  -- it is about the message's receiver
  pub delivery_about : subject_of s (event_of 2 a b) ≡ (place_at s a).to
  delivery_about = subject_receives s (event_of 2 a b) (names_a_place 2 refl)

  module _ (t : has s.group.dead (place_at s a).to || has (rank_at s (place_at s a).to).marks (place_at s a).from ≡ true) where
    dropped_calm : (acting_on anc s (event_of 2 a b)).rank.marks ≡ (rank_at s (subject_of s (event_of 2 a b))).marks
    dropped_calm =
        (Knowing.dropped_calm anc _ _ _ _ _ _ _ refl (is_dropped s.group.dead (subject_of s (event_of 2 a b)) (place_at s a) (rank_at s (subject_of s (event_of 2 a b))) (subst (λ (i : ℕ). has s.group.dead i || has (rank_at s i).marks (place_at s a).from ≡ true) (sym delivery_about) t))).0

    -- A message to a dead rank, or from a sender that the receiver has marked, leaves every row as it was, and every rank's marks.
    pub dropped_moves_nothing : (j : ℕ) → row_at (event anc s (event_of 2 a b)).state j ≡ row_at s j
    dropped_moves_nothing = rows_stay anc s o (event_of 2 a b) z dropped_calm

    pub dropped_tells_nothing : (j : ℕ) → (rank_at (event anc s (event_of 2 a b)).state j).marks ≡ (rank_at s j).marks
    dropped_tells_nothing = marks_stay anc s o (event_of 2 a b) z dropped_calm

  module _ (k : (place_at s a).kind ≡ ask) (t : has s.group.dead (place_at s a).to || has (rank_at s (place_at s a).to).marks (place_at s a).from ≡ false) where
    pub ask-knows : (rank_at (event anc s (event_of 2 a b)).state (place_at s a).to).marks ≡ union (rank_at s (place_at s a).to).marks (below (place_at s a).from)
    ask-knows =
        subst (λ (i : ℕ). (rank_at (event anc s (event_of 2 a b)).state i).marks ≡ union (rank_at s i).marks (below (place_at s a).from)) delivery_about
        (subject-knows anc s o (event_of 2 a b) z (union (rank_at s (subject_of s (event_of 2 a b))).marks (below (place_at s a).from))
        (Knowing.ask-knows anc _ _ _ _ _ _ _ refl k (is_undropped s.group.dead (subject_of s (event_of 2 a b)) (place_at s a) (rank_at s (subject_of s (event_of 2 a b))) (subst (λ (i : ℕ). has s.group.dead i || has (rank_at s i).marks (place_at s a).from ≡ false) (sym delivery_about) t))))

    -- The marks of an ASK, one after the other, each move exactly the links that ended at the rank that is marked.
    pub ask-moves : AskMoves anc s.group.n (rank_at s (place_at s a).to).marks (place_at s a).from (row_at s (place_at s a).to) (row_at (event anc s (event_of 2 a b)).state (place_at s a).to)
    unfolding table_below
    ask-moves = record {
      begins = ap (fresh anc s.group.n) (union-below-zero marks) ∙ sym (table-fresh anc s s.group.n (place_at s a).to o refl receiver);
      each = λ j l p c. rw (ap (fresh anc s.group.n) (grown j)) (table_moves_exactly anc s.group.n (union marks (below j)) j p small (marked-small j l) c);
      known = λ j l h. ap (fresh anc s.group.n) (grown j ∙ add-again (union marks (below j)) j (marked_more marks j j h));
      ends = sym (after-fresh anc s o (event_of 2 a b) z (place_at s a).to receiver ∙ ap (fresh anc s.group.n) ask-knows);
    }
      where
        marks : ℕ
        marks = (rank_at s (place_at s a).to).marks

        small : s.group.n ≤ 64
        small = (in_order_facts anc s o).shape.small

        message : MessageInOrder s.group.n s.group.dead (place_at s a)
        message = delivered_in_order anc s o (event_of 2 a b) z refl

        receiver : (place_at s a).to < s.group.n
        receiver = message.to_in

        -- one mark more
        grown : (j : ℕ) → union (rank_at s (place_at s a).to).marks (below (j + 1)) ≡ add (union (rank_at s (place_at s a).to).marks (below j)) j
        grown j = ap (λ (x : ℕ). union (rank_at s (place_at s a).to).marks (below x)) (add-one j) ∙ sym (union-below-suc (rank_at s (place_at s a).to).marks j)

        marked-small : (j : ℕ) → j < (place_at s a).from → j < 255
        marked-small j l = let f : (place_at s a).from < s.group.n = message.from_in in let g : s.group.n ≤ 64 = small in omega arith
