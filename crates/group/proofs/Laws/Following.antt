-- An accepted event on a state in order is a move: one living rank takes its turn, with a message taken or with none, and speaks triple
-- for triple; or no record changes, no message joins, and at most one with a dead end is gone. Over any ancestor sets. Assumes nothing.
use mathlib.Core.Path.{◌≡◌, refl, sym, ap, subst, ◌∙◌}
use mathlib.Core.Bool.{Bool, true, false, cond}
use mathlib.Core.Logic.{◌⊎◌, inl, inr, ⊎_elim}
use Prim.Native.Nat.{ℕ, ◌≤◌, ◌<◌}
use native.Mathlib.Omega.{arith}
use lib.Dec.{eqb}
use lib.ListN.{length, get_or}
use lib.Seq.{get_or-take, get_or-set_same, get_or-set_other}
use borrow.Author.Tests.{ne_eqb}
use Rattle.sets.specs.Sets.{has, add}
use Rattle.sets.proofs.Laws.Bools.{clash, eq_or_ne, cond_false}
use Rattle.sets.proofs.Laws.Members.{has_add_more}
use Rattle.tree.specs.Relations.{Ancestry}
use Rattle.rank.specs.declared.Rank.{Rank}
use Rattle.rank.specs.declared.Acted.{Acted}
use Rattle.rank.specs.declared.Send.{Send}
use Rattle.rank.specs.Words.{outside, up, down, ask}
use Rattle.rank.specs.Triples.{zero_triple}
use Rattle.rank.specs.Records.{proposal}
use Rattle.rank.specs.declared.Triple.{Triple}
use Rattle.rank.proofs.Turn.{Says, Turn}
use Rattle.rank.proofs.Speech.{SaysTriple, Speech}
use Rattle.rank.proofs.Laws.SettleTurn.{ActedTurn, silence}
use Rattle.rank.proofs.Laws.RuleTurns.{enter_turn, up_turn, down_turn, ask_turn, notice_turn, acknowledge_turn}
use Rattle.rank.proofs.Laws.SettleSpeech.{any_triple}
use Rattle.rank.proofs.Laws.RuleSpeeches.{ActedSpeech, enter_speech, up_speech, down_speech, ask_speech, notice_speech, acknowledge_speech}
use Rattle.rank.proofs.Facts.{MemberInOrder}
use Rattle.net.specs.Net.{zero_message}
use Rattle.net.proofs.Facts.{MessageInOrder}
use Rattle.net.proofs.Laws.Among.{Among, Named, Bearing}
use Rattle.events.specs.declared.Event.{Event}
use Rattle.events.specs.Events.{event_of, names_rank, names_place}
use Rattle.events.proofs.Laws.Naming.{names_a_rank, names_a_place, place_kinds}
use Rattle.refusals.proofs.Laws.Refusing.{clean_notice, clean_outside, clean_told, clean_end}
use Rattle.state.specs.declared.State.{State}
use Rattle.state.specs.States.{zero_rank, rank_at, row_at, place_at, flying}
use Rattle.order.proofs.Facts.{InOrderFacts}
use Rattle.order.specs.Between.{InOrder}
use Rattle.order.proofs.Laws.Ordering.{in_order_facts}
use Rattle.plans.specs.Plans.{Planned, idle, delivered}
use Rattle.plans.proofs.Laws.Planning.{act-enters, act-delivers, act-notices, act-acknowledges, act-nothing}
use Rattle.plans.proofs.Laws.Cases as Plans
use Rattle.plans.proofs.Laws.Cases.{Dropped, delivered_by}
use Rattle.rank.specs.Rules.{taking_up, taking_down, taking_ask}
use Rattle.plans.proofs.Laws.Acting.{asker_below}
use Rattle.group.specs.Events.{posted, applied, subject_of, plan_of, event}
use Rattle.group.proofs.Scenes.{Flies, CarriesIn, scene}
use Rattle.group.proofs.Moves.{Move, by_rank, by_loss, Entry}
use Rattle.group.proofs.Laws.Stepping.{step_plan, subject_receives, subject_in}
use Rattle.group.proofs.Laws.Preserving.{ok, named, listed-there, outcome, list-long}
use Rattle.group.proofs.Laws.Events.{event-accepted, event-applied, refused_stays}
use Rattle.group.proofs.Laws.Flying.{posted_was, posted_stays, posted_joins, applied_flies, carries_applied}

-- the state after the plan of an event
abbrev after : State → Event → Planned → State
after s ev p = applied s ev.a (subject_of s ev) p

module _ (anc : ℕ → ℕ) (s : State) (f : InOrderFacts anc s) (ev : Event) (p : Planned) (e : p ≡ plan_of anc s ev) (z : p.answer ≡ 0) where
  flying-long : length (flying s) ≡ s.group.count
  flying-long = list-long anc s f ev p e z

  -- the list of the messages in flight, place by place
  flying-at : (i : ℕ) → i < s.group.count → get_or (flying s) i zero_message ≡ place_at s i
  flying-at i h = get_or-take s.group.count s.group.net i zero_message h

  flies_among : (k c x : ℕ) → Flies (scene s) k c x → Among (Named k c x) (flying s)
  flies_among k c x (w, m) = record { place = m.place; inside = subst (λ (y : ℕ). m.place < y) (sym flying-long) m.listed; so = subst (Named k c x) (sym (flying-at m.place m.listed)) (m.kind_is, m.from_is, m.to_is) }

  among_carries : (k c x : ℕ) (w : Triple) → Among (Bearing k c x w) (flying s) → CarriesIn s k c x w
  among_carries k c x w m =
      let h : m.place < s.group.count = subst (λ (y : ℕ). m.place < y) flying-long m.inside in
      let t : Bearing k c x w (place_at s m.place) = subst (Bearing k c x w) (flying-at m.place h) m.so in
      record { place = m.place; listed = h; kind_is = t.0.0; from_is = t.0.1; to_is = t.0.2; triple_is = t.1 }

  -- a message afterwards was in flight before, or its rank sent it
  carries_was : (k c x : ℕ) (w : Triple) → CarriesIn (after s ev p) k c x w → CarriesIn s k c x w ⊎ ((c ≡ subject_of s ev) × SaysTriple p.acted.first p.acted.second k w x)
  carries_was k c x w m = ⊎_elim (λ (n : Among (Bearing k c x w) (flying s)). inl (among_carries k c x w n)) (λ (n : (c ≡ subject_of s ev) × SaysTriple p.acted.first p.acted.second k w x). inr n) (posted_was k c x w (flying s) ev.a (subject_of s ev) p (carries_applied s ev.a (subject_of s ev) p k c x w m))

  flies_was : (k c x : ℕ) → Flies (scene (after s ev p)) k c x → Flies (scene s) k c x ⊎ ((c ≡ subject_of s ev) × Says p.acted.first p.acted.second k x)
  flies_was k c x (w, m) = ⊎_elim (λ (y : CarriesIn s k c x w). inl (w, y)) (λ (y : (c ≡ subject_of s ev) × SaysTriple p.acted.first p.acted.second k w x). inr (y.0, any_triple p.acted.first p.acted.second k w x y.1)) (carries_was k c x w m)

  -- one of before is in flight afterwards, or the event takes it out
  flies_stays : (k c x : ℕ) → Flies (scene s) k c x → Flies (scene (after s ev p)) k c x ⊎ ((names_place ev.kind ≡ true) × Named k c x (place_at s ev.a))
  flies_stays k c x m = ⊎_elim (λ (n : Among (Named k c x) (posted (flying s) ev.a (subject_of s ev) p)). inl (applied_flies s ev.a (subject_of s ev) p k c x n)) gone (posted_stays k c x (flying s) ev.a (subject_of s ev) p (flies_among k c x m))
    where
      gone : (p.leaves ≡ true) × Named k c x (get_or (flying s) ev.a zero_message) → Flies (scene (after s ev p)) k c x ⊎ ((names_place ev.kind ≡ true) × Named k c x (place_at s ev.a))
      gone (t, n) =
          let q : names_place ev.kind ≡ true = sym (ok anc s f ev p e z).leaves_is ∙ t in
          inr (q, subst (Named k c x) (flying-at ev.a (listed-there anc s f ev p e z q)) n)

  -- and all that its rank sends is
  flies_joins : (k x : ℕ) → Says p.acted.first p.acted.second k x → Flies (scene (after s ev p)) k (subject_of s ev) x
  flies_joins k x t = applied_flies s ev.a (subject_of s ev) p k (subject_of s ev) x (posted_joins (flying s) ev.a (subject_of s ev) p k x (small t) t)
    where
      small : Says p.acted.first p.acted.second k x → x < 64
      small (inl u) = omega (arith, f.shape.small, (outcome anc s f ev p e z).first-posted.to_in.inside x u.1)
      small (inr u) = omega (arith, f.shape.small, (outcome anc s f ev p e z).second_posted.to_in.inside x u.1)

  rank-after : rank_at (after s ev p) (subject_of s ev) ≡ p.acted.rank
  unfolding applied
  rank-after = get_or-set_same s.group.ranks (subject_of s ev) p.acted.rank zero_rank (let x = f.shaped.ranks-long in let y = f.shape.small in omega (arith, subject_in anc s f ev))

  others_after : (j : ℕ) → (j ≡ subject_of s ev → ⊥) → rank_at (after s ev p) j ≡ rank_at s j
  unfolding applied
  others_after j h = get_or-set_other s.group.ranks (subject_of s ev) j p.acted.rank zero_rank h

  dead_after : (after s ev p).group.dead ≡ cond (eqb ev.kind 3) (add s.group.dead (subject_of s ev)) s.group.dead
  unfolding applied
  dead_after = ap (λ (t : Bool). cond t (add s.group.dead (subject_of s ev)) s.group.dead) (ok anc s f ev p e z).dies_is

  -- ---- a turn, and a fading

  -- w is what the rank does, both a turn and a speech
  by_rank_after : (word q : ℕ) (v : Triple) → (ev.kind ≡ 3 → ⊥) → has s.group.dead (subject_of s ev) ≡ false
      → (w : Acted) → w ≡ p.acted → ActedTurn anc s.group.n (subject_of s ev) word q (rank_at s (subject_of s ev)) w → ActedSpeech anc s.group.n (subject_of s ev) word q v (Entry (scene s) ev (subject_of s ev) v) (rank_at s (subject_of s ev)) w
      → (names_place ev.kind ≡ true → Bearing word q (subject_of s ev) v (place_at s ev.a)) → ((word ≡ 0 → ⊥) → (names_place ev.kind ≡ true) × (has (rank_at s (subject_of s ev)).marks q ≡ false))
      → Move anc s.group.n (Entry (scene s) ev) (scene s) (scene (after s ev p))
  by_rank_after word q v h l w o t u m k = by_rank (subject_of s ev) word q v p.acted.first p.acted.second (record {
    own = subject_in anc s f ev;
    lives = l;
    dead_stays = dead_after ∙ cond_false (eqb ev.kind 3) (add s.group.dead (subject_of s ev)) s.group.dead (ne_eqb ev.kind 3 h);
    others = others_after;
    turn = subst (λ (r : Rank). Turn anc s.group.n (subject_of s ev) word q (rank_at s (subject_of s ev)) r p.acted.first p.acted.second) (sym rank-after) (subst (ActedTurn anc s.group.n (subject_of s ev) word q (rank_at s (subject_of s ev))) o t);
    took = λ d. (v, taken (k d).0);
    known = λ d. (k d).1;
    stays = λ j c x n. ⊎_elim (λ (y : Flies (scene (after s ev p)) j c x). inl y) (λ (y : (names_place ev.kind ≡ true) × Named j c x (place_at s ev.a)). inr (same j c x (m y.0).0 y.1)) (flies_stays j c x n);
    was = flies_was;
    joins = flies_joins;
  }) (record {
    speech = subst (λ (r : Rank). Speech anc s.group.n (subject_of s ev) word q v (Entry (scene s) ev (subject_of s ev) v) (rank_at s (subject_of s ev)) r p.acted.first p.acted.second) (sym rank-after) (subst (ActedSpeech anc s.group.n (subject_of s ev) word q v (Entry (scene s) ev (subject_of s ev) v) (rank_at s (subject_of s ev))) o u);
    took = λ d. taken (k d).0;
    asker = λ j c i. let y = (k (λ o. omega arith)).0 in (f.message ev.a (listed-there anc s f ev p e z y)).ask_dead ((m y).0.0 ∙ j) c (subst (λ (o : ℕ). c < o) (sym (m y).0.1) i);
    was = carries_was;
  })
    where
      taken : names_place ev.kind ≡ true → CarriesIn s word q (subject_of s ev) v
      taken y = let n = (m y).0 in record { place = ev.a; listed = listed-there anc s f ev p e z y; kind_is = n.0; from_is = n.1; to_is = n.2; triple_is = (m y).1 }

      same : (j c x : ℕ) → Named word q (subject_of s ev) (place_at s ev.a) → Named j c x (place_at s ev.a) → (j ≡ word) × (c ≡ q) × (x ≡ subject_of s ev)
      same j c x n y = (sym y.0 ∙ n.0, sym y.1 ∙ n.1, sym y.2 ∙ n.2)

  by_loss_after : p.acted ≡ idle (rank_at s (subject_of s ev)) (row_at s (subject_of s ev))
      → (names_place ev.kind ≡ true → (has s.group.dead (place_at s ev.a).from ≡ true) ⊎ (has s.group.dead (place_at s ev.a).to ≡ true))
      → Move anc s.group.n (Entry (scene s) ev) (scene s) (scene (after s ev p))
  by_loss_after i d = by_loss (record {
    dead_stays = λ k h. subst (λ (w : ℕ). has w k ≡ true) (sym dead_after) (more k h (eqb ev.kind 3));
    ranks_stay = λ j. ⊎_elim (λ (q : j ≡ subject_of s ev). subst (λ (y : ℕ). rank_at (after s ev p) y ≡ rank_at s y) (sym q) (rank-after ∙ ap (λ (y : Acted). y.rank) i)) (others_after j) (eq_or_ne j (subject_of s ev));
    was = λ k c x n. ⊎_elim (λ (y : Flies (scene s) k c x). y) (λ (y : (c ≡ subject_of s ev) × Says p.acted.first p.acted.second k x). absurd (mute k x y.1)) (flies_was k c x n);
    was_carried = λ k c x w n. ⊎_elim (λ (y : CarriesIn s k c x w). y) (λ (y : (c ≡ subject_of s ev) × SaysTriple p.acted.first p.acted.second k w x). absurd (mute k x (any_triple p.acted.first p.acted.second k w x y.1))) (carries_was k c x w n);
    stays = λ k c x u v n. ⊎_elim (λ (y : Flies (scene (after s ev p)) k c x). y) (λ (y : (names_place ev.kind ≡ true) × Named k c x (place_at s ev.a)). absurd (gone k c x u v y.1 (d y.0))) (flies_stays k c x n);
  })
    where
      mute : (k x : ℕ) → Says p.acted.first p.acted.second k x → ⊥
      mute k x y = silence k x (subst (λ (w : Acted). Says w.first w.second k x) i y)

      more : (k : ℕ) → has s.group.dead k ≡ true → (t : Bool) → has (cond t (add s.group.dead (subject_of s ev)) s.group.dead) k ≡ true
      more k h true = has_add_more s.group.dead (subject_of s ev) k h
      more k h false = h

      gone : (k c x : ℕ) → has s.group.dead c ≡ false → has s.group.dead x ≡ false → Named k c x (place_at s ev.a) → (has s.group.dead (place_at s ev.a).from ≡ true) ⊎ (has s.group.dead (place_at s ev.a).to ≡ true) → ⊥
      gone k c x u v n (inl t) = clash (has s.group.dead c) (subst (λ (y : ℕ). has s.group.dead y ≡ true) n.1 t) u
      gone k c x u v n (inr t) = clash (has s.group.dead x) (subst (λ (y : ℕ). has s.group.dead y ≡ true) n.2 t) v

  -- ---- the kinds of events

  -- the rank of an entry is the one that it names, and is outside
  enters-named : ev.kind ≡ 1 → subject_of s ev ≡ ev.a
  enters-named k = let t = names_a_rank ev.kind (inl k) in (named anc s f ev p e z t.0 t.1).0

  enters-outside : ev.kind ≡ 1 → (rank_at s (subject_of s ev)).phase ≡ outside
  enters-outside k = clean_outside _ _ _ _ _ _ (ok anc s f ev p e z).clean k

  module _ (tree : Ancestry anc) where
    seat : MemberInOrder anc s.group.n s.group.dead (subject_of s ev) (rank_at s (subject_of s ev)) (row_at s (subject_of s ev))
    seat = f.member (subject_of s ev) (subject_in anc s f ev)

    -- the rank of an event that names one lives
    named_lives : names_rank ev.kind ≡ true → names_place ev.kind ≡ false → has s.group.dead (subject_of s ev) ≡ false
    named_lives r q = let x = named anc s f ev p e z r q in subst (λ (y : ℕ). has s.group.dead y ≡ false) (sym x.0) x.2

    -- one that takes no message, kind 1, 4 or 6, is a turn without one
    silent_turn : (v : Triple) → names_rank ev.kind ≡ true → names_place ev.kind ≡ false → (ev.kind ≡ 3 → ⊥) → (w : Acted) → w ≡ p.acted → ActedTurn anc s.group.n (subject_of s ev) 0 0 (rank_at s (subject_of s ev)) w → ActedSpeech anc s.group.n (subject_of s ev) 0 0 v (Entry (scene s) ev (subject_of s ev) v) (rank_at s (subject_of s ev)) w
        → Move anc s.group.n (Entry (scene s) ev) (scene s) (scene (after s ev p))
    silent_turn v r q h w o t u = by_rank_after 0 0 v h (named_lives r q) w o t u (λ y. absurd (clash (names_place ev.kind) y q)) (λ d. absurd (d refl))

    enters-moves : ev.kind ≡ 1 → Move anc s.group.n (Entry (scene s) ev) (scene s) (scene (after s ev p))
    enters-moves k =
        let t = names_a_rank ev.kind (inl k) in
        silent_turn (proposal ev.b (rank_at s (subject_of s ev))) t.0 t.1 (λ x. omega arith) _ (act-enters anc s.group.n s.group.dead ev (place_at s ev.a) (subject_of s ev) (rank_at s (subject_of s ev)) (row_at s (subject_of s ev)) _ k refl ∙ sym (ok anc s f ev p e z).acted_is)
        (enter_turn anc tree s.group.n (subject_of s ev) f.shape.small (subject_in anc s f ev) ev.b (rank_at s (subject_of s ev)) seat.in_order (enters-outside k))
        (enter_speech anc s.group.n (subject_of s ev) f.shape.small (subject_in anc s f ev) (Entry (scene s) ev (subject_of s ev) (proposal ev.b (rank_at s (subject_of s ev)))) (k, enters-named k, ap (λ (i : ℕ). proposal ev.b (rank_at s i)) (enters-named k)) ev.b (rank_at s (subject_of s ev)) seat.in_order (enters-outside k))

    notices-moves : ev.kind ≡ 4 → Move anc s.group.n (Entry (scene s) ev) (scene s) (scene (after s ev p))
    notices-moves k =
        let t = names_a_rank ev.kind (inr (inr (inl k))) in
        let d : has s.group.dead ev.b ≡ true = clean_told _ _ _ _ _ _ (ok anc s f ev p e z).clean k in
        let o : ev.b ≡ subject_of s ev → ⊥ = λ q. clash (has s.group.dead (subject_of s ev)) (subst (λ (x : ℕ). has s.group.dead x ≡ true) q d) (named_lives t.0 t.1) in
        let l : ev.b < s.group.n = clean_notice _ _ _ _ _ _ (ok anc s f ev p e z).clean k in
        silent_turn zero_triple t.0 t.1 (λ x. omega arith) _ (act-notices anc s.group.n s.group.dead ev (place_at s ev.a) (subject_of s ev) (rank_at s (subject_of s ev)) (row_at s (subject_of s ev)) _ k refl ∙ sym (ok anc s f ev p e z).acted_is)
        (notice_turn anc tree s.group.n (subject_of s ev) f.shape.small (subject_in anc s f ev) ev.b (rank_at s (subject_of s ev)) seat.in_order l o)
        (notice_speech anc s.group.n (subject_of s ev) f.shape.small (subject_in anc s f ev) (Entry (scene s) ev (subject_of s ev) zero_triple) zero_triple ev.b (rank_at s (subject_of s ev)))

    acknowledges-moves : ev.kind ≡ 6 → Move anc s.group.n (Entry (scene s) ev) (scene s) (scene (after s ev p))
    acknowledges-moves k =
        let t = names_a_rank ev.kind (inr (inr (inr k))) in
        silent_turn zero_triple t.0 t.1 (λ x. omega arith) _ (act-acknowledges anc s.group.n s.group.dead ev (place_at s ev.a) (subject_of s ev) (rank_at s (subject_of s ev)) (row_at s (subject_of s ev)) _ k refl ∙ sym (ok anc s f ev p e z).acted_is)
        (acknowledge_turn anc tree s.group.n (subject_of s ev) f.shape.small (subject_in anc s f ev) (rank_at s (subject_of s ev)))
        (acknowledge_speech anc s.group.n (subject_of s ev) f.shape.small (subject_in anc s f ev) (Entry (scene s) ev (subject_of s ev) zero_triple) zero_triple (rank_at s (subject_of s ev)))

    -- a crash changes no record, and a message that is lost has a dead end
    rest_by_loss : (ev.kind ≡ 1 → ⊥) → (ev.kind ≡ 2 → ⊥) → (ev.kind ≡ 4 → ⊥) → (ev.kind ≡ 6 → ⊥) → Move anc s.group.n (Entry (scene s) ev) (scene s) (scene (after s ev p))
    rest_by_loss h i j d =
        by_loss_after ((ok anc s f ev p e z).acted_is ∙ sym (act-nothing anc s.group.n s.group.dead ev (place_at s ev.a) (subject_of s ev) (rank_at s (subject_of s ev)) (row_at s (subject_of s ev)) _ h i j d refl))
        (λ t. ⊎_elim (λ (x : ev.kind ≡ 2). absurd (i x)) (λ (x : ev.kind ≡ 5). clean_end _ _ _ _ _ _ (ok anc s f ev p e z).clean x) (place_kinds ev.kind t))

    -- ---- a delivery

    module _ (k : ev.kind ≡ 2) where
      message : MessageInOrder s.group.n s.group.dead (place_at s ev.a)
      message = f.message ev.a (listed-there anc s f ev p e z (names_a_place ev.kind k))

      receiver : (place_at s ev.a).to ≡ subject_of s ev
      receiver = sym (subject_receives s ev (names_a_place ev.kind k))

      acted_delivered : p.acted ≡ delivered anc s.group.n s.group.dead (subject_of s ev) (place_at s ev.a) (rank_at s (subject_of s ev)) (row_at s (subject_of s ev))
      acted_delivered = (ok anc s f ev p e z).acted_is ∙ sym (act-delivers anc s.group.n s.group.dead ev (place_at s ev.a) (subject_of s ev) (rank_at s (subject_of s ev)) (row_at s (subject_of s ev)) _ k refl)

      -- to a dead rank, or from a sender that the receiver has marked, who is dead
      dropped_by_loss : Dropped s.group.dead (subject_of s ev) (place_at s ev.a) (rank_at s (subject_of s ev)) → idle (rank_at s (subject_of s ev)) (row_at s (subject_of s ev)) ≡ p.acted → Move anc s.group.n (Entry (scene s) ev) (scene s) (scene (after s ev p))
      dropped_by_loss t o =
          by_loss_after (sym o)
          (λ x. ⊎_elim (λ (u : has s.group.dead (subject_of s ev) ≡ true). inr (subst (λ (y : ℕ). has s.group.dead y ≡ true) (sym receiver) u)) (λ (u : has (rank_at s (subject_of s ev)).marks (place_at s ev.a).from ≡ true). inl (seat.marks_dead (place_at s ev.a).from u)) t)

      module _ (t : Plans.Undropped s.group.dead (subject_of s ev) (place_at s ev.a) (rank_at s (subject_of s ev))) where
        taken_turn : (word : ℕ) → (place_at s ev.a).kind ≡ word → (w : Acted) → w ≡ p.acted → ActedTurn anc s.group.n (subject_of s ev) word (place_at s ev.a).from (rank_at s (subject_of s ev)) w → ActedSpeech anc s.group.n (subject_of s ev) word (place_at s ev.a).from (place_at s ev.a).triple (Entry (scene s) ev (subject_of s ev) (place_at s ev.a).triple) (rank_at s (subject_of s ev)) w
            → Move anc s.group.n (Entry (scene s) ev) (scene s) (scene (after s ev p))
        taken_turn word j w o u v = by_rank_after word (place_at s ev.a).from (place_at s ev.a).triple (λ x. omega arith) t.lives w o u v (λ y. ((j, refl, receiver), refl)) (λ d. (names_a_place ev.kind k, t.unmarked))

        up-moves : (place_at s ev.a).kind ≡ up → taking_up anc s.group.n (subject_of s ev) (place_at s ev.a).from (place_at s ev.a).triple (rank_at s (subject_of s ev)) ≡ p.acted → Move anc s.group.n (Entry (scene s) ev) (scene s) (scene (after s ev p))
        up-moves w o = taken_turn up w _ o
            (up_turn anc tree s.group.n (subject_of s ev) f.shape.small (subject_in anc s f ev) (place_at s ev.a).from (place_at s ev.a).triple (rank_at s (subject_of s ev)) seat.in_order)
            (up_speech anc s.group.n (subject_of s ev) f.shape.small (subject_in anc s f ev) (Entry (scene s) ev (subject_of s ev) (place_at s ev.a).triple) (place_at s ev.a).from (place_at s ev.a).triple (rank_at s (subject_of s ev)) seat.in_order)

        down-moves : (place_at s ev.a).kind ≡ down → taking_down anc s.group.n (subject_of s ev) (place_at s ev.a).triple (rank_at s (subject_of s ev)) ≡ p.acted → Move anc s.group.n (Entry (scene s) ev) (scene s) (scene (after s ev p))
        down-moves w o = taken_turn down w _ o
            (down_turn anc tree s.group.n (subject_of s ev) f.shape.small (subject_in anc s f ev) (place_at s ev.a).from (place_at s ev.a).triple (rank_at s (subject_of s ev)))
            (down_speech anc s.group.n (subject_of s ev) f.shape.small (subject_in anc s f ev) (Entry (scene s) ev (subject_of s ev) (place_at s ev.a).triple) (place_at s ev.a).from (place_at s ev.a).triple (rank_at s (subject_of s ev)))

        ask-moves : (place_at s ev.a).kind ≡ ask → taking_ask anc s.group.n (subject_of s ev) (place_at s ev.a).from (rank_at s (subject_of s ev)) ≡ p.acted → Move anc s.group.n (Entry (scene s) ev) (scene s) (scene (after s ev p))
        ask-moves w o =
            let l : (place_at s ev.a).from < subject_of s ev = asker_below anc s.group.n s.group.dead (subject_of s ev) f.shape.small (subject_in anc s f ev) (place_at s ev.a) message receiver w t.lives in
            taken_turn ask w _ o
            (ask_turn anc tree s.group.n (subject_of s ev) f.shape.small (subject_in anc s f ev) (place_at s ev.a).from (rank_at s (subject_of s ev)) seat.in_order l t.unmarked)
            (ask_speech anc s.group.n (subject_of s ev) f.shape.small (subject_in anc s f ev) (Entry (scene s) ev (subject_of s ev) (place_at s ev.a).triple) (place_at s ev.a).from (place_at s ev.a).triple (rank_at s (subject_of s ev)) l)

      delivers-moves : Move anc s.group.n (Entry (scene s) ev) (scene s) (scene (after s ev p))
      delivers-moves =
          delivered_by anc s.group.n s.group.dead (subject_of s ev) (place_at s ev.a) (rank_at s (subject_of s ev)) (row_at s (subject_of s ev)) (λ w. w ≡ p.acted → Move anc s.group.n (Entry (scene s) ev) (scene s) (scene (after s ev p)))
          dropped_by_loss up-moves down-moves (λ t x y. ask-moves t (third (place_at s ev.a).kind message.kind-low message.kind-high x y)) (sym acted_delivered)
        where
          third : (w : ℕ) → up ≤ w → w ≤ ask → (w ≡ up → ⊥) → (w ≡ down → ⊥) → w ≡ ask
          third w l h x y = omega arith

    plan_moves : Move anc s.group.n (Entry (scene s) ev) (scene s) (scene (after s ev p))
    plan_moves = ⊎_elim enters-moves (λ (x : ev.kind ≡ 1 → ⊥). ⊎_elim delivers-moves (λ (y : ev.kind ≡ 2 → ⊥). ⊎_elim notices-moves (λ (w : ev.kind ≡ 4 → ⊥). ⊎_elim acknowledges-moves (rest_by_loss x y w) (eq_or_ne ev.kind 6)) (eq_or_ne ev.kind 4)) (eq_or_ne ev.kind 2)) (eq_or_ne ev.kind 1)

-- ---- the theorem

-- An accepted event on a state in order is a move; only kind 1 enters a rank, which proposes the word of the event with what it knows.
pub event-moves : (anc : ℕ → ℕ) → Ancestry anc → (s : State) (ev : Event) → InOrder anc s → (event anc s ev).answer ≡ 0 → Move anc s.group.n (Entry (scene s) ev) (scene s) (scene (event anc s ev).state)
event-moves anc tree s ev o z =
    subst (λ (x : State). Move anc s.group.n (Entry (scene s) ev) (scene s) (scene x)) (sym (event-applied anc s ev o z))
    (plan_moves anc s (in_order_facts anc s o) ev (plan_of anc s ev) refl (step_plan anc s ev (event-accepted anc s ev o z)) tree)

-- What any event, accepted or not, leaves of a rank's record: as it was, or the turn of a living rank.
pub each-rank : (anc : ℕ → ℕ) → Ancestry anc → (s : State) (ev : Event) (j : ℕ) → InOrder anc s → (P : Rank → Rank → Type 0) → ((r : Rank) → P r r)
    → ((k q : ℕ) (f g : Send) → has s.group.dead j ≡ false → Turn anc s.group.n j k q (rank_at s j) (rank_at (event anc s ev).state j) f g → P (rank_at s j) (rank_at (event anc s ev).state j))
    → P (rank_at s j) (rank_at (event anc s ev).state j)
each-rank anc tree s ev j o P same turned =
    ⊎_elim (λ (z : (event anc s ev).answer ≡ 0). went (event-moves anc tree s ev o z)) (λ (d : (event anc s ev).answer ≡ 0 → ⊥). stays (ap (λ (t : State). rank_at t j) (refused_stays anc s ev d))) (eq_or_ne (event anc s ev).answer 0)
  where
    stays : rank_at (event anc s ev).state j ≡ rank_at s j → P (rank_at s j) (rank_at (event anc s ev).state j)
    stays e = subst (P (rank_at s j)) (sym e) (same (rank_at s j))

    went : Move anc s.group.n (Entry (scene s) ev) (scene s) (scene (event anc s ev).state) → P (rank_at s j) (rank_at (event anc s ev).state j)
    went (by_rank p k q v f g m w) =
        ⊎_elim (λ (e : p ≡ j). turned k q f g (subst (λ (i : ℕ). has s.group.dead i ≡ false) e m.lives) (subst (λ (i : ℕ). Turn anc s.group.n i k q (rank_at s i) (rank_at (event anc s ev).state i) f g) e m.turn))
        (λ (d : p ≡ j → ⊥). stays (m.others j (λ x. d (sym x)))) (eq_or_ne p j)
    went (by_loss m) = stays (m.ranks_stay j)

-- A rank that enters was outside.
pub enters_from_outside : (anc : ℕ → ℕ) (s : State) (a b : ℕ) → InOrder anc s → (event anc s (event_of 1 a b)).answer ≡ 0 → (rank_at s a).phase ≡ outside
enters_from_outside anc s a b o z =
    let f = in_order_facts anc s o in
    let y = step_plan anc s (event_of 1 a b) (event-accepted anc s (event_of 1 a b) o z) in
    subst (λ (x : ℕ). (rank_at s x).phase ≡ outside) (enters-named anc s f (event_of 1 a b) (plan_of anc s (event_of 1 a b)) refl y refl) (enters-outside anc s f (event_of 1 a b) (plan_of anc s (event_of 1 a b)) refl y refl)
