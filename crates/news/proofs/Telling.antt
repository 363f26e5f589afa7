-- News to a rank: a notice marks one rank, an ASK every rank below its sender, and nothing else an event does tells a rank of a death. Assumes
-- nothing.
use mathlib.Core.Path.{◌≡◌, refl, sym, ap, subst, ◌∙◌}
use mathlib.Core.Bool.{Bool, true, false, not, ◌&&◌, ◌||◌}
use mathlib.Core.List.{List, [], ◌∷◌, append-nil, foldl, foldl-append}
use mathlib.Core.Logic.{⊎_elim}
use Prim.Native.Nat.{ℕ, ◌≤◌, ◌<◌}
use native.Mathlib.Omega.{arith}
use lib.Dec.{eqb}
use borrow.Author.Tests.{eq-eqb, ne_eqb, eqb-true, not-true}
use Rattle.sets.specs.Sets.{has, add, union, below, listed}
use Rattle.sets.proofs.Laws.Bools.{clash, passes_or_fails, passes, eq_or_ne, and_i, and_l, and_r, not_i}
use Rattle.tree.specs.Tree.{fresh}
use Rattle.rank.specs.declared.Rank.{Rank}
use Rattle.rank.specs.declared.Acted.{Acted}
use Rattle.rank.specs.Words.{ask}
use Rattle.rank.proofs.Laws.Keeping.{fresh-marks}
use Rattle.rank.proofs.Laws.Knowing as Rank
use Rattle.rank.proofs.Laws.Knowing.{ask-row, notice-row}
use Rattle.events.specs.declared.Event.{Event}
use Rattle.events.specs.Events.{event_of}
use Rattle.state.specs.declared.State.{State}
use Rattle.state.specs.States.{rank_at, place_at}
use Rattle.state.specs.Starting.{started}
use Rattle.state.proofs.Laws.Starting.{started-fresh, fresh-rank-at}
use Rattle.order.specs.Between.{InOrder}
use Rattle.group.specs.Events.{event}
use Rattle.group.specs.Reaching.{Reaches, begun, next}
use Rattle.group.proofs.Laws.Moving.{others_stay, others_tell_nothing, notice_about, notice-knows, delivery_about, dropped_tells_nothing, ask-knows}
use Rattle.group.proofs.Laws.Reached.{reached-small, reached_in_order}
use Rattle.news.specs.News.{Shows, in_acted, News, by_notice, by_ask, tells_of, all_told, takes, takes_ask, brings, news_to}
use Rattle.news.proofs.Lists.{added-below, told_append}

-- ---- the rules

module _ (anc : ℕ → ℕ) (n me : ℕ) where
  pub notice_shows : (x : Acted) (q : ℕ) → Shows anc n (add x.rank.marks q) (in_acted (takes anc n me x (by_notice q)))
  unfolding takes
  notice_shows x q = ((Rank.notice-knows anc n me q x.rank).marks_are, notice-row anc n me q x.rank ∙ ap (fresh anc n) (Rank.notice-knows anc n me q x.rank).marks_are)

  pub ask_shows : (q : ℕ) (x : Acted) → Shows anc n (union x.rank.marks (below q)) (in_acted (takes anc n me x (by_ask q)))
  unfolding takes
  ask_shows q x = ((Rank.ask-knows anc n me q x.rank).marks_are, ask-row anc n me q x.rank ∙ ap (fresh anc n) (Rank.ask-knows anc n me q x.rank).marks_are)

  -- a piece of news, and a list of them, add what they tell of
  takes_shows : (x : Acted) (e : News) → Shows anc n (foldl add x.rank.marks (tells_of e)) (in_acted (takes anc n me x e))
  unfolding tells_of takes
  takes_shows x (by_notice q) = notice_shows x q
  takes_shows x (by_ask q) = subst (λ (w : ℕ). Shows anc n w (in_acted (takes anc n me x (by_ask q)))) (sym (added-below x.rank.marks q)) (ask_shows q x)

  pub news_shows : (l : List News) (x : Acted) → x.row ≡ fresh anc n x.rank.marks → Shows anc n (foldl add x.rank.marks (all_told l)) (in_acted (foldl (takes anc n me) x l))
  unfolding all_told
  news_shows [] x e = (refl, e)
  news_shows (b ∷ l) x e =
      let s = takes_shows x b in
      subst (λ (w : ℕ). Shows anc n w (in_acted (foldl (takes anc n me) (takes anc n me x b) l)))
      (ap (λ (w : ℕ). foldl add w (all_told l)) s.0 ∙ sym (foldl-append add x.rank.marks (tells_of b) (all_told l)))
      (news_shows l (takes anc n me x b) (s.1 ∙ ap (fresh anc n) (sym s.0)))

-- ---- an accepted event

module _ (anc : ℕ → ℕ) (s : State) (o : InOrder anc s) (i : ℕ) where
  -- the marks of rank i after it
  abbrev after : Event → ℕ
  after ev = (rank_at (event anc s ev).state i).marks

  abbrev Brings : Event → Type 0
  Brings ev = after ev ≡ foldl add (rank_at s i).marks (all_told (brings s ev i))

  by_notice_lem : (a b : ℕ) → (event anc s (event_of 4 a b)).answer ≡ 0 → Brings (event_of 4 a b)
  unfolding brings tells_of all_told
  by_notice_lem a b z = ⊎_elim own other (eq_or_ne a i)
    where
      own : a ≡ i → Brings (event_of 4 a b)
      own e = rw (eq-eqb a i e) (subst (λ (j : ℕ). (rank_at (event anc s (event_of 4 a b)).state j).marks ≡ add (rank_at s j).marks b) e (notice-knows anc s o a b z))

      other : (a ≡ i → ⊥) → Brings (event_of 4 a b)
      other d = rw (ne_eqb a i d) (ap (λ (r : Rank). r.marks) (others_stay anc s o (event_of 4 a b) z i (λ e. d (sym (e ∙ (notice_about anc s o a b z).0)))).0)

  -- the message at place a would be dropped at rank j
  abbrev drops : ℕ → ℕ → Bool
  drops a j = has s.group.dead j || has (rank_at s j).marks (place_at s a).from

  -- what the test of an ASK says where it passes, and where it fails
  ask_taken : (a : ℕ) → takes_ask s a i ≡ true → ((place_at s a).kind ≡ ask) × ((place_at s a).to ≡ i) × (drops a i ≡ false)
  unfolding takes_ask
  ask_taken a t =
      let k = eqb (place_at s a).kind ask in
      let e = eqb (place_at s a).to i in
      let l = and_l (k && e) (not (drops a i)) t in
      (eqb-true (place_at s a).kind ask (and_l k e l), eqb-true (place_at s a).to i (and_r k e l), not-true (drops a i) (and_r (k && e) (not (drops a i)) t))

  ask_dropped : (a : ℕ) → takes_ask s a i ≡ false → (place_at s a).kind ≡ ask → (place_at s a).to ≡ i → drops a i ≡ true
  unfolding takes_ask
  ask_dropped a t k e =
      passes (drops a i) (λ f. clash (takes_ask s a i)
      (and_i (eqb (place_at s a).kind ask && eqb (place_at s a).to i) (not (drops a i))
      (and_i (eqb (place_at s a).kind ask) (eqb (place_at s a).to i) (eq-eqb (place_at s a).kind ask k) (eq-eqb (place_at s a).to i e))
      (not_i (drops a i) f)) t)

  -- an ASK that is not taken, and any other message
  untold : (a b : ℕ) → (event anc s (event_of 2 a b)).answer ≡ 0 → takes_ask s a i ≡ false → after (event_of 2 a b) ≡ (rank_at s i).marks
  untold a b z t = ⊎_elim an_ask (λ (d : (place_at s a).kind ≡ ask → ⊥). others_tell_nothing anc s o (event_of 2 a b) z (λ e. absurd (omega arith)) (λ e. d) i) (eq_or_ne (place_at s a).kind ask)
    where
      own : (place_at s a).kind ≡ ask → (place_at s a).to ≡ i → after (event_of 2 a b) ≡ (rank_at s i).marks
      own k e = dropped_tells_nothing anc s o a b z (subst (λ (j : ℕ). drops a j ≡ true) (sym e) (ask_dropped a t k e)) i

      other : ((place_at s a).to ≡ i → ⊥) → after (event_of 2 a b) ≡ (rank_at s i).marks
      other d = ap (λ (r : Rank). r.marks) (others_stay anc s o (event_of 2 a b) z i (λ e. d (sym (e ∙ delivery_about anc s o a b z)))).0

      an_ask : (place_at s a).kind ≡ ask → after (event_of 2 a b) ≡ (rank_at s i).marks
      an_ask k = ⊎_elim (own k) other (eq_or_ne (place_at s a).to i)

  -- an ASK that is
  asks-all-below : (a b : ℕ) → (event anc s (event_of 2 a b)).answer ≡ 0 → takes_ask s a i ≡ true → after (event_of 2 a b) ≡ union (rank_at s i).marks (below (place_at s a).from)
  asks-all-below a b z t =
      let k = ask_taken a t in
      subst (λ (j : ℕ). (rank_at (event anc s (event_of 2 a b)).state j).marks ≡ union (rank_at s j).marks (below (place_at s a).from)) k.1
      (ask-knows anc s o a b z k.0 (subst (λ (j : ℕ). drops a j ≡ false) (sym k.1) k.2))

  by_delivery : (a b : ℕ) → (event anc s (event_of 2 a b)).answer ≡ 0 → Brings (event_of 2 a b)
  unfolding brings tells_of all_told
  by_delivery a b z =
      ⊎_elim
      (λ (t : takes_ask s a i ≡ true). rw t (asks-all-below a b z t ∙ sym (ap (foldl add (rank_at s i).marks) (append-nil (listed (λ k. true) (place_at s a).from)) ∙ added-below (rank_at s i).marks (place_at s a).from)))
      (λ (t : takes_ask s a i ≡ false). rw t (untold a b z t))
      (passes_or_fails (takes_ask s a i))

  -- An accepted event adds to what a rank knows what it brings that rank.
  pub event-brings : (ev : Event) → (event anc s ev).answer ≡ 0 → Brings ev
  unfolding brings tells_of all_told
  event-brings ev z = ⊎_elim told_so (λ (d : ev.kind ≡ 4 → ⊥). ⊎_elim sent_so (neither d) (eq_or_ne ev.kind 2)) (eq_or_ne ev.kind 4)
    where
      told_so : ev.kind ≡ 4 → Brings ev
      told_so e = subst (λ (k : ℕ). (event anc s (event_of k ev.a ev.b)).answer ≡ 0 → Brings (event_of k ev.a ev.b)) (sym e) (by_notice_lem ev.a ev.b) z

      sent_so : ev.kind ≡ 2 → Brings ev
      sent_so e = subst (λ (k : ℕ). (event anc s (event_of k ev.a ev.b)).answer ≡ 0 → Brings (event_of k ev.a ev.b)) (sym e) (by_delivery ev.a ev.b) z

      neither : (ev.kind ≡ 4 → ⊥) → (ev.kind ≡ 2 → ⊥) → Brings ev
      neither d c = rw (ne_eqb ev.kind 4 d, ne_eqb ev.kind 2 c) (others_tell_nothing anc s o ev z d (λ e. absurd (c e)) i)

-- ---- a run

module _ (anc : ℕ → ℕ) (n i : ℕ) (l : i < n) where
  knows-nothing : (form span : ℕ) → n ≤ 64 → (started anc n form span).answer ≡ 0 → (rank_at (started anc n form span).state i).marks ≡ foldl add 0 (all_told [])
  unfolding all_told
  knows-nothing form span small z = ap (λ (t : State). (rank_at t i).marks) (started-fresh anc n form span z).1 ∙ ap (λ (r : Rank). r.marks) (fresh-rank-at anc n form span i small l) ∙ fresh-marks anc n i

  -- A rank knows what its news told it of, and nothing else.
  pub knows_its_news : (s : State) (run : Reaches anc n s) → (rank_at s i).marks ≡ foldl add 0 (all_told (news_to anc n s run i))
  unfolding news_to
  knows_its_news s (begun form span z) = knows-nothing form span (reached-small anc n (started anc n form span).state (begun form span z)).1 z
  knows_its_news s (next s' ev run z) =
      event-brings anc s' (reached_in_order anc n s' run) i ev z
      ∙ ap (λ (w : ℕ). foldl add w (all_told (brings s' ev i))) (knows_its_news s' run)
      ∙ sym (ap (foldl add 0) (told_append (news_to anc n s' run i) (brings s' ev i)) ∙ foldl-append add 0 (all_told (news_to anc n s' run i)) (all_told (brings s' ev i)))
