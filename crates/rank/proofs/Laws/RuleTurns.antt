-- What each rule gives the others: every rule is a turn. Over any ancestor sets. Assumes nothing.
use mathlib.Core.Path.{◌≡◌, refl, sym, ◌∙◌}
use mathlib.Core.Bool.{Bool, true, false, cond, not, ◌&&◌}
use mathlib.Core.Logic.{◌⊎◌, inl, inr, ⊎_elim}
use Prim.Native.Nat.{ℕ, ◌≤◌, ◌<◌}
use native.Mathlib.Omega.{arith}
use lib.Dec.{eqb}
use borrow.Author.Tests.{eqb-true, eq-eqb}
use Rattle.sets.specs.Sets.{none, has, only, add, union, meet, minus, below}
use Rattle.sets.proofs.Laws.Bools.{clash, and_i, or_cases, passes, and_l, not_i}
use Rattle.sets.proofs.Laws.Members.{has-zero, has_meet, has-add, has-add-same, has_add_more, has_add_less}
use Rattle.tree.specs.Tree.{parent, children, moved, nobody}
use Rattle.tree.specs.Relations.{Ancestry}
use Rattle.tree.specs.Calls.{moved_below}
use Rattle.tree.proofs.Laws.Parents.{has-parent, parent_stays, parent-below, marked_more}
use Rattle.tree.proofs.Laws.Children.{Child, child_o, child_i, child_new, child_not_gained}
use Rattle.rank.specs.declared.Rank.{Rank}
use Rattle.rank.specs.declared.Said.{Said}
use Rattle.rank.specs.declared.Triple.{Triple}
use Rattle.rank.specs.Words.{outside, gathering, waiting, up, down, ask}
use Rattle.rank.specs.Records.{becoming, combining, concluding, owing, admitting, proposal, parent_of, children_of, hearing, viewing}
use Rattle.rank.specs.Sends.{silent, reports, tells, asks}
use Rattle.rank.specs.Rules.{in_phase, saying, deciding, done, settling, entering, noting, raised, taking_up, taking_down, asked, taking_ask, renewing, regathering, inheriting, bereaved, noticing, acknowledging}
use Rattle.rank.proofs.Facts.{RankInOrder}
use Rattle.rank.proofs.Turn.{Says, NoParent, Leads, Polls, Turn}
use Rattle.rank.proofs.Overhearing.{overheard, overhearing}
use Rattle.rank.proofs.Laws.Cases.{raised_by, lowered_by, asked_by, orphaned_by, bereaved_by}
use Rattle.rank.proofs.Laws.SettleTurn.{ActedTurn, first_says, only_self, takes_none, silent_fits, reports_fits, tells_fits, asks_fits, stays, told, Part, settling_turn}

module _ (anc : ℕ → ℕ) (n me : ℕ) where
  -- what an ASK of another agreement does, by its cases
  pub overheard_by : (P : Said → Type 0) (r v : Rank)
      → (r.phase ≡ waiting → P (saying v (reports v (parent_of anc me v))))
      → ((r.phase ≡ waiting → parent_of anc me r ≡ parent_of anc me v) → P (saying v silent))
      → P (overheard anc n me r v)
  unfolding overheard in_phase
  overheard_by P r v moves rests = go (w && not same) refl
    where
      w : Bool
      w = eqb r.phase waiting

      same : Bool
      same = eqb (parent_of anc me r) (parent_of anc me v)

      go : (b : Bool) → w && not same ≡ b → P (cond b (saying v (reports v (parent_of anc me v))) (saying v silent))
      go true e = moves (eqb-true r.phase waiting (and_l w (not same) e))
      go false e = rests (λ p. eqb-true (parent_of anc me r) (parent_of anc me v) (passes same (λ d. clash (w && not same) (and_i w (not same) (eq-eqb r.phase waiting p) (not_i same d)) e)))

module _ (anc : ℕ → ℕ) (tree : Ancestry anc) (n me : ℕ) (small : n ≤ 64) (own : me < n) where
  pub enter_turn : (w : ℕ) (r : Rank) → RankInOrder anc n me r → r.phase ≡ outside → ActedTurn anc n me 0 0 r (entering anc n me w r)
  unfolding entering saying becoming combining
  enter_turn w r o e = settling_turn anc n me 0 0 r (saying v silent) nobody (omega arith) (turn, o.to_settle.awaits)
    where
      v : Rank
      v = becoming gathering (combining (proposal w r) r)

      turn : Turn anc n me 0 0 r v silent silent
      turn = record {
        marks_grow = λ k h. h;
        heard_new = λ x h. inl h;
        heard_stays = λ d x h. inl h;
        owed_stays = λ x h. h;
        was_outside = λ x. e;
        was_gathering = λ x. inl e;
        was_waiting = λ x. absurd (omega arith);
        was_decided = λ x. absurd (omega arith);
        final = λ x. absurd (omega arith);
        goes_on = λ x. absurd (omega arith);
        up_waits = λ x s. (silent_fits v).0 (first_says silent up x s).0;
        down-decided = λ x s. (silent_fits v).1 (first_says silent down x s).0;
        reports_to = λ x. absurd (omega arith);
        tells_owed = λ d x. absurd (omega arith);
        takes-up = λ x. absurd (omega arith);
        takes-down = λ x. absurd (omega arith);
        takes-ask = λ x. absurd (omega arith);
        asked-reports = λ x. absurd (omega arith);
      }

  pub up_turn : (q : ℕ) (x : Triple) (r : Rank) → RankInOrder anc n me r → ActedTurn anc n me up q r (taking_up anc n me q x r)
  unfolding taking_up noting saying owing combining hearing tells
  up_turn q x r o =
      settling_turn anc n me up q r (raised anc n me q x r) nobody (omega arith)
      (raised_by anc n me (Part anc n me up q r) q x r
      (λ e. (
        stays anc n me up q r r (tells r.result (only q)) refl (λ k h. h) (λ y h. inl h) (λ y h. h) (λ y h. h) (tells_fits r r.result (only q) e)
            (λ g z c k. inl k) (λ y. inl refl)
            (λ y. inl (inl (refl, only_self q q refl)), λ y. absurd (omega arith), λ y. absurd (omega arith), λ y. absurd (omega arith)),
        o.to_settle.awaits,
      ))
      (λ e. (
        stays anc n me up q r v silent refl (λ k h. h)
            (λ y h. ⊎_elim (λ (a : has r.heard y ≡ true). inl a) (λ (a : eqb y q ≡ true). inr (refl, sym (eqb-true y q a))) (or_cases (has r.heard y) (eqb y q) (sym (has-add r.heard q y) ∙ h)))
            (λ y h. has_add_more r.heard q y h) (λ y h. has_add_more r.owed q y h) (silent_fits v)
            (λ g z c k. inl k) (λ y. inl refl)
            (λ y. inr (e, has-add-same r.heard q, has-add-same r.owed q), λ y. absurd (omega arith), λ y. absurd (omega arith), λ y. absurd (omega arith)),
        refl,
      )))
    where
      v : Rank
      v = noting anc n me q x r

  pub down_turn : (q : ℕ) (x : Triple) (r : Rank) → ActedTurn anc n me down q r (taking_down anc n me x r)
  unfolding taking_down done saying deciding concluding children_of tells
  down_turn q x r =
      lowered_by anc n me (λ (s : Said). Turn anc n me down q r s.rank s.send silent) x r (λ e. turn)
      (λ g w.
      stays anc n me down q r r silent refl (λ k h. h) (λ y h. inl h) (λ y h. h) (λ y h. h) (silent_fits r)
      (λ e z c k. inl k) (λ y. inl refl)
      (λ y. absurd (omega arith), λ y. (g, w), λ y. absurd (omega arith), λ y. absurd (omega arith)))
    where
      to : ℕ
      to = minus (union (children anc n r.marks me) r.owed) r.marks

      turn : Turn anc n me down q r (concluding x r) (tells x to) silent
      turn = record {
        marks_grow = λ k h. h;
        heard_new = λ y h. inl h;
        heard_stays = λ d. absurd (d refl);
        owed_stays = λ y h. h;
        was_outside = λ e. absurd (omega arith);
        was_gathering = λ e. absurd (omega arith);
        was_waiting = λ e. absurd (omega arith);
        was_decided = λ e. inr (inl refl);
        final = λ e. refl;
        goes_on = λ e z. inl refl;
        up_waits = λ y s. (tells_fits (concluding x r) x to refl).0 (first_says (tells x to) up y s).0;
        down-decided = λ y s. refl;
        reports_to = λ e. absurd (omega arith);
        tells_owed = λ d e y h m. inl (refl, told anc n me r y h m);
        takes-up = λ e. absurd (omega arith);
        takes-down = λ e. (λ y. omega arith, λ y. omega arith);
        takes-ask = λ e. absurd (omega arith);
        asked-reports = λ e. absurd (omega arith);
      }

  -- a rank below that is unmarked: there is a parent
  led : (q : ℕ) (r : Rank) → q < me → has r.marks q ≡ false → NoParent anc me r → ⊥
  led q r l f z = has-parent anc r.marks me q (omega arith) l f z

  pub ask_turn : (q : ℕ) (r : Rank) → RankInOrder anc n me r → q < me → has r.marks q ≡ false → ActedTurn anc n me ask q r (taking_ask anc n me q r)
  unfolding taking_ask saying owing viewing parent_of tells reports
  ask_turn q r o l f =
      settling_turn anc n me ask q r (asked anc n me q v) (moved_below anc n r.marks q) (omega arith)
      (asked_by anc n me (Part anc n me ask q r) q v
      (λ e. (
        stays anc n me ask q r v (tells r.result (only q)) refl (marked_more r.marks q) (λ y h. inl h) (λ y h. h) (λ y h. h) (tells_fits v r.result (only q) e)
            (λ g z. absurd (led q r l f z)) (λ y. absurd (omega arith))
            (λ y. absurd (omega arith), λ y. absurd (omega arith), λ y. inl (inl (refl, only_self q q refl)), λ y w. absurd (omega arith)),
        refl,
      ))
      (λ e p. (
        stays anc n me ask q r (owing q v) (reports v q) refl (marked_more r.marks q) (λ y h. inl h) (λ y h. h) (λ y h. has_add_more r.owed q y h) (reports_fits (owing q v) v q e)
            (λ g z. absurd (led q r l f z)) (λ y. inr (inl (refl, only_self q (parent anc after me) p)))
            (λ y. absurd (omega arith), λ y. absurd (omega arith), λ y. inr (λ d. omega arith, has-add-same r.owed q), λ y w z. inl (refl, only_self q q refl)),
        refl,
      ))
      (λ e p. (
        stays anc n me ask q r (owing q v) silent refl (marked_more r.marks q) (λ y h. inl h) (λ y h. h) (λ y h. has_add_more r.owed q y h) (silent_fits (owing q v))
            (λ g z. absurd (led q r l f z))
            (λ y. ⊎_elim (λ (h : parent anc after me ≡ parent anc r.marks me). inl (sym h)) (λ (h : parent anc after me ≡ q). absurd (p y h)) (parent-below anc r.marks q me l f))
            (λ y. absurd (omega arith), λ y. absurd (omega arith), λ y. inr (e, has-add-same r.owed q), λ y w z. absurd (p w z)),
        refl,
      )))
    where
      after : ℕ
      after = union r.marks (below q)

      v : Rank
      v = viewing anc n me after r

  -- a death that was not known
  bereaved-part : (q : ℕ) (r : Rank) → RankInOrder anc n me r → q < n → (q ≡ me → ⊥) → Part anc n me 0 0 r (bereaved anc n me q r (viewing anc n me (add r.marks q) r))
  unfolding regathering renewing saying viewing becoming hearing parent_of inheriting children_of reports asks
  bereaved-part q r o l d =
      bereaved_by anc n me (Part anc n me 0 0 r) q r v
      (λ e p.
      orphaned_by anc n me (Part anc n me 0 0 r) v
      (λ z. (polled e z, refl))
      (λ z. (
        stays anc n me 0 0 r v (reports v (parent anc after me)) refl (has_add_more r.marks q) (λ y h. inl h) (λ y h. h) (λ y h. h) (reports_fits v v (parent anc after me) e)
            (λ g y. absurd (omega arith)) (λ y. inr (inl (refl, only_self (parent anc after me) (parent anc after me) refl)))
            (takes_none anc me 0 r v (reports v (parent anc after me))),
        refl,
      )))
      (λ e z h. (
        stays anc n me 0 0 r v (asks gained) refl (has_add_more r.marks q) (λ y k. inl k) (λ y k. k) (λ y k. k) (asks_fits v gained)
            (λ g y c k. gains c k) (λ y. absurd (omega arith))
            (takes_none anc me 0 r v (asks gained)),
        refl,
      ))
      (λ g h. (
        stays anc n me 0 0 r v silent refl (has_add_more r.marks q) (λ y k. inl k) (λ y k. k) (λ y k. k) (silent_fits v)
            (λ e z c k. inl (child_i anc n r.marks me c (child_not_gained anc tree n r.marks q me (omega arith) own l z o.to_settle.marks_inside.without d (λ b. h e z (child_i anc n r.marks me q b)) c (child_o anc n after me c k))))
            (λ e. inl (sym (parent_stays anc r.marks q me (g e))))
            (takes_none anc me 0 r v silent),
        refl,
      ))
    where
      after : ℕ
      after = add r.marks q

      v : Rank
      v = viewing anc n me after r

      -- the children that were linked to q
      gained : ℕ
      gained = meet (children anc n after me) (children anc n r.marks q)

      gains : (c : ℕ) → Leads anc n me v c → Leads anc n me r c ⊎ Says (asks gained) silent ask c
      gains c k =
          let b : Child anc n after me c = child_o anc n after me c k in
          ⊎_elim (λ (h : Child anc n r.marks me c). inl (child_i anc n r.marks me c h))
          (λ (h : parent anc r.marks c ≡ q). inr (inl (
            refl,
            has_meet (children anc n after me) (children anc n r.marks q) c
                ∙ and_i (has (children anc n after me) c) (has (children anc n r.marks q) c) k (child_i anc n r.marks q c (record { within = b.within; free = has_add_less r.marks q c b.free; linked = h })),
          )))
          (child_new anc n r.marks q me c b)

      -- it waited, and is without a parent: it asks every child
      asker : Rank
      asker = becoming gathering (hearing anc n me 0 v)

      polls : parent anc after me ≡ none → Polls anc n me asker (asks (children anc n after me)) silent
      polls z = record { gathers = refl; root = z; each = λ c k. inl (refl, k) }

      polled : r.phase ≡ waiting → parent anc after me ≡ none → Turn anc n me 0 0 r asker (asks (children anc n after me)) silent
      polled e z = record {
        marks_grow = has_add_more r.marks q;
        heard_new = λ x h. absurd (clash (has 0 x) h (has-zero x));
        heard_stays = λ y x h. inr (polls z);
        owed_stays = λ x h. h;
        was_outside = λ y. absurd (omega arith);
        was_gathering = λ y. inr (inr (e, polls z));
        was_waiting = λ y. absurd (omega arith);
        was_decided = λ y. absurd (omega arith);
        final = λ y. absurd (omega arith);
        goes_on = λ y. absurd (omega arith);
        up_waits = λ x s. (asks_fits asker (children anc n after me)).0 (first_says (asks (children anc n after me)) up x s).0;
        down-decided = λ x s. (asks_fits asker (children anc n after me)).1 (first_says (asks (children anc n after me)) down x s).0;
        reports_to = λ y. absurd (omega arith);
        tells_owed = λ y x. absurd (omega arith);
        takes-up = λ y. absurd (omega arith);
        takes-down = λ y. absurd (omega arith);
        takes-ask = λ y. absurd (omega arith);
        asked-reports = λ y. absurd (omega arith);
      }

  pub notice_turn : (q : ℕ) (r : Rank) → RankInOrder anc n me r → q < n → (q ≡ me → ⊥) → ActedTurn anc n me 0 0 r (noticing anc n me q r)
  unfolding noticing done saying
  notice_turn q r o l d = go (has r.marks q)
    where
      v : Rank
      v = viewing anc n me (add r.marks q) r

      go : (b : Bool) → ActedTurn anc n me 0 0 r (cond b (done anc n me (saying r silent) nobody) (settling anc n me (bereaved anc n me q r v) (moved anc n r.marks q)))
      go true = stays anc n me 0 0 r r silent refl (λ k h. h) (λ y h. inl h) (λ y h. h) (λ y h. h) (silent_fits r) (λ e z c k. inl k) (λ y. inl refl) (takes_none anc me 0 r r silent)
      go false = settling_turn anc n me 0 0 r (bereaved anc n me q r v) (moved anc n r.marks q) (omega arith) (bereaved-part q r o l d)

  pub acknowledge_turn : (r : Rank) → ActedTurn anc n me 0 0 r (acknowledging anc n me r)
  unfolding acknowledging done saying admitting
  acknowledge_turn r = stays anc n me 0 0 r t silent refl (λ k h. h) (λ y h. inl h) (λ y h. h) (λ y h. h) (silent_fits t) (λ e z c k. inl k) (λ y. inl refl) (takes_none anc me 0 r t silent)
    where
      t : Rank
      t = admitting r.marks r

  pub overhear_turn : (q : ℕ) (r : Rank) → RankInOrder anc n me r → q < me → has r.marks q ≡ false → ActedTurn anc n me 0 0 r (overhearing anc n me q r)
  unfolding overhearing saying viewing parent_of reports
  overhear_turn q r o l f =
      settling_turn anc n me 0 0 r (overheard anc n me r v) (moved_below anc n r.marks q) (omega arith)
      (overheard_by anc n me (Part anc n me 0 0 r) r v
      (λ e. (
        stays anc n me 0 0 r v (reports v (parent anc after me)) refl (marked_more r.marks q) (λ y h. inl h) (λ y h. h) (λ y h. h) (reports_fits v v (parent anc after me) e)
            (λ g z. absurd (led q r l f z)) (λ y. inr (inl (refl, only_self (parent anc after me) (parent anc after me) refl)))
            (takes_none anc me 0 r v (reports v (parent anc after me))),
        refl,
      ))
      (λ h. (
        stays anc n me 0 0 r v silent refl (marked_more r.marks q) (λ y k. inl k) (λ y k. k) (λ y k. k) (silent_fits v)
            (λ g z. absurd (led q r l f z)) (λ y. inl (h y))
            (takes_none anc me 0 r v silent),
        refl,
      )))
    where
      after : ℕ
      after = union r.marks (below q)

      v : Rank
      v = viewing anc n me after r
