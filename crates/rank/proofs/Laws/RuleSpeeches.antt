-- What each rule says to the others, word for word: every rule's turn is a speech. Over any ancestor sets. Assumes nothing.
use mathlib.Core.Path.{◌≡◌, refl, sym, ◌∙◌}
use mathlib.Core.Bool.{Bool, true, false, cond}
use mathlib.Core.Logic.{◌⊎◌, inl, inr, ⊎_elim}
use Prim.Native.Nat.{ℕ, ◌≤◌, ◌<◌}
use native.Mathlib.Omega.{arith}
use Rattle.sets.specs.Sets.{none, has, only, add, union, meet, minus, below}
use Rattle.sets.proofs.Laws.Bools.{clash}
use Rattle.sets.proofs.Laws.Members.{has-zero}
use Rattle.tree.specs.Tree.{parent, children, moved, nobody}
use Rattle.tree.specs.Calls.{moved_below}
use Rattle.tree.proofs.Laws.Parents.{has-parent, marked-high}
use Rattle.rank.specs.declared.Rank.{Rank}
use Rattle.rank.specs.declared.Said.{Said}
use Rattle.rank.specs.declared.Triple.{Triple}
use Rattle.rank.specs.declared.Acted.{Acted}
use Rattle.rank.specs.Words.{outside, gathering, waiting, decided, up, down, ask}
use Rattle.rank.specs.Records.{becoming, combining, concluding, owing, admitting, proposal, parent_of, children_of, hearing, viewing}
use Rattle.rank.specs.Sends.{silent, reports, tells, asks}
use Rattle.rank.specs.Rules.{saying, deciding, done, settling, entering, noting, raised, taking_up, taking_down, asked, taking_ask, renewing, regathering, inheriting, bereaved, noticing, acknowledging}
use Rattle.rank.proofs.Facts.{RankInOrder}
use Rattle.rank.proofs.Overhearing.{overheard, overhearing}
use Rattle.rank.proofs.Speech.{Sender, Speech}
use Rattle.rank.proofs.Laws.Cases.{raised_by, lowered_by, asked_by, orphaned_by, bereaved_by}
use Rattle.rank.proofs.Laws.RuleTurns.{overheard_by}
use Rattle.rank.proofs.Laws.SettleSpeech.{first-triple, add_is, silent_sent, asks_sent, reports_sent, tells_sent, TripleFrom, Spoken, unchanged, keeps, rests, informs, Part, settling_speech}

-- the whole of a rule is a speech
abbrev pub ActedSpeech : (ℕ → ℕ) → ℕ → ℕ → ℕ → ℕ → Triple → Type 0 → Rank → Acted → Type 0
ActedSpeech anc n me kind q v Entry r a = Speech anc n me kind q v Entry r a.rank a.first a.second

module _ (anc : ℕ → ℕ) (n me : ℕ) (small : n ≤ 64) (own : me < n) (Entry : Type 0) where
  pub enter_speech : Entry → (w : ℕ) (r : Rank) → RankInOrder anc n me r → r.phase ≡ outside → ActedSpeech anc n me 0 0 (proposal w r) Entry r (entering anc n me w r)
  unfolding entering saying becoming combining
  enter_speech i w r o e = settling_speech anc n me 0 0 (proposal w r) Entry r (saying v silent) nobody (part, o.to_settle.awaits)
    where
      v : Rank
      v = becoming gathering (combining (proposal w r) r)

      part : Spoken anc n me 0 0 (proposal w r) Entry r v silent
      part = record { sends = silent_sent anc n me 0 0 (proposal w r) Entry v; owes = λ x h. inl h; from = inl (record { entry = i; was_outside = e; is_inside = λ z. omega arith; triple_is = refl; heard_was = λ x h. h }); remains = λ d. absurd (omega arith); final = λ d. absurd (omega arith) }

  pub up_speech : (q : ℕ) (x : Triple) (r : Rank) → RankInOrder anc n me r → ActedSpeech anc n me up q x Entry r (taking_up anc n me q x r)
  unfolding taking_up noting saying owing combining hearing
  up_speech q x r o =
      settling_speech anc n me up q x Entry r (raised anc n me q x r) nobody
      (raised_by anc n me (Part anc n me up q x Entry r) q x r
      (λ e. (keeps anc n me up q x Entry r r (tells r.result (only q)) refl refl (tells_sent anc n me up q x Entry r e (inl refl)) (λ y h. inl h) (unchanged anc n me up q x Entry r r (λ d. d) refl (λ y h. h)), o.to_settle.awaits))
      (λ e. (
        keeps anc n me up q x Entry r v silent refl refl (silent_sent anc n me up q x Entry v)
            (λ y h. ⊎_elim (λ (a : has r.owed y ≡ true). inl a) (λ (a : q ≡ y). inr (inl refl, a)) (add_is r.owed q y h))
            (inr (inl (record { took_up = refl; was_undecided = e; stays_outside = λ d. d; triple_is = refl; heard_was = λ y h. add_is r.heard q y h }))),
        refl,
      )))
    where
      v : Rank
      v = noting anc n me q x r

  pub down_speech : (q : ℕ) (x : Triple) (r : Rank) → ActedSpeech anc n me down q x Entry r (taking_down anc n me x r)
  unfolding taking_down done saying deciding concluding children_of tells
  down_speech q x r =
      lowered_by anc n me (λ (s : Said). Speech anc n me down q x Entry r s.rank s.send silent) x r decides
      (λ g w. rests anc n me down q x Entry r r silent (keeps anc n me down q x Entry r r silent refl refl (silent_sent anc n me down q x Entry r) (λ y h. inl h) (unchanged anc n me down q x Entry r r (λ d. d) refl (λ y h. h))))
    where
      to : ℕ
      to = minus (union (children anc n r.marks me) r.owed) r.marks

      inside : (r.phase ≡ gathering) ⊎ (r.phase ≡ waiting) → r.phase ≡ outside → ⊥
      inside (inl g) e = omega arith
      inside (inr g) e = omega arith

      undecided : (r.phase ≡ gathering) ⊎ (r.phase ≡ waiting) → r.phase ≡ decided → ⊥
      undecided (inl g) e = omega arith
      undecided (inr g) e = omega arith

      decides : (r.phase ≡ gathering) ⊎ (r.phase ≡ waiting) → Speech anc n me down q x Entry r (concluding x r) (tells x to) silent
      decides g = record {
        up_to = λ w y s. let d : down ≡ up = (first-triple (tells x to) up w y s).0 in absurd (omega arith);
        down_to = λ w y s. let h : (down ≡ down) × (x ≡ w) × (has to y ≡ true) = first-triple (tells x to) down w y s in (informs anc n me down q x Entry r y h.2, sym h.1);
        owed_new = λ y h. inl h;
        triple_from = unchanged anc n me down q x Entry r (concluding x r) (λ e. absurd (inside g e)) refl (λ y h. h);
        result_from = λ e. inr (inl (record { was_undecided = undecided g; took_down = refl; result_is = refl }));
      }

  pub ask_speech : (q : ℕ) (v : Triple) (r : Rank) → q < me → ActedSpeech anc n me ask q v Entry r (taking_ask anc n me q r)
  unfolding taking_ask saying owing viewing parent_of
  ask_speech q v r l =
      settling_speech anc n me ask q v Entry r (asked anc n me q t) (moved_below anc n r.marks q)
      (asked_by anc n me (Part anc n me ask q v Entry r) q t
      (λ e. (keeps anc n me ask q v Entry r t (tells r.result (only q)) refl refl (tells_sent anc n me ask q v Entry t e (inr refl)) (λ y h. inl h) (unchanged anc n me ask q v Entry r t (λ d. d) refl (λ y h. h)), refl))
      (λ e p. (keeps anc n me ask q v Entry r (owing q t) (reports t q) refl refl (reports_sent anc n me ask q v Entry (owing q t) t q e refl p (λ z. omega arith)) owes owes_q, refl))
      (λ e p. (keeps anc n me ask q v Entry r (owing q t) silent refl refl (silent_sent anc n me ask q v Entry (owing q t)) owes owes_q, refl)))
    where
      t : Rank
      t = viewing anc n me (union r.marks (below q)) r

      owes_q : TripleFrom anc n me ask q v Entry r (owing q t)
      owes_q = unchanged anc n me ask q v Entry r (owing q t) (λ d. d) refl (λ y h. h)

      owes : (x : ℕ) → has (add r.owed q) x ≡ true → (has r.owed x ≡ true) ⊎ Sender ask q x
      owes x h = ⊎_elim (λ (a : has r.owed x ≡ true). inl a) (λ (a : q ≡ x). inr (inr refl, a)) (add_is r.owed q x h)

  pub notice_speech : (v : Triple) (q : ℕ) (r : Rank) → ActedSpeech anc n me 0 0 v Entry r (noticing anc n me q r)
  unfolding noticing done saying regathering renewing viewing becoming hearing parent_of inheriting children_of
  notice_speech v q r = go (has r.marks q)
    where
      after : ℕ
      after = add r.marks q

      t : Rank
      t = viewing anc n me after r

      asker : Rank
      asker = becoming gathering (hearing anc n me 0 t)

      same : TripleFrom anc n me 0 0 v Entry r t
      same = unchanged anc n me 0 0 v Entry r t (λ e. e) refl (λ y h. h)

      -- it waited, and is without a parent: it gathers again
      polls : r.phase ≡ waiting → Spoken anc n me 0 0 v Entry r asker (asks (children anc n after me))
      polls e = record {
        sends = asks_sent anc n me 0 0 v Entry asker (children anc n after me);
        owes = λ x h. inl h;
        from = unchanged anc n me 0 0 v Entry r asker (λ y. absurd (omega arith)) refl (λ x h. absurd (clash (has 0 x) h (has-zero x)));
        remains = λ y. absurd (omega arith);
        final = λ y. absurd (omega arith);
      }

      part : Part anc n me 0 0 v Entry r (bereaved anc n me q r t)
      part =
          bereaved_by anc n me (Part anc n me 0 0 v Entry r) q r t
          (λ e p.
          orphaned_by anc n me (Part anc n me 0 0 v Entry r) t
          (λ z. (polls e, refl))
          (λ z. (keeps anc n me 0 0 v Entry r t (reports t (parent anc after me)) refl refl (reports_sent anc n me 0 0 v Entry t t (parent anc after me) e refl refl z) (λ x h. inl h) same, refl)))
          (λ e z h. (keeps anc n me 0 0 v Entry r t (asks (meet (children anc n after me) (children anc n r.marks q))) refl refl (asks_sent anc n me 0 0 v Entry t (meet (children anc n after me) (children anc n r.marks q))) (λ x k. inl k) same, refl))
          (λ g h. (keeps anc n me 0 0 v Entry r t silent refl refl (silent_sent anc n me 0 0 v Entry t) (λ x k. inl k) same, refl))

      go : (b : Bool) → ActedSpeech anc n me 0 0 v Entry r (cond b (done anc n me (saying r silent) nobody) (settling anc n me (bereaved anc n me q r t) (moved anc n r.marks q)))
      go true = rests anc n me 0 0 v Entry r r silent (keeps anc n me 0 0 v Entry r r silent refl refl (silent_sent anc n me 0 0 v Entry r) (λ x h. inl h) (unchanged anc n me 0 0 v Entry r r (λ e. e) refl (λ y h. h)))
      go false = settling_speech anc n me 0 0 v Entry r (bereaved anc n me q r t) (moved anc n r.marks q) part

  pub acknowledge_speech : (v : Triple) (r : Rank) → ActedSpeech anc n me 0 0 v Entry r (acknowledging anc n me r)
  unfolding acknowledging done saying admitting
  acknowledge_speech v r = rests anc n me 0 0 v Entry r t silent (keeps anc n me 0 0 v Entry r t silent refl refl (silent_sent anc n me 0 0 v Entry t) (λ x h. inl h) (unchanged anc n me 0 0 v Entry r t (λ e. e) refl (λ y h. h)))
    where
      t : Rank
      t = admitting r.marks r

  pub overhear_speech : (v : Triple) (q : ℕ) (r : Rank) → q < me → has r.marks q ≡ false → ActedSpeech anc n me 0 0 v Entry r (overhearing anc n me q r)
  unfolding overhearing saying viewing parent_of
  overhear_speech v q r l f =
      settling_speech anc n me 0 0 v Entry r (overheard anc n me r t) (moved_below anc n r.marks q)
      (overheard_by anc n me (Part anc n me 0 0 v Entry r) r t
      (λ e. (keeps anc n me 0 0 v Entry r t (reports t (parent anc after me)) refl refl (reports_sent anc n me 0 0 v Entry t t (parent anc after me) e refl refl led) (λ x h. inl h) same, refl))
      (λ h. (keeps anc n me 0 0 v Entry r t silent refl refl (silent_sent anc n me 0 0 v Entry t) (λ x k. inl k) same, refl)))
    where
      after : ℕ
      after = union r.marks (below q)

      t : Rank
      t = viewing anc n me after r

      same : TripleFrom anc n me 0 0 v Entry r t
      same = unchanged anc n me 0 0 v Entry r t (λ e. e) refl (λ y h. h)

      -- q is below and unmarked: there is a parent
      led : parent anc after me ≡ none → ⊥
      led z = has-parent anc after me q (omega arith) l (marked-high r.marks q q (omega arith) ∙ f) z
