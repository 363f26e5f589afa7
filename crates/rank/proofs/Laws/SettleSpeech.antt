-- Settle makes a speech of a rule's own part, with its one send, and what settle adds to it. Assumes nothing.
use mathlib.Core.Path.{◌≡◌, refl, sym, ◌∙◌}
use mathlib.Core.Bool.{true}
use mathlib.Core.Logic.{◌⊎◌, inl, inr, ⊎_elim}
use Prim.Native.Nat.{ℕ}
use native.Mathlib.Omega.{arith}
use lib.Dec.{eqb}
use borrow.Author.Tests.{eqb-true}
use Rattle.sets.specs.Sets.{none, has, only, add, union, minus}
use Rattle.sets.proofs.Laws.Bools.{clash, or_cases}
use Rattle.sets.proofs.Laws.Members.{has-zero, has-only, has-union, has-add, minus_l}
use Rattle.tree.specs.declared.Moved.{Moved}
use Rattle.tree.specs.Tree.{parent, children}
use Rattle.rank.specs.declared.Rank.{Rank}
use Rattle.rank.specs.declared.Send.{Send}
use Rattle.rank.specs.declared.Said.{Said}
use Rattle.rank.specs.declared.Triple.{Triple}
use Rattle.rank.specs.Words.{outside, gathering, waiting, decided, up, down, ask}
use Rattle.rank.specs.Triples.{closing, zero_triple}
use Rattle.rank.specs.Records.{becoming, concluding, parent_of, children_of, awaiting}
use Rattle.rank.specs.Sends.{silent, reports, tells, asks}
use Rattle.rank.specs.Rules.{saying, deciding, settling}
use Rattle.rank.proofs.Turn.{Says, Leads}
use Rattle.rank.proofs.Speech.{SaysTriple, Sender, Enters, Hears, Keeps, Remains, Obeys, Settles, Speech}
use Rattle.rank.proofs.Laws.Cases.{settled_by}
use Rattle.rank.proofs.Laws.SettleTurn.{complete}

-- where the second send is silent, the first says it
pub first-triple : (f : Send) (kind : ℕ) (w : Triple) (x : ℕ) → SaysTriple f silent kind w x → (f.kind ≡ kind) × (f.triple ≡ w) × (has f.to x ≡ true)
unfolding silent
first-triple f kind w x s = ⊎_elim (λ (h : (f.kind ≡ kind) × (f.triple ≡ w) × (has f.to x ≡ true)). h) (λ (h : (0 ≡ kind) × (zero_triple ≡ w) × (has 0 x ≡ true)). absurd (clash (has 0 x) h.2 (has-zero x))) s

-- what is said carries some word, and a word that is said is said
pub some-triple : (f g : Send) (kind x : ℕ) → Says f g kind x → (w : Triple) × SaysTriple f g kind w x
some-triple f g kind x (inl h) = (f.triple, inl (h.0, refl, h.1))
some-triple f g kind x (inr h) = (g.triple, inr (h.0, refl, h.1))

pub any_triple : (f g : Send) (kind : ℕ) (w : Triple) (x : ℕ) → SaysTriple f g kind w x → Says f g kind x
any_triple f g kind w x (inl h) = inl (h.0, h.2)
any_triple f g kind w x (inr h) = inr (h.0, h.2)

only_is : (p x : ℕ) → has (only p) x ≡ true → x ≡ p
only_is p x h = eqb-true x p (sym (has-only p x) ∙ h)

-- who joins a set is the one added
pub add_is : (w p x : ℕ) → has (add w p) x ≡ true → (has w x ≡ true) ⊎ (p ≡ x)
add_is w p x h = ⊎_elim (λ (a : has w x ≡ true). inl a) (λ (a : eqb x p ≡ true). inr (sym (eqb-true x p a))) (or_cases (has w x) (eqb x p) (sym (has-add w p x) ∙ h))

module _ (anc : ℕ → ℕ) (n me kind q : ℕ) (v : Triple) (Entry : Type 0) where
  -- What a rule's own part sends: an UP to the parent while it waits, a DOWN to the sender once it has decided.
  abbrev pub Sent : Rank → Send → Type 0
  Sent r f =
      (f.kind ≡ up → (r.phase ≡ waiting) × (f.triple ≡ r.triple) × ((x : ℕ) → has f.to x ≡ true → (parent anc r.marks me ≡ x) × (x ≡ none → ⊥)))
      × (f.kind ≡ down → (r.phase ≡ decided) × (f.triple ≡ r.result) × ((x : ℕ) → has f.to x ≡ true → Sender kind q x))

  pub silent_sent : (r : Rank) → Sent r silent
  unfolding silent
  silent_sent r = (λ e. absurd (omega arith), λ e. absurd (omega arith))

  pub asks_sent : (r : Rank) (to : ℕ) → Sent r (asks to)
  unfolding asks
  asks_sent r to = (λ e. absurd (omega arith), λ e. absurd (omega arith))

  pub reports_sent : (r s : Rank) (p : ℕ) → r.phase ≡ waiting → s.triple ≡ r.triple → parent anc r.marks me ≡ p → (p ≡ none → ⊥) → Sent r (reports s p)
  unfolding reports
  reports_sent r s p w d z b = (λ e. (w, d, λ x h. (z ∙ sym (only_is p x h), λ k. b (sym (only_is p x h) ∙ k))), λ e. absurd (omega arith))

  pub tells_sent : (r : Rank) → r.phase ≡ decided → (kind ≡ up) ⊎ (kind ≡ ask) → Sent r (tells r.result (only q))
  unfolding tells
  tells_sent r d k = (λ e. absurd (omega arith), λ e. (d, refl, λ x h. (k, sym (only_is q x h))))

  abbrev pub TripleFrom : Rank → Rank → Type 0
  TripleFrom r r' = Enters Entry v r r' ⊎ (Hears kind q v r r' ⊎ Keeps r r')

  -- A rule's own part, with its one send.
  pub record Spoken (r r' : Rank) (f : Send) : Type 0 where
    pub sends : Sent r' f
    pub owes : (x : ℕ) → has r'.owed x ≡ true → (has r.owed x ≡ true) ⊎ Sender kind q x
    pub from : TripleFrom r r'
    pub remains : r'.phase ≡ decided → Remains r r'
    pub final : r.phase ≡ decided → r'.phase ≡ decided

  -- a part that keeps the word, and hears nobody
  pub unchanged : (r r' : Rank) → (r.phase ≡ outside → r'.phase ≡ outside) → r'.triple ≡ r.triple → ((x : ℕ) → has r'.heard x ≡ true → has r.heard x ≡ true) → TripleFrom r r'
  unchanged r r' o e h = inr (inr (record { stays_outside = o; triple_is = e; heard_was = h }))

  -- a part that keeps the phase and the result: what is left to show of it
  pub keeps : (r r' : Rank) (f : Send) → r'.phase ≡ r.phase → r'.result ≡ r.result → Sent r' f
      → ((x : ℕ) → has r'.owed x ≡ true → (has r.owed x ≡ true) ⊎ Sender kind q x)
      → TripleFrom r r'
      → Spoken r r' f
  keeps r r' f p e s o w = record { sends = s; owes = o; from = w; remains = λ d. record { was_decided = sym p ∙ d; result_is = e }; final = λ d. p ∙ d }

  -- a part is a speech by itself
  pub rests : (r r' : Rank) (f : Send) → Spoken r r' f → Speech anc n me kind q v Entry r r' f silent
  rests r r' f t = record {
    up_to = λ w x s. let h : (f.kind ≡ up) × (f.triple ≡ w) × (has f.to x ≡ true) = first-triple f up w x s in (((t.sends.0 h.0).2 x h.2).0, ((t.sends.0 h.0).2 x h.2).1, sym h.1 ∙ (t.sends.0 h.0).1);
    down_to = λ w x s. let h : (f.kind ≡ down) × (f.triple ≡ w) × (has f.to x ≡ true) = first-triple f down w x s in (inr (inr ((t.sends.1 h.0).2 x h.2)), sym h.1 ∙ (t.sends.1 h.0).1);
    owed_new = t.owes;
    triple_from = t.from;
    result_from = λ e. inl (t.remains e);
  }

  -- whoever is told is a child, or owed
  pub informs : (r : Rank) (x : ℕ) → has (minus (union (children anc n r.marks me) r.owed) r.marks) x ≡ true → Leads anc n me r x ⊎ ((has r.owed x ≡ true) ⊎ Sender kind q x)
  informs r x h =
      let c : ℕ = children anc n r.marks me in
      ⊎_elim (λ (a : has c x ≡ true). inl a) (λ (a : has r.owed x ≡ true). inr (inl a)) (or_cases (has c x) (has r.owed x) (sym (has-union c r.owed x) ∙ minus_l (union c r.owed) r.marks x h))

  -- a gathering rank that goes on to another phase keeps where its word comes from
  later : (r r' r'' : Rank) → (r''.phase ≡ outside → ⊥) → r''.triple ≡ r'.triple → ((x : ℕ) → has r''.heard x ≡ true → has r'.heard x ≡ true) → r'.phase ≡ gathering → TripleFrom r r' → TripleFrom r r''
  later r r' r'' i e k g (inl h) = inl (record { entry = h.entry; was_outside = h.was_outside; is_inside = i; triple_is = e ∙ h.triple_is; heard_was = λ x y. h.heard_was x (k x y) })
  later r r' r'' i e k g (inr (inl h)) = inr (inl (record { took_up = h.took_up; was_undecided = h.was_undecided; stays_outside = λ o. let d : r'.phase ≡ outside = h.stays_outside o in absurd (omega arith); triple_is = e ∙ h.triple_is; heard_was = λ x y. h.heard_was x (k x y) }))
  later r r' r'' i e k g (inr (inr h)) = inr (inr (record { stays_outside = λ o. let d : r'.phase ≡ outside = h.stays_outside o in absurd (omega arith); triple_is = e ∙ h.triple_is; heard_was = λ x y. h.heard_was x (k x y) }))

  -- ---- settle

  module _ (r r' : Rank) (f : Send) (t : Spoken r r' f) (w : r'.awaited ≡ awaiting anc n me r'.marks r'.heard) (p : r'.phase ≡ gathering) (a : r'.awaited ≡ 0) where
    first-not-up : f.kind ≡ up → ⊥
    first-not-up e = let d : r'.phase ≡ waiting = (t.sends.0 e).0 in omega arith

    first-not-down : f.kind ≡ down → ⊥
    first-not-down e = let d : r'.phase ≡ decided = (t.sends.1 e).0 in omega arith

    -- a rank without a parent decides
    decides_speech : parent anc r'.marks me ≡ none → Speech anc n me kind q v Entry r (deciding anc n me (closing r'.marks r'.triple) r').rank f (deciding anc n me (closing r'.marks r'.triple) r').send
    unfolding deciding saying concluding children_of tells becoming
    decides_speech z = record {
      up_to = λ y x s. absurd (⊎_elim (λ (h : (f.kind ≡ up) × (f.triple ≡ y) × (has f.to x ≡ true)). first-not-up h.0) (λ (h : (down ≡ up) × (closing r'.marks r'.triple ≡ y) × (has to x ≡ true)). let d : down ≡ up = h.0 in omega arith) s);
      down_to = λ y x s. ⊎_elim (λ (h : (f.kind ≡ down) × (f.triple ≡ y) × (has f.to x ≡ true)). absurd (first-not-down h.0)) (λ (h : (down ≡ down) × (closing r'.marks r'.triple ≡ y) × (has to x ≡ true)). (informs r' x h.2, sym h.1)) s;
      owed_new = t.owes;
      triple_from = later r r' (concluding (closing r'.marks r'.triple) r') (λ o. omega arith) refl (λ x h. h) p t.from;
      result_from = λ e. inr (inr (record { was_undecided = λ d. let b : r'.phase ≡ decided = t.final d in omega arith; root = z; complete = complete anc n me r' w a; result_is = refl }));
    }
      where
        to : ℕ
        to = minus (union (children anc n r'.marks me) r'.owed) r'.marks

    -- any other reports to its parent
    reports_speech : (parent anc r'.marks me ≡ none → ⊥) → Speech anc n me kind q v Entry r (becoming waiting r') f (reports r' (parent anc r'.marks me))
    unfolding becoming reports
    reports_speech z = record {
      up_to = λ y x s. ⊎_elim (λ (h : (f.kind ≡ up) × (f.triple ≡ y) × (has f.to x ≡ true)). absurd (first-not-up h.0)) (λ (h : (up ≡ up) × (r'.triple ≡ y) × (has (only b) x ≡ true)). (sym (only_is b x h.2), λ k. z (sym (only_is b x h.2) ∙ k), sym h.1)) s;
      down_to = λ y x s. absurd (⊎_elim (λ (h : (f.kind ≡ down) × (f.triple ≡ y) × (has f.to x ≡ true)). first-not-down h.0) (λ (h : (up ≡ down) × (r'.triple ≡ y) × (has (only b) x ≡ true)). let d : up ≡ down = h.0 in omega arith) s);
      owed_new = t.owes;
      triple_from = later r r' (becoming waiting r') (λ o. omega arith) refl (λ x h. h) p t.from;
      result_from = λ e. absurd (omega arith);
    }
      where
        b : ℕ
        b = parent anc r'.marks me

  -- a rule's own part, for settle
  abbrev pub Part : Rank → Said → Type 0
  Part r s = Spoken r s.rank s.send × (s.rank.awaited ≡ awaiting anc n me s.rank.marks s.rank.heard)

  pub settling_speech : (r : Rank) (s : Said) (m : Moved) → Part r s → Speech anc n me kind q v Entry r (settling anc n me s m).rank (settling anc n me s m).first (settling anc n me s m).second
  unfolding settling saying parent_of
  settling_speech r s m t =
      settled_by anc n me (λ (x : Said). Speech anc n me kind q v Entry r x.rank s.send x.send) s.rank
      (λ h. rests r s.rank s.send t.0)
      (λ p a e. decides_speech r s.rank s.send t.0 t.1 p a e)
      (λ p a e. reports_speech r s.rank s.send t.0 t.1 p a e)

-- A decided rank keeps its result and its triple.
pub decided_stays : (anc : ℕ → ℕ) (n me kind q : ℕ) (v : Triple) (Entry : Type 0) (r r' : Rank) (f g : Send) → Speech anc n me kind q v Entry r r' f g → r.phase ≡ decided → r'.phase ≡ decided → (r'.result ≡ r.result) × (r'.triple ≡ r.triple)
decided_stays anc n me kind q v Entry r r' f g s d d' = (result (s.result_from d'), triple s.triple_from)
  where
    result : Remains r r' ⊎ (Obeys kind v r r' ⊎ Settles anc n me r r') → r'.result ≡ r.result
    result (inl h) = h.result_is
    result (inr (inl h)) = absurd (h.was_undecided d)
    result (inr (inr h)) = absurd (h.was_undecided d)

    triple : Enters Entry v r r' ⊎ (Hears kind q v r r' ⊎ Keeps r r') → r'.triple ≡ r.triple
    triple (inl h) = let o : r.phase ≡ outside = h.was_outside in absurd (omega arith)
    triple (inr (inl h)) = absurd (h.was_undecided d)
    triple (inr (inr h)) = h.triple_is
