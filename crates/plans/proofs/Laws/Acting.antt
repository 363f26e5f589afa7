-- What an event has its rank do keeps that rank in order, over any ancestor sets: the facts of document 01's "in order" are what each rule
-- asks of its event. Assumes nothing.
use mathlib.Core.Path.{◌≡◌, sym, ap, subst, ◌∙◌}
use mathlib.Core.Bool.{true, false}
use mathlib.Core.List.{List}
use mathlib.Core.Logic.{◌⊎◌, inl, inr, ⊎_elim}
use Prim.Native.Nat.{ℕ, ◌≤◌, ◌<◌}
use native.Mathlib.Omega.{arith}
use lib.Dec.{eqb}
use borrow.Author.Tests.{eqb-true}
use Rattle.sets.specs.Sets.{has, add, union, below}
use Rattle.sets.proofs.Laws.Bools.{clash, eq_or_ne, lt-or-le, or_cases}
use Rattle.sets.proofs.Laws.Members.{has-union, has-add, has_below_ge}
use Rattle.tree.specs.Tree.{fresh}
use Rattle.rank.specs.declared.Rank.{Rank}
use Rattle.rank.specs.declared.Message.{Message}
use Rattle.rank.specs.declared.Acted.{Acted}
use Rattle.rank.specs.Words.{outside, up, down, ask}
use Rattle.rank.specs.Rules.{entering, taking_up, taking_down, taking_ask, noticing, acknowledging}
use Rattle.rank.proofs.Facts.{Posted, ActedInOrder, MemberInOrder}
use Rattle.rank.proofs.Laws.Keeping.{silent-posted, enter_in_order, up_in_order, down_in_order, ask_in_order, notice_in_order, acknowledge_in_order}
use Rattle.net.proofs.Facts.{MessageInOrder}
use Rattle.events.specs.declared.Event.{Event}
use Rattle.plans.specs.Plans.{idle, delivered, acting}
use Rattle.plans.proofs.Laws.Cases.{delivered_by, acting_by}

-- the rank is still in order, and sends what it may
pub record Outcome (anc : ℕ → ℕ) (n dead me : ℕ) (a : Acted) : Type 0 where
  pub seat : MemberInOrder anc n dead me a.rank a.row
  pub first-posted : Posted n me a.rank.marks a.first
  pub second_posted : Posted n me a.rank.marks a.second

in_order_outcome : (anc : ℕ → ℕ) (n dead me marks acknowledged : ℕ) (a : Acted) → ActedInOrder anc n me marks acknowledged a → ((k : ℕ) → has marks k ≡ true → has dead k ≡ true) → Outcome anc n dead me a
in_order_outcome anc n dead me marks acknowledged a s h = record {
  seat = record { in_order = s.in_order; table = s.row_is ∙ ap (fresh anc n) (sym s.knows.marks_are); marks_dead = λ k t. h k (subst (λ (x : ℕ). has x k ≡ true) s.knows.marks_are t) };
  first-posted = subst (λ (x : ℕ). Posted n me x a.first) (sym s.knows.marks_are) s.first-posted;
  second_posted = subst (λ (x : ℕ). Posted n me x a.second) (sym s.knows.marks_are) s.second_posted;
}

module _ (anc : ℕ → ℕ) (n dead me : ℕ) (small : n ≤ 64) (own : me < n) where
  idle_outcome : (r : Rank) (row : List ℕ) → MemberInOrder anc n dead me r row → Outcome anc n dead me (idle r row)
  idle_outcome r row s = record { seat = s; first-posted = silent-posted anc n me small own r.marks; second_posted = silent-posted anc n me small own r.marks }

  -- ---- a delivery to a living rank that has not marked the sender

  -- an ASK's sender is below its receiver, since all below the sender are dead
  pub asker_below : (m : Message) → MessageInOrder n dead m → m.to ≡ me → m.kind ≡ ask → has dead me ≡ false → m.from < me
  asker_below m l e k f = ⊎_elim (λ (h : m.from < me). h) (λ (h : me ≤ m.from). absurd (late h (eq_or_ne me m.from))) (lt-or-le m.from me)
    where
      late : me ≤ m.from → (me ≡ m.from) ⊎ (me ≡ m.from → ⊥) → ⊥
      late h (inl q) = l.differ (sym q ∙ sym e)
      late h (inr q) = clash (has dead me) (l.ask_dead k me (omega arith)) f

  ask-marks : (m : Message) (r : Rank) (row : List ℕ) → MessageInOrder n dead m → m.kind ≡ ask → MemberInOrder anc n dead me r row → (k : ℕ) → has (union r.marks (below m.from)) k ≡ true → has dead k ≡ true
  ask-marks m r row l e s k t =
      ⊎_elim (s.marks_dead k)
      (λ (b : has (below m.from) k ≡ true). ⊎_elim (λ (h : k < m.from). l.ask_dead e k h) (λ (h : m.from ≤ k). absurd (clash (has (below m.from) k) b (has_below_ge m.from k h))) (lt-or-le k m.from))
      (or_cases (has r.marks k) (has (below m.from) k) (sym (has-union r.marks (below m.from) k) ∙ t))

  delivered_outcome : (m : Message) (r : Rank) (row : List ℕ) → MessageInOrder n dead m → m.to ≡ me → MemberInOrder anc n dead me r row → Outcome anc n dead me (delivered anc n dead me m r row)
  delivered_outcome m r row l e s = delivered_by anc n dead me m r row (Outcome anc n dead me) (λ d. idle_outcome r row s)
      (λ t u. in_order_outcome anc n dead me r.marks r.acknowledged (taking_up anc n me m.from m.triple r) (up_in_order anc n me small own m.from m.triple r s.in_order l.triple_in l.from_in (λ q. l.differ (q ∙ sym e))) s.marks_dead)
      (λ t d. in_order_outcome anc n dead me r.marks r.acknowledged (taking_down anc n me m.triple r) (down_in_order anc n me small own m.triple r s.in_order l.triple_in) s.marks_dead)
      (λ t u d.
      let k : m.kind ≡ ask = only-ask m.kind l.kind-low l.kind-high u d in
      in_order_outcome anc n dead me (union r.marks (below m.from)) r.acknowledged (taking_ask anc n me m.from r) (ask_in_order anc n me small own m.from r s.in_order (asker_below m l e k t.lives) t.unmarked) (ask-marks m r row l k s))
    where
      only-ask : (k : ℕ) → up ≤ k → k ≤ ask → (k ≡ up → ⊥) → (k ≡ down → ⊥) → k ≡ ask
      only-ask k a b c d = omega arith

  -- ---- any event that is not refused

  enters_outcome : (b : ℕ) (r : Rank) (row : List ℕ) → r.phase ≡ outside → MemberInOrder anc n dead me r row → Outcome anc n dead me (entering anc n me b r)
  enters_outcome b r row p s = in_order_outcome anc n dead me r.marks r.acknowledged (entering anc n me b r) (enter_in_order anc n me small own b r s.in_order p) s.marks_dead

  notices_outcome : (b : ℕ) (r : Rank) (row : List ℕ) → b < n → has dead b ≡ true → has dead me ≡ false → MemberInOrder anc n dead me r row → Outcome anc n dead me (noticing anc n me b r)
  notices_outcome b r row l d f s =
      let o : b ≡ me → ⊥ = λ q. clash (has dead me) (subst (λ (x : ℕ). has dead x ≡ true) q d) f in
      in_order_outcome anc n dead me (add r.marks b) r.acknowledged (noticing anc n me b r) (notice_in_order anc n me small own b r s.in_order l o)
      (λ j u. ⊎_elim (s.marks_dead j) (λ (q : eqb j b ≡ true). subst (λ (x : ℕ). has dead x ≡ true) (sym (eqb-true j b q)) d) (or_cases (has r.marks j) (eqb j b) (sym (has-add r.marks b j) ∙ u)))

  acknowledges_outcome : (r : Rank) (row : List ℕ) → MemberInOrder anc n dead me r row → Outcome anc n dead me (acknowledging anc n me r)
  acknowledges_outcome r row s = in_order_outcome anc n dead me r.marks r.marks (acknowledging anc n me r) (acknowledge_in_order anc n me small own r s.in_order) s.marks_dead

  pub acting_outcome : (ev : Event) (m : Message) (r : Rank) (row : List ℕ) → MemberInOrder anc n dead me r row → (ev.kind ≡ 1 → r.phase ≡ outside) → (ev.kind ≡ 2 → MessageInOrder n dead m × (m.to ≡ me))
      → (ev.kind ≡ 4 → (ev.b < n) × (has dead ev.b ≡ true) × (has dead me ≡ false)) → Outcome anc n dead me (acting anc n dead ev m me r row)
  acting_outcome ev m r row s e d t = acting_by anc n dead me m r row (Outcome anc n dead me) ev (λ k. enters_outcome ev.b r row (e k) s) (λ k. let x = d k in delivered_outcome m r row x.0 x.1 s)
      (λ k. let x = t k in notices_outcome ev.b r row x.0 x.1 x.2 s) (λ k. acknowledges_outcome r row s) (λ x y z w. idle_outcome r row s)
