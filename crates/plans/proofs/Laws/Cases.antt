-- A delivery, and what an event has its rank do, case by case: whatever holds in each case holds. Assumes nothing.
use mathlib.Core.Path.{◌≡◌}
use mathlib.Core.Bool.{true, false, cond, ◌||◌}
use mathlib.Core.List.{List}
use mathlib.Core.Logic.{◌⊎◌}
use Prim.Native.Nat.{ℕ}
use lib.Dec.{eqb}
use borrow.Author.Tests.{eqb-true, eqb-false}
use Rattle.sets.specs.Sets.{has}
use Rattle.sets.proofs.Laws.Bools.{or_cases, or_neither}
use Rattle.rank.specs.declared.Rank.{Rank}
use Rattle.rank.specs.declared.Message.{Message}
use Rattle.rank.specs.declared.Acted.{Acted}
use Rattle.rank.specs.Words.{up, down}
use Rattle.rank.specs.Rules.{entering, taking_up, taking_down, taking_ask, noticing, acknowledging}
use Rattle.rank.proofs.Laws.Cases.{by_test}
use Rattle.events.specs.declared.Event.{Event}
use Rattle.plans.specs.Plans.{idle, delivered, acting}

-- the receiver is dead or has marked the sender, and the message is dropped
abbrev pub Dropped : ℕ → ℕ → Message → Rank → Type 0
Dropped dead me m r = (has dead me ≡ true) ⊎ (has r.marks m.from ≡ true)

-- the receiver lives and has not marked the sender, and the message is taken
pub record Undropped (dead me : ℕ) (m : Message) (r : Rank) : Type 0 where
  pub lives : has dead me ≡ false
  pub unmarked : has r.marks m.from ≡ false

-- the test of a delivery says which
pub is_dropped : (dead me : ℕ) (m : Message) (r : Rank) → has dead me || has r.marks m.from ≡ true → Dropped dead me m r
is_dropped dead me m r t = or_cases (has dead me) (has r.marks m.from) t

pub is_undropped : (dead me : ℕ) (m : Message) (r : Rank) → has dead me || has r.marks m.from ≡ false → Undropped dead me m r
is_undropped dead me m r t = let u = or_neither (has dead me) (has r.marks m.from) t in record { lives = u.0; unmarked = u.1 }

module _ (anc : ℕ → ℕ) (n dead me : ℕ) (m : Message) (r : Rank) (row : List ℕ) (P : Acted → Type 0) where
  pub delivered_by : (Dropped dead me m r → P (idle r row))
      → (Undropped dead me m r → m.kind ≡ up → P (taking_up anc n me m.from m.triple r))
      → (Undropped dead me m r → m.kind ≡ down → P (taking_down anc n me m.triple r))
      → (Undropped dead me m r → (m.kind ≡ up → ⊥) → (m.kind ≡ down → ⊥) → P (taking_ask anc n me m.from r))
      → P (delivered anc n dead me m r row)
  unfolding delivered
  delivered_by dropped raises lowers asks =
      by_test P (has dead me || has r.marks m.from) (idle r row) rest (λ t. dropped (is_dropped dead me m r t))
      (λ t. let k = is_undropped dead me m r t in by_test P (eqb m.kind up) (taking_up anc n me m.from m.triple r) (cond (eqb m.kind down) (taking_down anc n me m.triple r) (taking_ask anc n me m.from r))
      (λ u. raises k (eqb-true m.kind up u))
      (λ u. by_test P (eqb m.kind down) (taking_down anc n me m.triple r) (taking_ask anc n me m.from r) (λ d. lowers k (eqb-true m.kind down d)) (λ d. asks k (eqb-false m.kind up u) (eqb-false m.kind down d))))
    where
      rest : Acted
      rest = cond (eqb m.kind up) (taking_up anc n me m.from m.triple r) (cond (eqb m.kind down) (taking_down anc n me m.triple r) (taking_ask anc n me m.from r))

  pub acting_by : (ev : Event) → (ev.kind ≡ 1 → P (entering anc n me ev.b r)) → (ev.kind ≡ 2 → P (delivered anc n dead me m r row)) → (ev.kind ≡ 4 → P (noticing anc n me ev.b r)) → (ev.kind ≡ 6 → P (acknowledging anc n me r))
      → ((ev.kind ≡ 1 → ⊥) → (ev.kind ≡ 2 → ⊥) → (ev.kind ≡ 4 → ⊥) → (ev.kind ≡ 6 → ⊥) → P (idle r row)) → P (acting anc n dead ev m me r row)
  unfolding acting
  acting_by ev enters delivers notices acknowledges other =
      by_test P (eqb ev.kind 1) (entering anc n me ev.b r) (cond (eqb ev.kind 2) (delivered anc n dead me m r row) (cond (eqb ev.kind 4) (noticing anc n me ev.b r) (cond (eqb ev.kind 6) (acknowledging anc n me r) (idle r row)))) (λ t. enters (eqb-true ev.kind 1 t))
      (λ t. by_test P (eqb ev.kind 2) (delivered anc n dead me m r row) (cond (eqb ev.kind 4) (noticing anc n me ev.b r) (cond (eqb ev.kind 6) (acknowledging anc n me r) (idle r row))) (λ u. delivers (eqb-true ev.kind 2 u))
      (λ u. by_test P (eqb ev.kind 4) (noticing anc n me ev.b r) (cond (eqb ev.kind 6) (acknowledging anc n me r) (idle r row)) (λ v. notices (eqb-true ev.kind 4 v))
      (λ v. by_test P (eqb ev.kind 6) (acknowledging anc n me r) (idle r row) (λ w. acknowledges (eqb-true ev.kind 6 w)) (λ w. other (eqb-false ev.kind 1 t) (eqb-false ev.kind 2 u) (eqb-false ev.kind 4 v) (eqb-false ev.kind 6 w)))))
