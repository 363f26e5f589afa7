-- Which deaths a rank knows after what an event has it do, and which ranks that moves: a notice adds one death, an ASK that is taken every
-- rank below its sender, and nothing else adds any or moves a rank. Over any ancestor sets. Assumes nothing.
use mathlib.Core.Path.{◌≡◌, refl}
use mathlib.Core.List.{List}
use mathlib.Core.Logic.{◌⊎◌, inl, inr, ⊎_elim}
use Prim.Native.Nat.{ℕ}
use native.Mathlib.Omega.{arith}
use Rattle.sets.specs.Sets.{has, add, union, below}
use Rattle.sets.proofs.Laws.Bools.{clash}
use Rattle.tree.specs.Tree.{moved, nobody}
use Rattle.tree.specs.Calls.{moved_below}
use Rattle.rank.specs.declared.Rank.{Rank}
use Rattle.rank.specs.declared.Message.{Message}
use Rattle.rank.specs.declared.Acted.{Acted}
use Rattle.rank.specs.Words.{up, down, ask}
use Rattle.rank.specs.Rules.{taking_ask}
use Rattle.rank.proofs.Laws.Knowing as Rank
use Rattle.rank.proofs.Laws.Knowing.{enter-knows, up-knows, down-knows, acknowledge-knows, enter-moved, up-moved, down-moved, ask-moved, notice-moved, acknowledge-moved}
use Rattle.events.specs.declared.Event.{Event}
use Rattle.plans.specs.Plans.{delivered, acting}
use Rattle.plans.proofs.Laws.Cases.{Dropped, Undropped, delivered_by, acting_by}

-- no death is learnt and no rank moves
abbrev Calm : Rank → Acted → Type 0
Calm r a = (a.rank.marks ≡ r.marks) × (a.moved ≡ nobody)

module _ (anc : ℕ → ℕ) (n dead : ℕ) (ev : Event) (m : Message) (me : ℕ) (r : Rank) (row : List ℕ) where
  -- ---- a notice

  acting-notice : (P : Acted → Type 0) → ev.kind ≡ 4 → P (Rattle.rank.specs.Rules.noticing anc n me ev.b r) → P (acting anc n dead ev m me r row)
  acting-notice P k h = acting_by anc n dead me m r row P ev (λ e. absurd (omega arith)) (λ e. absurd (omega arith)) (λ e. h) (λ e. absurd (omega arith)) (λ x y z w. absurd (z k))

  pub notice-knows : ev.kind ≡ 4 → (acting anc n dead ev m me r row).rank.marks ≡ add r.marks ev.b
  notice-knows k = acting-notice (λ x. x.rank.marks ≡ add r.marks ev.b) k (Rank.notice-knows anc n me ev.b r).marks_are

  pub notice-moves : ev.kind ≡ 4 → (acting anc n dead ev m me r row).moved ≡ moved anc n r.marks ev.b
  notice-moves k = acting-notice (λ x. x.moved ≡ moved anc n r.marks ev.b) k (notice-moved anc n me ev.b r)

  -- ---- a delivery

  acting_delivery : (P : Acted → Type 0) → ev.kind ≡ 2 → P (delivered anc n dead me m r row) → P (acting anc n dead ev m me r row)
  acting_delivery P k h = acting_by anc n dead me m r row P ev (λ e. absurd (omega arith)) (λ e. h) (λ e. absurd (omega arith)) (λ e. absurd (omega arith)) (λ x y z w. absurd (y k))

  kept : Undropped dead me m r → Dropped dead me m r → ⊥
  kept t (inl d) = clash (has dead me) d t.lives
  kept t (inr d) = clash (has r.marks m.from) d t.unmarked

  acting_taken : (P : Acted → Type 0) → ev.kind ≡ 2 → m.kind ≡ ask → Undropped dead me m r → P (taking_ask anc n me m.from r) → P (acting anc n dead ev m me r row)
  acting_taken P d k t h = acting_delivery P d (delivered_by anc n dead me m r row P (λ d. absurd (kept t d)) (λ x e. absurd (omega arith)) (λ x e. absurd (omega arith)) (λ x u d. h))

  pub ask-knows : ev.kind ≡ 2 → m.kind ≡ ask → Undropped dead me m r → (acting anc n dead ev m me r row).rank.marks ≡ union r.marks (below m.from)
  ask-knows d k t = acting_taken (λ x. x.rank.marks ≡ union r.marks (below m.from)) d k t (Rank.ask-knows anc n me m.from r).marks_are

  pub ask-moves : ev.kind ≡ 2 → m.kind ≡ ask → Undropped dead me m r → (acting anc n dead ev m me r row).moved ≡ moved_below anc n r.marks m.from
  ask-moves d k t = acting_taken (λ x. x.moved ≡ moved_below anc n r.marks m.from) d k t (ask-moved anc n me m.from r)

  -- a message to a dead rank, or from a sender that the receiver has marked
  pub dropped_calm : ev.kind ≡ 2 → Dropped dead me m r → Calm r (acting anc n dead ev m me r row)
  dropped_calm k d = acting_delivery (Calm r) k (delivered_by anc n dead me m r row (Calm r) (λ x. (refl, refl)) (λ t e. absurd (kept t d)) (λ t e. absurd (kept t d)) (λ t u v. absurd (kept t d)))

  delivered_calm : (m.kind ≡ up) ⊎ (m.kind ≡ down) → Calm r (delivered anc n dead me m r row)
  delivered_calm k = delivered_by anc n dead me m r row (Calm r) (λ x. (refl, refl)) (λ t e. ((up-knows anc n me m.from m.triple r).marks_are, up-moved anc n me m.from m.triple r)) (λ t e. ((down-knows anc n me m.triple r).marks_are, down-moved anc n me m.triple r))
      (λ t u v. absurd (⊎_elim u v k))

  -- ---- any other event

  pub other_calm : (ev.kind ≡ 4 → ⊥) → (ev.kind ≡ 2 → (m.kind ≡ up) ⊎ (m.kind ≡ down)) → Calm r (acting anc n dead ev m me r row)
  other_calm h k = acting_by anc n dead me m r row (Calm r) ev (λ e. ((enter-knows anc n me ev.b r).marks_are, enter-moved anc n me ev.b r)) (λ e. delivered_calm (k e)) (λ e. absurd (h e)) (λ e. ((acknowledge-knows anc n me r).marks_are, acknowledge-moved anc n me r)) (λ x y z w. (refl, refl))
