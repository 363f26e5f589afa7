-- Which ranks an accepted event answers as moved, on any state in order: those of one mark for a notice, those of all its marks for an ASK.
-- Over any ancestor sets. Assumes nothing.
use mathlib.Core.Path.{◌≡◌, refl, ap, ◌∙◌}
use mathlib.Core.Bool.{false, ◌||◌}
use mathlib.Core.Logic.{inl, inr}
use Prim.Native.Nat.{ℕ, ◌≤◌, ◌<◌}
use native.Mathlib.Omega.{arith}
use Rattle.sets.specs.Sets.{has}
use Rattle.tree.specs.Tree.{moved, ended_at}
use Rattle.tree.specs.Calls.{moved_below}
use Rattle.tree.proofs.Laws.Mending.{moved-who, below-who}
use Rattle.rank.specs.Words.{ask}
use Rattle.net.proofs.Facts.{MessageInOrder}
use Rattle.events.specs.Events.{event_of}
use Rattle.events.proofs.Laws.Naming.{names_a_rank, names_a_place}
use Rattle.state.specs.declared.State.{State}
use Rattle.state.specs.States.{rank_at, row_at, place_at}
use Rattle.order.specs.Between.{InOrder}
use Rattle.order.proofs.Laws.Ordering.{in_order_facts}
use Rattle.plans.proofs.Laws.Cases.{is_undropped}
use Rattle.plans.proofs.Laws.Knowing as Knowing
use Rattle.group.specs.Events.{event}
use Rattle.group.specs.Changes.{named, doing}
use Rattle.group.specs.Reaching.{table_below, ended_at_some}
use Rattle.group.proofs.Laws.Moving.{table-fresh, notice_about, notice-knows, delivered_in_order}
use Rattle.group.proofs.Laws.Changing.{moved_is, named-rank, named_receiver}

-- ---- a notice

module _ (anc : ℕ → ℕ) (s : State) (o : InOrder anc s) (a b : ℕ) (z : (event anc s (event_of 4 a b)).answer ≡ 0) where
  pub notice-answers : (event anc s (event_of 4 a b)).moved ≡ moved anc s.group.n (rank_at s a).marks b
  unfolding doing
  notice-answers =
      moved_is anc s o (event_of 4 a b) z ∙ Knowing.notice-moves anc _ _ _ _ _ _ _ refl
      ∙ ap (λ (i : ℕ). moved anc s.group.n (rank_at s i).marks b) (named-rank s (event_of 4 a b) (names_a_rank 4 (inr (inr (inl refl)))).1)

  pub notice-who : (p : ℕ) → has (event anc s (event_of 4 a b)).moved.ranks p ≡ ended_at s.group.n b (rank_at (event anc s (event_of 4 a b)).state a).marks (row_at s a) p
  notice-who p =
      let small : s.group.n ≤ 64 = (in_order_facts anc s o).shape.small in
      let c : b < s.group.n = (notice_about anc s o a b z).2 in
      rw (notice-answers, notice-knows anc s o a b z, table-fresh anc s s.group.n a o refl (notice_about anc s o a b z).1)
      (moved-who anc s.group.n (rank_at s a).marks b p small (omega arith))

-- ---- an ASK that is taken

module _ (anc : ℕ → ℕ) (s : State) (o : InOrder anc s) (a b : ℕ) (z : (event anc s (event_of 2 a b)).answer ≡ 0) (k : (place_at s a).kind ≡ ask)
    (t : has s.group.dead (place_at s a).to || has (rank_at s (place_at s a).to).marks (place_at s a).from ≡ false) where
  pub ask-answers : (event anc s (event_of 2 a b)).moved ≡ moved_below anc s.group.n (rank_at s (place_at s a).to).marks (place_at s a).from
  unfolding doing
  ask-answers =
      let to_is : named s (event_of 2 a b) ≡ (place_at s a).to = named_receiver s (event_of 2 a b) (names_a_place 2 refl) in
      moved_is anc s o (event_of 2 a b) z
      ∙ Knowing.ask-moves anc _ _ _ _ _ _ _ refl k (is_undropped s.group.dead (named s (event_of 2 a b)) (place_at s a) (rank_at s (named s (event_of 2 a b))) (rw to_is t))
      ∙ ap (λ (i : ℕ). moved_below anc s.group.n (rank_at s i).marks (place_at s a).from) to_is

  pub ask-who : (p : ℕ) → has (event anc s (event_of 2 a b)).moved.ranks p ≡ ended_at_some anc s.group.n (rank_at s (place_at s a).to).marks (place_at s a).from p
  unfolding ended_at_some table_below
  ask-who p =
      let small : s.group.n ≤ 64 = (in_order_facts anc s o).shape.small in
      let message : MessageInOrder s.group.n s.group.dead (place_at s a) = delivered_in_order anc s o (event_of 2 a b) z refl in
      let inside : (place_at s a).from < s.group.n = message.from_in in
      rw ask-answers (below-who anc s.group.n (rank_at s (place_at s a).to).marks (place_at s a).from p small (omega arith))
