-- The states that a group can be in are in order: from an accepted start, by accepted events. Over any ancestor sets. Assumes nothing.
use mathlib.Core.Path.{◌≡◌, sym, ap, subst, ◌∙◌}
use Prim.Native.Nat.{ℕ, ◌≤◌, ◌<◌}
use native.Mathlib.Omega.{arith}
use Rattle.calls.proofs.Laws.Shapes.{shapely}
use Rattle.rank.proofs.Facts.{MemberInOrder}
use Rattle.state.specs.declared.State.{State}
use Rattle.state.specs.States.{rank_at, row_at}
use Rattle.state.proofs.Laws.Starting.{started-fresh, fresh-size}
use Rattle.order.specs.Between.{InOrder}
use Rattle.order.proofs.Laws.Ordering.{in_order_facts}
use Rattle.order.proofs.Laws.Fresh.{fresh_in_order}
use Rattle.group.specs.Reaching.{Reaches, begun, next}
use Rattle.group.proofs.Laws.Moving.{event_keeps_order, event-size}

-- The size that a group was started with is 1 to 64.
pub reached-small : (anc : ℕ → ℕ) (n : ℕ) (s : State) → Reaches anc n s → (0 < n) × (n ≤ 64)
reached-small anc n s (begun form span z) = let t = shapely n form span (started-fresh anc n form span z).0 in (t.some, t.small)
reached-small anc n s (next s' ev run z) = reached-small anc n s' run

-- Every reached state is in order.
pub reached_in_order : (anc : ℕ → ℕ) (n : ℕ) (s : State) → Reaches anc n s → InOrder anc s
reached_in_order anc n s (begun form span z) =
    let t = started-fresh anc n form span z in
    subst (InOrder anc) (sym t.1) (fresh_in_order anc n form span (shapely n form span t.0))
reached_in_order anc n s (next s' ev run z) = event_keeps_order anc s' ev (reached_in_order anc n s' run)

-- Its size is the one that the group was started with.
pub reached-size : (anc : ℕ → ℕ) (n : ℕ) (s : State) → Reaches anc n s → s.group.n ≡ n
reached-size anc n s (begun form span z) = ap (λ (x : State). x.group.n) (started-fresh anc n form span z).1 ∙ fresh-size anc n form span
reached-size anc n s (next s' ev run z) = event-size anc s' ev (reached_in_order anc n s' run) ∙ reached-size anc n s' run

module _ (anc : ℕ → ℕ) (n : ℕ) (s : State) (run : Reaches anc n s) where
  -- a rank of the reached group is one of the state
  pub reached-inside : (i : ℕ) → i < n → i < s.group.n
  reached-inside i l = let e : s.group.n ≡ n = reached-size anc n s run in omega arith

  -- Each rank and its row are in order.
  pub reached-member : (i : ℕ) → i < n → MemberInOrder anc n s.group.dead i (rank_at s i) (row_at s i)
  reached-member i l = subst (λ (m : ℕ). MemberInOrder anc m s.group.dead i (rank_at s i) (row_at s i)) (reached-size anc n s run) ((in_order_facts anc s (reached_in_order anc n s run)).member i (reached-inside i l))
