-- A fresh group is in order. Assumes nothing.
use mathlib.Core.Path.{◌≡◌, sym, ap, subst, ◌∙◌}
use mathlib.Core.Bool.{true}
use Prim.Native.Nat.{ℕ, ◌≤◌, ◌<◌}
use native.Mathlib.Omega.{arith}
use lib.ListN.{length}
use Rattle.sets.specs.Sets.{has, minus, below}
use Rattle.sets.proofs.Laws.Bools.{clash}
use Rattle.sets.proofs.Laws.Members.{has-zero, has-below-lt, minus_i}
use Rattle.tree.specs.Tree.{fresh}
use Rattle.calls.proofs.Laws.Shapes.{Shapely}
use Rattle.rank.specs.Records.{fresh_rank}
use Rattle.rank.proofs.Laws.Keeping.{fresh_rank_in_order, fresh-marks}
use Rattle.rank.proofs.Facts.{MemberInOrder}
use Rattle.state.specs.States.{rank_at, row_at}
use Rattle.state.specs.Starting.{fresh_state}
use Rattle.state.proofs.Laws.Starting.{fresh-size, fresh_form, fresh_span, fresh_dead, fresh-count, fresh_lengths, fresh-rank-at, fresh-row-at, fresh-past, fresh_place_at}
use Rattle.order.proofs.Facts.{InOrderFacts}
use Rattle.order.specs.Between.{InOrder}
use Rattle.order.proofs.Laws.Ordering.{facts_in_order}

pub fresh_facts : (anc : ℕ → ℕ) (n form span : ℕ) → Shapely n form span → InOrderFacts anc (fresh_state anc n form span)
fresh_facts anc n form span right = record {
  shaped = record { ranks-long = long.0; rows_long = long.1; net-long = long.2 };
  shape = rw (fresh-size anc n form span, fresh_form anc n form span, fresh_span anc n form span) right;
  lives = rw (fresh-size anc n form span, fresh_dead anc n form span) (λ e. clash (has (minus (below n) 0) 0) (minus_i (below n) 0 0 (has-below-lt n 0 low) (has-zero 0)) (ap (λ (w : ℕ). has w 0) e ∙ has-zero 0));
  dead_in = rw (fresh_dead anc n form span) (λ k h. absurd (clash (has 0 k) h (has-zero k)));
  count-le = rw (fresh-count anc n form span) (omega arith);
  member = rw (fresh-size anc n form span, fresh_dead anc n form span) seats;
  stranger = rw (fresh-size anc n form span) (fresh-past anc n form span);
  message = rw (fresh-count anc n form span) (λ i l. absurd (omega arith));
  vacant = λ i l b. fresh_place_at anc n form span i b;
}
  where
    low : 0 < n
    low = right.some

    high : n ≤ 64
    high = right.small

    long : (length (fresh_state anc n form span).group.ranks ≡ 64) × (length (fresh_state anc n form span).tables ≡ 64) × (length (fresh_state anc n form span).group.net ≡ 128)
    long = fresh_lengths anc n form span

    seat : (i : ℕ) → i < n → MemberInOrder anc n 0 i (fresh_rank anc n i) (fresh anc n 0)
    seat i l = record { in_order = fresh_rank_in_order anc n i high l; table = sym (ap (fresh anc n) (fresh-marks anc n i)); marks_dead = λ k h. absurd (clash (has 0 k) (subst (λ (w : ℕ). has w k ≡ true) (fresh-marks anc n i) h) (has-zero k)) }

    seats : (i : ℕ) → i < n → MemberInOrder anc n 0 i (rank_at (fresh_state anc n form span) i) (row_at (fresh_state anc n form span) i)
    seats i l = rw (fresh-rank-at anc n form span i high l, fresh-row-at anc n form span i high l) (seat i l)

-- A fresh group is in order.
pub fresh_in_order : (anc : ℕ → ℕ) (n form span : ℕ) → Shapely n form span → InOrder anc (fresh_state anc n form span)
fresh_in_order anc n form span right = facts_in_order anc (fresh_state anc n form span) (fresh_facts anc n form span right)
