-- When a call of mark is accepted, and what it then answers. Assumes nothing.
use mathlib.Core.Path.{◌≡◌, refl, sym, ap, ◌∙◌}
use mathlib.Core.Bool.{Bool, true, false, cond, not}
use mathlib.Core.List.{List}
use Prim.Native.Nat.{ℕ, ◌<◌}
use native.Mathlib.Omega.{arith}
use lib.Dec.{eqb, ltb}
use borrow.Author.Tests.{eqb-true, eqb-false, eq-eqb, ltb-true, lt-ltb, not-false}
use Rattle.sets.specs.Sets.{has, add, minus, below}
use Rattle.sets.proofs.Laws.Bools.{clash, or_neither}
use Rattle.sets.proofs.Laws.Members.{has-zero, has-below, has-below-lt, minus_l, minus_r, minus-not, none_in}
use Rattle.answers.specs.Refusals.{accepted, not_in_order, bad_rank}
use Rattle.tree.specs.Tree.{fresh, moved}
use Rattle.tree.specs.Calls.{same}
use Rattle.calls.specs.Calls.{Marked, misshapen, wrong_view, mark_refused, marked}
use Rattle.tree.specs.Forms.{tree_of}
use Rattle.tree.proofs.Laws.Rows.{same-eq, same_refl}
use Rattle.calls.proofs.Laws.Shapes.{Shapely, shapely, shape_right}

-- Size, form and box size are right, the marks lie within the group, the table is the fresh one, and the rank is one of the group.
pub record Markable (n form span marks : ℕ) (table : List ℕ) (q : ℕ) : Type 0 where
  pub shape : Shapely n form span
  pub inside : (k : ℕ) → has marks k ≡ true → k < n
  pub table_is : table ≡ fresh (tree_of form span) n marks
  pub rank_in : q < n

module _ (n form span marks : ℕ) (table : List ℕ) (q : ℕ) where
  abbrev anc : ℕ → ℕ
  anc = tree_of form span

  -- what an accepted mark answers
  abbrev pub accepted_mark : Marked
  accepted_mark = record { answer = accepted; marks = add marks q; table = fresh anc n (add marks q); moved = moved anc n marks q }

  found : misshapen n form span ≡ 0 → wrong_view anc n marks table ≡ false → ltb q n ≡ true → Markable n form span marks table q
  unfolding wrong_view
  found s v r =
      let e = or_neither (not (eqb (minus marks (below n)) 0)) (not (same table (fresh anc n marks))) v in
      let z : minus marks (below n) ≡ 0 = eqb-true (minus marks (below n)) 0 (not-false (eqb (minus marks (below n)) 0) e.0) in
      record {
        shape = shapely n form span s;
        inside = λ k h. ltb-true k n (sym (has-below n k) ∙ minus-not marks (below n) k (ap (λ (w : ℕ). has w k) z ∙ has-zero k) h);
        table_is = same-eq table (fresh anc n marks) (not-false (same table (fresh anc n marks)) e.1);
        rank_in = ltb-true q n r;
      }

  -- A mark is a refusal with a number, or the marking of a rank of the group in a view with its table.
  pub marked_by : (P : Marked → Type 0) → ((number : ℕ) → (number ≡ 0 → ⊥) → P (mark_refused number marks table))
      → (Markable n form span marks table q → P accepted_mark) → P (marked n form span marks table q)
  unfolding marked
  marked_by P refuses accepts = shape (eqb (misshapen n form span) 0) refl
    where
      rank : misshapen n form span ≡ 0 → wrong_view anc n marks table ≡ false → (b : Bool) → ltb q n ≡ b
          → P (cond (not b) (mark_refused bad_rank marks table) accepted_mark)
      rank s v true e = accepts (found s v e)
      rank s v false e = refuses bad_rank (λ x. omega arith)

      view : misshapen n form span ≡ 0 → (b : Bool) → wrong_view anc n marks table ≡ b
          → P (cond b (mark_refused not_in_order marks table) (cond (not (ltb q n)) (mark_refused bad_rank marks table) accepted_mark))
      view s true e = refuses not_in_order (λ x. omega arith)
      view s false e = rank s e (ltb q n) refl

      shape : (b : Bool) → eqb (misshapen n form span) 0 ≡ b
          → P (cond (not b) (mark_refused (misshapen n form span) marks table)
          (cond (wrong_view anc n marks table) (mark_refused not_in_order marks table)
          (cond (not (ltb q n)) (mark_refused bad_rank marks table) accepted_mark)))
      shape true e = view (eqb-true (misshapen n form span) 0 e) (wrong_view anc n marks table) refl
      shape false e = refuses (misshapen n form span) (eqb-false (misshapen n form span) 0 e)

  -- It is accepted exactly where all of this holds.
  pub markable_accepted : Markable n form span marks table q → marked n form span marks table q ≡ accepted_mark
  unfolding marked wrong_view
  markable_accepted m =
      let z : eqb (minus marks (below n)) 0 ≡ true =
      eq-eqb (minus marks (below n)) 0 (none_in (minus marks (below n)) (λ k h. clash (has (below n) k) (has-below-lt n k (m.inside k (minus_l marks (below n) k h))) (minus_r marks (below n) k h))) in
      let t : same table (fresh anc n marks) ≡ true = ap (same table) (sym m.table_is) ∙ same_refl table in
      rw (shape_right n form span m.shape, z, t, lt-ltb q n m.rank_in)

  pub accepted_markable : (marked n form span marks table q).answer ≡ 0 → Markable n form span marks table q
  unfolding mark_refused
  accepted_markable = marked_by (λ r. r.answer ≡ 0 → Markable n form span marks table q) (λ number d e. absurd (d e)) (λ m e. m)

  -- A refused one hands back view and table.
  pub refused_keeps : ((marked n form span marks table q).answer ≡ 0 → ⊥) → ((marked n form span marks table q).marks ≡ marks) × ((marked n form span marks table q).table ≡ table)
  unfolding mark_refused
  refused_keeps = marked_by (λ r. (r.answer ≡ 0 → ⊥) → (r.marks ≡ marks) × (r.table ≡ table)) (λ number d e. (refl, refl)) (λ f e. absurd (e refl))
