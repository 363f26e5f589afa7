-- The test of one rank and the facts that it stands for, both ways. Assumes nothing.
use mathlib.Core.Path.{◌≡◌, sym, ap, subst, ◌∙◌}
use mathlib.Core.Bool.{Bool, true, false, not, ◌&&◌, ◌||◌}
use mathlib.Core.List.{List, [], ◌∷◌}
use mathlib.Core.Logic.{◌⊎◌, inl, inr, ⊎_elim}
use Prim.Native.Nat.{ℕ, ◌≤◌, ◌<◌}
use lib.Dec.{eqb, leb}
use lib.ListN.{get_or}
use lib.Pointwise.{pointwise}
use borrow.Author.Tests.{eqb-true, eqb-false, eq-eqb, ne_eqb, ltb-true, leb-true, le-leb, not-true, not-false}
use Rattle.sets.specs.Sets.{none, has, minus, below, all}
use Rattle.sets.proofs.Laws.Bools.{and_assoc, and_true, fails, and_i, and_l, and_r, not_i, clash, or_l, or_r, or_cases, passes_or_fails, all_head, all_tail, all_nil, all-step, all_cons, means, meant}
use Rattle.sets.proofs.Laws.Members.{has-zero, has-below, minus-not, none_in, minus_l, minus_r, has-below-lt}
use Rattle.tree.specs.Tree.{children, fresh}
use Rattle.tree.specs.Calls.{same}
use Rattle.tree.proofs.Laws.Rows.{pointwise-same, same-eq, same_refl}
use Rattle.rank.specs.declared.Rank.{Rank}
use Rattle.rank.specs.declared.Triple.{Triple}
use Rattle.rank.specs.Words.{gathering, waiting, decided}
use Rattle.rank.specs.Triples.{zero_triple}
use Rattle.rank.specs.Records.{parent_of, awaiting}
use Rattle.order.specs.Order.{is_within, proper, triple_within, is_zero, clauses, rank_in_order}
use Rattle.rank.proofs.Facts.{Within, TripleWithin, RankInOrder}
use Rattle.rank.proofs.Laws.Keeping.{within_awaiting}
use Rattle.rank.proofs.Laws.Acting.{row-parent, awaited_is}

pub proper_within : (n me w : ℕ) → proper n me w ≡ true → Within n me w
unfolding proper is_within
proper_within n me w t = record {
  inside = λ k h. ltb-true k n (sym (has-below n k) ∙ minus-not w (below n) k (ap (λ (x : ℕ). has x k) (eqb-true (minus w (below n)) 0 (and_l (eqb (minus w (below n)) 0) (not (has w me)) t)) ∙ has-zero k) h);
  without = not-true (has w me) (and_r (eqb (minus w (below n)) 0) (not (has w me)) t);
}

pub within_proper : (n me w : ℕ) → Within n me w → proper n me w ≡ true
unfolding proper is_within
within_proper n me w h =
    and_i (eqb (minus w (below n)) 0) (not (has w me))
    (eq-eqb (minus w (below n)) 0 (none_in (minus w (below n)) (λ k t. clash (has (below n) k) (has-below-lt n k (h.inside k (minus_l w (below n) k t))) (minus_r w (below n) k t))))
    (not_i (has w me) h.without)

-- a set within another
pub within_o : (w b : ℕ) → is_within w b ≡ true → (k : ℕ) → has w k ≡ true → has b k ≡ true
unfolding is_within
within_o w b t k h = minus-not w b k (ap (λ (x : ℕ). has x k) (eqb-true (minus w b) 0 t) ∙ has-zero k) h

pub within_i : (w b : ℕ) → ((k : ℕ) → has w k ≡ true → has b k ≡ true) → is_within w b ≡ true
unfolding is_within
within_i w b h = eq-eqb (minus w b) 0 (none_in (minus w b) (λ k t. clash (has b k) (h k (minus_l w b k t)) (minus_r w b k t)))

pub below_o : (w n k : ℕ) → is_within w (below n) ≡ true → has w k ≡ true → k < n
below_o w n k t h = ltb-true k n (sym (has-below n k) ∙ within_o w (below n) t k h)

pub below_i : (w n : ℕ) → ((k : ℕ) → has w k ≡ true → k < n) → is_within w (below n) ≡ true
below_i w n h = within_i w (below n) (λ k t. has-below-lt n k (h k t))

-- a triple
pub triple_o : (n : ℕ) (t : Triple) → triple_within n t ≡ true → TripleWithin n t
unfolding triple_within
triple_o n t h = record {
  known_in = λ k. below_o t.known n k (and_l (is_within t.known (below n)) (is_within t.acknowledged (below n)) h);
  acknowledged_in = λ k. below_o t.acknowledged n k (and_r (is_within t.known (below n)) (is_within t.acknowledged (below n)) h);
}

pub triple_i : (n : ℕ) (t : Triple) → TripleWithin n t → triple_within n t ≡ true
unfolding triple_within
triple_i n t h = and_i (is_within t.known (below n)) (is_within t.acknowledged (below n)) (below_i t.known n h.known_in) (below_i t.acknowledged n h.acknowledged_in)

pub zero_o : (t : Triple) → is_zero t ≡ true → t ≡ zero_triple
unfolding is_zero
zero_o t h =
    let h1 = all_tail _ _ h in
    let h2 = all_tail _ _ h1 in
    λ i. record { word = eqb-true t.word 0 (all_head _ _ h) i; known = eqb-true t.known 0 (all_head _ _ h1) i; acknowledged = eqb-true t.acknowledged 0 (all_head _ _ h2) i }

pub zero_i : (t : Triple) → t ≡ zero_triple → is_zero t ≡ true
unfolding is_zero
zero_i t e = rw e (simp (all-step, all_nil))

module _ (anc : ℕ → ℕ) (n me : ℕ) where
  pub rank_in_order_facts : (r : Rank) (row : List ℕ) → rank_in_order anc n me r row ≡ true → RankInOrder anc n me r × (row ≡ fresh anc n r.marks)
  unfolding rank_in_order clauses
  rank_in_order_facts r row t =
      let t1 = all_tail _ _ t in
      let t2 = all_tail _ _ t1 in
      let t3 = all_tail _ _ t2 in
      let t4 = all_tail _ _ t3 in
      let t5 = all_tail _ _ t4 in
      let t6 = all_tail _ _ t5 in
      let t7 = all_tail _ _ t6 in
      let t8 = all_tail _ _ t7 in
      let t9 = all_tail _ _ t8 in
      let t10 = all_tail _ _ t9 in
      let t11 = all_tail _ _ t10 in
      let t12 = all_tail _ _ t11 in (
        record {
          to_settle = record {
            marks_inside = proper_within n me r.marks (all_head _ _ t);
            heard_in = proper_within n me r.heard (all_head _ _ t1);
            owed_in = proper_within n me r.owed (all_head _ _ t3);
            acknowledged_marked = within_o r.acknowledged r.marks (all_head _ _ t4);
            triple_in = triple_o n r.triple (all_head _ _ t5);
            result_in = triple_o n r.result (all_head _ _ t6);
            awaits = eqb-true r.awaited (awaiting anc n me r.marks r.heard) (all_head _ _ t8);
            waits = λ p. eqb-false (parent_of anc me r) none (not-true (eqb (parent_of anc me r) none) (means (eqb r.phase waiting) (not (eqb (parent_of anc me r) none)) (all_head _ _ t10) (eq-eqb r.phase waiting p)));
            unless = λ h. ⊎_elim (λ (e : eqb r.phase decided ≡ true). absurd (h (eqb-true r.phase decided e))) (λ (e : is_zero r.result ≡ true). zero_o r.result e) (or_cases (eqb r.phase decided) (is_zero r.result) (all_head _ _ t11));
            known = leb-true r.phase decided (all_head _ _ t12);
          };
          gathers = λ p. eqb-false r.awaited 0 (not-true (eqb r.awaited 0) (means (eqb r.phase gathering) (not (eqb r.awaited 0)) (all_head _ _ t9) (eq-eqb r.phase gathering p)));
        },
        same-eq row (fresh anc n r.marks) (all_head _ _ t7),
      )

  pub facts_rank_in_order : n ≤ 64 → me < n → (r : Rank) (row : List ℕ) → RankInOrder anc n me r → row ≡ fresh anc n r.marks → rank_in_order anc n me r row ≡ true
  unfolding rank_in_order clauses
  facts_rank_in_order small own r row o e =
      let f = o.to_settle in
      all_cons _ _ (within_proper n me r.marks f.marks_inside)
      (all_cons _ _ (within_proper n me r.heard f.heard_in)
      (all_cons _ _ (within_proper n me r.awaited (subst (Within n me) (sym f.awaits) (within_awaiting anc n me small own r.marks r.heard)))
      (all_cons _ _ (within_proper n me r.owed f.owed_in)
      (all_cons _ _ (within_i r.acknowledged r.marks f.acknowledged_marked)
      (all_cons _ _ (triple_i n r.triple f.triple_in)
      (all_cons _ _ (triple_i n r.result f.result_in)
      (all_cons _ _ (subst (λ (t : List ℕ). same row t ≡ true) e (same_refl row))
      (all_cons _ _ (eq-eqb r.awaited (awaiting anc n me r.marks r.heard) f.awaits)
      (all_cons _ _ (meant (eqb r.phase gathering) (not (eqb r.awaited 0)) (λ p. not_i (eqb r.awaited 0) (ne_eqb r.awaited 0 (o.gathers (eqb-true r.phase gathering p)))))
      (all_cons _ _ (meant (eqb r.phase waiting) (not (eqb (parent_of anc me r) none)) (λ p. not_i (eqb (parent_of anc me r) none) (ne_eqb (parent_of anc me r) none (f.waits (eqb-true r.phase waiting p)))))
      (all_cons _ _ (zero_unless (passes_or_fails (eqb r.phase decided)))
      (all_cons _ _ (le-leb r.phase decided f.known) all_nil))))))))))))
    where
      zero_unless : (eqb r.phase decided ≡ true) ⊎ (eqb r.phase decided ≡ false) → eqb r.phase decided || is_zero r.result ≡ true
      zero_unless (inl e) = or_l (eqb r.phase decided) (is_zero r.result) e
      zero_unless (inr e) = or_r (eqb r.phase decided) (is_zero r.result) (zero_i r.result (o.to_settle.unless (eqb-false r.phase decided e)))

-- ---- the test along its code

equal_rows : (s t : List ℕ) (k : Bool) → k ≡ not (pointwise eqb s t) → k ≡ false → same s t ≡ true
equal_rows s t k e f = sym (pointwise-same s t) ∙ not-false (pointwise eqb s t) (sym e ∙ f)

pub unfresh : (anc : ℕ → ℕ) (n me : ℕ) (r : Rank) (row t : List ℕ) (k : Bool) → t ≡ fresh anc n r.marks → k ≡ not (pointwise eqb row t) → k ≡ true → false ≡ rank_in_order anc n me r row
unfresh anc n me r row t k e f g =
    sym (fails (rank_in_order anc n me r row) (λ h.
    clash (same row t) (subst (λ (x : List ℕ). same row x ≡ true) ((rank_in_order_facts anc n me r row h).1 ∙ sym e) (same_refl row)) (sym (pointwise-same row t) ∙ not-true (pointwise eqb row t) (sym f ∙ g))))

pub checked_row : (anc : ℕ → ℕ) (n marks : ℕ) (row t : List ℕ) (k : Bool) → t ≡ fresh anc n marks → k ≡ not (pointwise eqb row t) → k ≡ false → row ≡ fresh anc n marks
checked_row anc n marks row t k e f g = same-eq row t (equal_rows row t k f g) ∙ e

twelve : (a b c d e f g h i j k l s : Bool) → s ≡ true → a && b && c && d && e && (f && g) && h && i && j && k && l ≡ all (a ∷ b ∷ c ∷ d ∷ e ∷ f ∷ g ∷ s ∷ h ∷ i ∷ j ∷ k ∷ l ∷ [])
twelve a b c d e f g h i j k l s z = rw z (simp (all-step, all_nil, and_assoc, and_true))

pub tested : (anc : ℕ → ℕ) (n me : ℕ) (r : Rank) (row t : List ℕ) (k : Bool) (c w : ℕ) (p q v z : Bool) → n ≤ 64 → me < n → t ≡ fresh anc n r.marks → k ≡ not (pointwise eqb row t) → k ≡ false
    → c ≡ children anc n r.marks me → w ≡ minus c r.heard → p ≡ proper n me r.marks && proper n me r.heard && proper n me r.awaited && proper n me r.owed
    → q ≡ is_within r.acknowledged r.marks → v ≡ triple_within n r.triple && triple_within n r.result → z ≡ is_zero r.result
    → p && q && v && eqb r.awaited w && (not (eqb r.phase gathering) || not (eqb r.awaited 0)) && (not (eqb r.phase waiting) || not (eqb (get_or row me 0) none)) && (eqb r.phase decided || z) && leb r.phase decided
    ≡ rank_in_order anc n me r row
unfolding rank_in_order clauses
tested anc n me r row t k c w p q v z a b e f g ec ew ep eq ev ez =
    let fr : row ≡ fresh anc n r.marks = checked_row anc n r.marks row t k e f g in
    let sm : same row (fresh anc n r.marks) ≡ true = subst (λ (x : List ℕ). same row x ≡ true) fr (same_refl row) in
    let pa : get_or row me 0 ≡ parent_of anc me r = row-parent anc n me r row (record { size = a; own = b; table = fr }) in
    rw (ep, eq, ev, ez, awaited_is anc n me r.marks r.heard c w ec ew, pa) (twelve _ _ _ _ _ _ _ _ _ _ _ _ _ sm)
