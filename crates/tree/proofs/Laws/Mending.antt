-- Mending, over any ancestor sets: one newly known death moves exactly the links that ended at the dead rank; over any that form a chain, a
-- table that is fresh becomes the fresh one as these go to the dead rank's heir. Assumes nothing.
use mathlib.Core.Path.{◌≡◌, refl, sym, ap, ap₂, subst, ◌∙◌}
use mathlib.Core.Bool.{Bool, true, false, cond, not, ◌&&◌, ◌||◌}
use mathlib.Core.List.{List}
use mathlib.Core.Logic.{⊎_elim}
use Prim.Native.Nat.{ℕ, zero, suc, ◌+◌, ◌*◌, ◌≤◌, ◌<◌}
use native.Mathlib.Numerals.{add-one}
use native.Mathlib.Omega.{arith}
use lib.Dec.{eqb, ltb}
use lib.ListN.{get_or, set, replicate}
use borrow.Author.Tests.{eq-eqb, ne_eqb, eqb-true, lt-ltb, le-ltb}
use Rattle.sets.specs.Sets.{none, has, add, minus, union, meet, below, set_of, count, smallest, some}
use Rattle.sets.proofs.Laws.Bools.{clash, passes, lt-or-le, eq_or_ne, same_test, cond_true, cond_false, and_i, and_not_r, or_neither, not_i, not_o}
use Rattle.sets.proofs.Laws.Members.{minus_l, add-again, has_add_less, has-zero, has-union, has_meet, has-set_of, none_in, ext, set_of_passes, set_of_within, set_of-has, set_of_cong, minus-set_of, union-none, union-below-suc, union-below-zero}
use Rattle.sets.proofs.Laws.Searches.{count_none, count-le, some-zero, some-suc}
use Rattle.tree.specs.Tree.{row, parent, children, entry, fresh, moves, sized, moved, ended_at, nobody}
use Rattle.tree.specs.Relations.{Ancestry, Chained}
use Rattle.tree.specs.Calls.{mended, mended_below, moved_below, and_then}
use Rattle.tree.specs.declared.Moved.{Moved}
use Rattle.tree.specs.declared.Mended.{Mended}
use Rattle.tree.proofs.Laws.Rows.{get_d_row, row_cong, Patched, patched_start, patched_put, patched_end, entry-below, entry_past, fresh_at, row_replicate}
use Rattle.tree.proofs.Laws.Parents.{Marked, Free, parent_free, parent_stays, parent-leaves}
use Rattle.tree.proofs.Laws.Finding.{low_is}
use Rattle.tree.proofs.Laws.Heirs.{parent_passes, root_passes}

-- One newly known death moves exactly the links that ended at the dead rank: those move, and no other does.
pub moves_exactly : (anc : ℕ → ℕ) (marks q p : ℕ) → q < none → not (eqb (parent anc (add marks q) p) (parent anc marks p)) ≡ eqb (parent anc marks p) q
moves_exactly anc marks q p l = ⊎_elim ended other (eq_or_ne (parent anc marks p) q)
  where
    ended : parent anc marks p ≡ q → not (eqb (parent anc (add marks q) p) (parent anc marks p)) ≡ eqb (parent anc marks p) q
    ended e = not_i (eqb (parent anc (add marks q) p) (parent anc marks p)) (ne_eqb (parent anc (add marks q) p) (parent anc marks p) (λ x. parent-leaves anc marks q p l (x ∙ e))) ∙ sym (eq-eqb (parent anc marks p) q e)

    other : (parent anc marks p ≡ q → ⊥) → not (eqb (parent anc (add marks q) p) (parent anc marks p)) ≡ eqb (parent anc marks p) q
    other d = not_o (eqb (parent anc (add marks q) p) (parent anc marks p)) (eq-eqb (parent anc (add marks q) p) (parent anc marks p) (parent_stays anc marks q p d)) ∙ sym (ne_eqb (parent anc marks p) q d)

-- The same of the fresh tables, entry by entry.
pub table_moves_exactly : (anc : ℕ → ℕ) (n marks q p : ℕ) → n ≤ 64 → q < none → p < n
    → not (eqb (get_or (fresh anc n (add marks q)) p 0) (get_or (fresh anc n marks) p 0)) ≡ eqb (get_or (fresh anc n marks) p 0) q
table_moves_exactly anc n marks q p h l b = rw (fresh_at anc n (add marks q) p h b, fresh_at anc n marks p h b) (moves_exactly anc marks q p l)

-- In a fresh table no link ends at a marked rank.
pub table_free : (anc : ℕ → ℕ) (n marks q p : ℕ) → n ≤ 64 → q < none → p < n → Marked marks q → get_or (fresh anc n marks) p 0 ≡ q → ⊥
table_free anc n marks q p h l b k e =
    let f : parent anc marks p ≡ q = sym (fresh_at anc n marks p h b) ∙ e in
    clash (has marks q) k (subst (λ (r : ℕ). has marks r ≡ false) f (parent_free anc marks p (λ x. omega arith)))

pub moves_linked : (anc : ℕ → ℕ) (marks q p : ℕ) → q < none → moves anc marks q p ≡ not (has (add marks q) p) && eqb (parent anc marks p) q
unfolding moves
moves_linked anc marks q p l = ap (λ (b : Bool). not (has (add marks q) p) && b) (moves_exactly anc marks q p l)

-- Marking a marked rank changes nothing, and nobody moves.
again_stays : (anc : ℕ → ℕ) (marks q p : ℕ) → Marked marks q → moves anc marks q p ≡ false
unfolding moves
again_stays anc marks q p h = and_not_r (not (has (add marks q) p)) (not (eqb (parent anc (add marks q) p) (parent anc marks p))) (not_o (eqb (parent anc (add marks q) p) (parent anc marks p)) (eq-eqb (parent anc (add marks q) p) (parent anc marks p) (ap (λ (m : ℕ). parent anc m p) (add-again marks q h))))

again-none : (anc : ℕ → ℕ) (n marks q : ℕ) → Marked marks q → set_of (moves anc marks q) n ≡ 0
again-none anc n marks q h = none_in (set_of (moves anc marks q) n) (λ p e. clash (moves anc marks q p) (set_of_passes (moves anc marks q) n p e) (again_stays anc marks q p h))

pub empty_sized : sized 0 ≡ nobody
unfolding sized
empty_sized = let e : count (has 0) 64 ≡ 0 = count_none (has 0) 64 (λ p l. has-zero p) in rw e

pub moved-again : (anc : ℕ → ℕ) (n marks q : ℕ) → Marked marks q → moved anc n marks q ≡ nobody
unfolding moved
moved-again anc n marks q h = ap sized (again-none anc n marks q h) ∙ empty_sized

pub mended-again : (anc : ℕ → ℕ) (n marks q : ℕ) (t : List ℕ) (b : Bool) (v : Moved) → b ≡ has marks q → b ≡ true → t ≡ fresh anc n marks → v ≡ nobody → ◌≡◌ {A = Mended} (record { marks = marks; table = t; moved = v }) (mended anc n marks q)
unfolding mended
mended-again anc n marks q t b v m h e u = let k : Marked marks q = sym m ∙ h in rw (e, u, add-again marks q k, moved-again anc n marks q k)

-- What a mended view holds, for callers: the marks, the fresh table of these marks, and moved.
pub mended-marks : (anc : ℕ → ℕ) (n marks q : ℕ) (m : Mended) → m ≡ mended anc n marks q → m.marks ≡ add marks q
unfolding mended
mended-marks anc n marks q m e = ap (λ (x : Mended). x.marks) e

pub mended-moved : (anc : ℕ → ℕ) (n marks q : ℕ) (m : Mended) → m ≡ mended anc n marks q → m.moved ≡ moved anc n marks q
unfolding mended
mended-moved anc n marks q m e = ap (λ (x : Mended). x.moved) e

pub mended-fresh : (anc : ℕ → ℕ) (n marks q : ℕ) (m : Mended) → m ≡ mended anc n marks q → m.table ≡ fresh anc n m.marks
unfolding mended
mended-fresh anc n marks q m e = rw e refl

pub below-marks : (anc : ℕ → ℕ) (n marks q : ℕ) (m : Mended) → m ≡ mended_below anc n marks q → m.marks ≡ union marks (below q)
unfolding mended_below
below-marks anc n marks q m e = ap (λ (x : Mended). x.marks) e

pub below-moved : (anc : ℕ → ℕ) (n marks q : ℕ) (m : Mended) → m ≡ mended_below anc n marks q → m.moved ≡ moved_below anc n marks q
unfolding mended_below
below-moved anc n marks q m e = ap (λ (x : Mended). x.moved) e

pub below-fresh : (anc : ℕ → ℕ) (n marks q : ℕ) (m : Mended) → m ≡ mended_below anc n marks q → m.table ≡ fresh anc n m.marks
unfolding mended_below
below-fresh anc n marks q m e = rw e refl

-- Who moves at a mark: a rank of the group that is unmarked after it and whose entry ended at the newly marked one.
pub moved-who : (anc : ℕ → ℕ) (n marks q p : ℕ) → n ≤ 64 → q < none → has (moved anc n marks q).ranks p ≡ ended_at n q (add marks q) (fresh anc n marks) p
unfolding moved sized ended_at
moved-who anc n marks q p h l = has-set_of (moves anc marks q) n p ∙ ⊎_elim inside outside (lt-or-le p n)
  where
    inside : p < n → ltb p n && moves anc marks q p ≡ ltb p n && not (has (add marks q) p) && eqb (get_or (fresh anc n marks) p 0) q
    inside b = rw (lt-ltb p n b, fresh_at anc n marks p h b) (moves_linked anc marks q p l)

    outside : n ≤ p → ltb p n && moves anc marks q p ≡ ltb p n && not (has (add marks q) p) && eqb (get_or (fresh anc n marks) p 0) q
    outside b = rw (le-ltb p n b)

-- Who is unmarked after it and did not move has the parent it had.
moved_stays : (anc : ℕ → ℕ) (n marks q p : ℕ) → p < n → Free (add marks q) p → has (moved anc n marks q).ranks p ≡ false → parent anc (add marks q) p ≡ parent anc marks p
unfolding moved sized moves
moved_stays anc n marks q p l f h = eqb-true (parent anc (add marks q) p) (parent anc marks p) (passes (eqb (parent anc (add marks q) p) (parent anc marks p)) (λ e. clash (has (set_of (moves anc marks q) n) p) (in_set e) h))
  where
    in_set : eqb (parent anc (add marks q) p) (parent anc marks p) ≡ false → has (set_of (moves anc marks q) n) p ≡ true
    in_set e = set_of-has (moves anc marks q) n p l (and_i (not (has (add marks q) p)) (not (eqb (parent anc (add marks q) p) (parent anc marks p))) (not_i (has (add marks q) p) f) (not_i (eqb (parent anc (add marks q) p) (parent anc marks p)) e))

-- The same of a mended view, for callers; and who is unmarked in it was unmarked.
pub mended-unmarked : (anc : ℕ → ℕ) (n marks q p : ℕ) (m : Mended) → m ≡ mended anc n marks q → Free m.marks p → Free marks p
mended-unmarked anc n marks q p m e f = has_add_less marks q p (ap (λ (w : ℕ). has w p) (sym (mended-marks anc n marks q m e)) ∙ f)

pub mended_stays : (anc : ℕ → ℕ) (n marks q p : ℕ) (m : Mended) → m ≡ mended anc n marks q → p < n → Free m.marks p → has m.moved.ranks p ≡ false → parent anc m.marks p ≡ parent anc marks p
unfolding mended
mended_stays anc n marks q p m e = rw e (moved_stays anc n marks q p)

-- moved is that set's size.
pub moved-size : (anc : ℕ → ℕ) (n marks q : ℕ) → (moved anc n marks q).count ≡ count (has (moved anc n marks q).ranks) 64
unfolding moved sized
moved-size anc n marks q = refl

moved-le : (anc : ℕ → ℕ) (n marks q : ℕ) → (moved anc n marks q).count ≤ 64
unfolding moved sized
moved-le anc n marks q = count-le (has (set_of (moves anc marks q) n)) 64

-- where nobody from n on passes, n is bound enough
set_of_cut : (f : ℕ → Bool) (n i : ℕ) → n ≤ i → ((k : ℕ) → n ≤ k → k < i → f k ≡ false) → set_of f i ≡ set_of f n
set_of_cut f n i h past = ext (set_of f i) (set_of f n) (λ k. same_test (has (set_of f i) k) (has (set_of f n) k) (fewer k) (λ t. set_of-has f i k (omega (arith, set_of_within f n k t)) (set_of_passes f n k t)))
  where
    fewer : (k : ℕ) → has (set_of f i) k ≡ true → has (set_of f n) k ≡ true
    fewer k t = ⊎_elim (λ (l : k < n). set_of-has f n k l (set_of_passes f i k t)) (λ (l : n ≤ k). absurd (clash (f k) (set_of_passes f i k t) (past k l (set_of_within f i k t)))) (lt-or-le k n)

-- in a fresh table the entries that are q are the links that end at q
pub entries-fresh : (anc : ℕ → ℕ) (n marks q : ℕ) (t : List ℕ) → n ≤ 64 → q < none → t ≡ fresh anc n marks → set_of (λ p. eqb (get_or t p 0) q) 64 ≡ set_of (λ p. eqb (parent anc marks p) q) n
unfolding fresh
entries-fresh anc n marks q t b l e =
    set_of_cong (λ p. eqb (get_or t p 0) q) (λ p. eqb (entry anc n marks p) q) 64 (λ p h. ap (λ (x : ℕ). eqb x q) (ap (λ (x : List ℕ). get_or x p 0) e ∙ get_d_row (entry anc n marks) 64 p 0 h))
    ∙ set_of_cut (λ p. eqb (entry anc n marks p) q) n 64 b (λ p h m. ne_eqb (entry anc n marks p) q (λ x. omega (arith, entry_past anc n marks p h)))
    ∙ set_of_cong (λ p. eqb (entry anc n marks p) q) (λ p. eqb (parent anc marks p) q) n (λ p h. ap (λ (x : ℕ). eqb x q) (entry-below anc n marks p h))

-- the children are the unmarked ones of these
pub linked_children : (anc : ℕ → ℕ) (n marks p : ℕ) → minus (set_of (λ c. eqb (parent anc marks c) p) n) marks ≡ children anc n marks p
unfolding children
linked_children anc n marks p = minus-set_of (λ c. eqb (parent anc marks c) p) n marks

pub children-read : (anc : ℕ → ℕ) (n marks p w r : ℕ) (t : List ℕ) → n ≤ 64 → p < 64 → t ≡ fresh anc n marks → w ≡ set_of (λ c. eqb (get_or t c 0) p) 64 → r ≡ minus w marks → r ≡ children anc n marks p
children-read anc n marks p w r t b l e h f = f ∙ ap (λ (x : ℕ). minus x marks) (h ∙ entries-fresh anc n marks p t b (omega arith) e) ∙ linked_children anc n marks p

-- ---- `relink`: an entry that was q becomes its heir, `f` of each place, and no other changes

abbrev pub handed_on : List ℕ → ℕ → (ℕ → ℕ) → ℕ → ℕ
handed_on t q f p = cond (eqb (get_or t p 0) q) (f p) (get_or t p 0)

-- what stands at q is q's parent
table-parent : (anc : ℕ → ℕ) (n marks q : ℕ) (t : List ℕ) → n ≤ 64 → q < n → t ≡ fresh anc n marks → get_or t q 0 ≡ parent anc marks q
table-parent anc n marks q t b l e = ap (λ (x : List ℕ). get_or x q 0) e ∙ fresh_at anc n marks q b l

handed-entry : (anc : ℕ → ℕ) (n marks q : ℕ) (f : ℕ → ℕ) (t : List ℕ) → q < none → t ≡ fresh anc n marks → ((p : ℕ) → p < 64 → parent anc marks p ≡ q → f p ≡ parent anc (add marks q) p)
    → (p : ℕ) → p < 64 → handed_on t q f p ≡ entry anc n (add marks q) p
unfolding fresh
handed-entry anc n marks q f t o e heirs p l = ⊎_elim inside outside (lt-or-le p n)
  where
    at : get_or t p 0 ≡ entry anc n marks p
    at = ap (λ (x : List ℕ). get_or x p 0) e ∙ get_d_row (entry anc n marks) 64 p 0 l

    other : (get_or t p 0 ≡ q → ⊥) → handed_on t q f p ≡ get_or t p 0
    other d = cond_false (eqb (get_or t p 0) q) (f p) (get_or t p 0) (ne_eqb (get_or t p 0) q d)

    inside : p < n → handed_on t q f p ≡ entry anc n (add marks q) p
    inside h =
        let g : get_or t p 0 ≡ parent anc marks p = at ∙ entry-below anc n marks p h in
        ⊎_elim
        (λ (i : get_or t p 0 ≡ q). cond_true (eqb (get_or t p 0) q) (f p) (get_or t p 0) (eq-eqb (get_or t p 0) q i) ∙ heirs p l (sym g ∙ i))
        (λ (d : get_or t p 0 ≡ q → ⊥). other d ∙ g ∙ sym (parent_stays anc marks q p (λ x. d (g ∙ x))))
        (eq_or_ne (get_or t p 0) q)
        ∙ sym (entry-below anc n (add marks q) p h)

    outside : n ≤ p → handed_on t q f p ≡ entry anc n (add marks q) p
    outside h = let g : get_or t p 0 ≡ none = at ∙ entry_past anc n marks p h in other (λ x. omega arith) ∙ g ∙ sym (entry_past anc n (add marks q) p h)

handed-fresh : (anc : ℕ → ℕ) (n marks q after : ℕ) (f : ℕ → ℕ) (t t' : List ℕ) → q < none → t ≡ fresh anc n marks → after ≡ add marks q → ((p : ℕ) → p < 64 → parent anc marks p ≡ q → f p ≡ parent anc (add marks q) p)
    → t' ≡ row (handed_on t q f) 64 → t' ≡ fresh anc n after
unfolding fresh
handed-fresh anc n marks q after f t t' o e a heirs r = r ∙ row_cong 0 (handed_on t q f) (entry anc n (add marks q)) 64 (handed-entry anc n marks q f t o e heirs) ∙ ap (λ (y : ℕ). row (entry anc n y) 64) (sym a)

-- q had a parent, and where it had none
pub relink-up : (anc : ℕ → ℕ) → Ancestry anc → Chained anc → (n marks q after : ℕ) (t t' : List ℕ) → n ≤ 64 → q < n → t ≡ fresh anc n marks → after ≡ add marks q → (get_or t q 0 ≡ none → ⊥)
    → t' ≡ row (handed_on t q (λ p. get_or t q 0)) 64 → t' ≡ fresh anc n after
relink-up anc tree chain n marks q after t t' b o e a d =
    let u : get_or t q 0 ≡ parent anc marks q = table-parent anc n marks q t b o e in
    handed-fresh anc n marks q after (λ p. get_or t q 0) t t' (omega arith) e a (λ p l i. u ∙ sym (parent_passes anc tree chain marks q p (omega arith) i (λ x. d (u ∙ x))))

pub relink-low : (anc : ℕ → ℕ) (n marks q after all unmarked low : ℕ) (t t' : List ℕ) → n ≤ 64 → q < n → t ≡ fresh anc n marks → after ≡ add marks q → get_or t q 0 ≡ none
    → all ≡ below 64 → unmarked ≡ minus all after → low ≡ smallest (has unmarked) 64 none → t' ≡ row (handed_on t q (λ p. cond (ltb low p) low none)) 64 → t' ≡ fresh anc n after
relink-low anc n marks q after all unmarked low t t' b o e a h x y z =
    let u : parent anc marks q ≡ none = sym (table-parent anc n marks q t b o e) ∙ h in
    let w : low ≡ smallest (has (minus (below 64) (add marks q))) 64 none = low_is after 64 all unmarked low x y z ∙ ap (λ (m : ℕ). smallest (has (minus (below 64) m)) 64 none) a in
    handed-fresh anc n marks q after (λ p. cond (ltb low p) low none) t t' (omega arith) e a (λ p l i. sym (root_passes anc marks q p low l (omega arith) i u w))

-- ---- `mend`

mended-ranks : (anc : ℕ → ℕ) (n marks q after w : ℕ) → q < none → after ≡ add marks q → w ≡ set_of (λ p. eqb (parent anc marks p) q) n → minus w after ≡ set_of (moves anc marks q) n
mended-ranks anc n marks q after w b a e =
    ap₂ minus e a
    ∙ minus-set_of (λ p. eqb (parent anc marks p) q) n (add marks q)
    ∙ sym (set_of_cong (moves anc marks q) (λ p. not (has (add marks q) p) && eqb (parent anc marks p) q) n (λ p l. moves_linked anc marks q p b))

pub mended_whole : (anc : ℕ → ℕ) (n marks q after w left : ℕ) (t t' : List ℕ) (v : Moved) → n ≤ 64 → q < n → t ≡ fresh anc n marks → after ≡ add marks q → w ≡ set_of (λ p. eqb (get_or t p 0) q) 64
    → t' ≡ fresh anc n after → left ≡ minus w after → v ≡ sized left → ◌≡◌ {A = Mended} (record { marks = after; table = t'; moved = v }) (mended anc n marks q)
unfolding mended moved
mended_whole anc n marks q after w left t t' v b o et a ew e el ev =
    let y : v ≡ sized (set_of (moves anc marks q) n) = ev ∙ ap sized (el ∙ mended-ranks anc n marks q after w (omega arith) a (ew ∙ entries-fresh anc n marks q t b (omega arith) et)) in
    rw (e, a, y)

-- where no entry is q, the table stays
pub mended-alone : (anc : ℕ → ℕ) (n marks q after w : ℕ) (t : List ℕ) (v : Moved) → n ≤ 64 → q < n → t ≡ fresh anc n marks → after ≡ add marks q
    → w ≡ set_of (λ p. eqb (get_or t p 0) q) 64 → w ≡ 0 → v ≡ nobody → ◌≡◌ {A = Mended} (record { marks = after; table = t; moved = v }) (mended anc n marks q)
unfolding mended moved fresh
mended-alone anc n marks q after w t v b o et a ew z ev =
    let e : set_of (λ p. eqb (parent anc marks p) q) n ≡ 0 = sym (ew ∙ entries-fresh anc n marks q t b (omega arith) et) ∙ z in
    let x : t ≡ row (entry anc n (add marks q)) 64 = et ∙ row_cong 0 (entry anc n marks) (entry anc n (add marks q)) 64 (λ p l. stays p (none e p)) in
    let y : v ≡ sized (set_of (moves anc marks q) n) = ev ∙ sym (ap sized (sym (mended-ranks anc n marks q after w (omega arith) a (z ∙ sym e)) ∙ ap (λ (k : ℕ). minus k after) z ∙ none_in (minus 0 after) (λ k h. clash (has 0 k) (minus_l 0 after k h) (has-zero k))) ∙ empty_sized) in
    rw (a, x, y)
  where
    none : set_of (λ p. eqb (parent anc marks p) q) n ≡ 0 → (p : ℕ) → p < n → parent anc marks p ≡ q → ⊥
    none e p l i = clash (has 0 p) (ap (λ (k : ℕ). has k p) (sym e) ∙ set_of-has (λ p. eqb (parent anc marks p) q) n p l (eq-eqb (parent anc marks p) q i)) (has-zero p)

    stays : (p : ℕ) → (p < n → parent anc marks p ≡ q → ⊥) → entry anc n marks p ≡ entry anc n (add marks q) p
    stays p h = ⊎_elim
        (λ (l : p < n). entry-below anc n marks p l ∙ sym (parent_stays anc marks q p (h l)) ∙ sym (entry-below anc n (add marks q) p l))
        (λ (l : n ≤ p). entry_past anc n marks p l ∙ sym (entry_past anc n (add marks q) p l))
        (lt-or-le p n)

-- ---- the loop of `hand_over`

pub handing_put : (t₀ t t' : List ℕ) (q : ℕ) (f : ℕ → ℕ) (p to v : ℕ) → Patched 0 (handed_on t₀ q f) (λ k. get_or t₀ k 0) 64 p t → p < 64 → to ≡ f p → v ≡ cond (eqb (get_or t p 0) q) to (get_or t p 0) → t' ≡ set t p v
    → Patched 0 (handed_on t₀ q f) (λ k. get_or t₀ k 0) 64 (p + 1) t'
handing_put t₀ t t' q f p to v m l h e et = rw et (patched_put 0 (handed_on t₀ q f) (λ k. get_or t₀ k 0) 64 p v t m l (e ∙ ap₂ (λ (x y : ℕ). cond (eqb x q) y x) (m.rest p (omega arith) l) h))

pub handing_end : (t₀ t : List ℕ) (q : ℕ) (f : ℕ → ℕ) (p : ℕ) → Patched 0 (handed_on t₀ q f) (λ k. get_or t₀ k 0) 64 p t → 64 ≤ p → t ≡ row (handed_on t₀ q f) 64
handing_end t₀ t q f p m l = patched_end 0 (handed_on t₀ q f) (λ k. get_or t₀ k 0) 64 p t m (λ k a b. absurd (omega arith))

-- ---- marking all below q

pub record Below (anc : ℕ → ℕ) (n start k marks : ℕ) (t : List ℕ) (moved : Moved) : Type 0 where
  pub marks_are : marks ≡ union start (below k)
  pub table_is : t ≡ fresh anc n marks
  pub moved_is : moved ≡ moved_below anc n start k

pub below-start : (anc : ℕ → ℕ) (n marks : ℕ) (t : List ℕ) (v : Moved) → t ≡ fresh anc n marks → v ≡ nobody → Below anc n marks 0 marks t v
unfolding moved_below
below-start anc n marks t v e u = record { marks_are = sym (union-below-zero marks); table_is = e; moved_is = u }

pub below_step : (anc : ℕ → ℕ) (n start k marks : ℕ) (t : List ℕ) (v w : Moved) (m : Mended) → Below anc n start k marks t v → m ≡ mended anc n marks k → w ≡ and_then v m.moved → Below anc n start (k + 1) m.marks m.table w
unfolding mended moved_below
below_step anc n start k marks t v w m b e f = record {
  marks_are = ap (λ (x : Mended). x.marks) e ∙ ap (λ (x : ℕ). add x k) b.marks_are ∙ union-below-suc start k ∙ ap (λ (x : ℕ). union start (below x)) (sym (add-one k));
  table_is = rw e;
  moved_is = f ∙ rw (add-one k, e, b.moved_is, b.marks_are);
}

-- one that is marked already is passed over
and-nobody : (v : Moved) → and_then v nobody ≡ v
unfolding and_then
and-nobody v = let e : v.count + 0 ≡ v.count = omega arith in rw (union-none v.ranks, e)

pub below-known : (anc : ℕ → ℕ) (n start k marks : ℕ) (t : List ℕ) (v : Moved) (b : Bool) → Below anc n start k marks t v → b ≡ has marks k → b ≡ true → Below anc n start (k + 1) marks t v
unfolding moved_below
below-known anc n start k marks t v b h e f =
    let m : Marked marks k = sym e ∙ f in
    let o : Marked (union start (below k)) k = subst (λ (x : ℕ). Marked x k) h.marks_are m in
    record {
      marks_are = sym (add-again marks k m) ∙ ap (λ (x : ℕ). add x k) h.marks_are ∙ union-below-suc start k ∙ ap (λ (x : ℕ). union start (below x)) (sym (add-one k));
      table_is = h.table_is;
      moved_is = h.moved_is ∙ sym (and-nobody (moved_below anc n start k)) ∙ ap (and_then (moved_below anc n start k)) (sym (moved-again anc n (union start (below k)) k o)) ∙ ap (moved_below anc n start) (sym (add-one k));
    }

pub below_end : (anc : ℕ → ℕ) (n start q k marks : ℕ) (t : List ℕ) (v : Moved) → Below anc n start k marks t v → k ≤ q → q ≤ k → ◌≡◌ {A = Mended} (record { marks = marks; table = t; moved = v }) (mended_below anc n start q)
unfolding mended_below
below_end anc n start q k marks t v b l h = let e : q ≡ k = omega arith in rw (b.table_is, b.marks_are, b.moved_is, e)

-- Who moves at the marks of all below q: whoever moves at one of them.
abbrev pub at_mark : (ℕ → ℕ) → ℕ → ℕ → ℕ → ℕ → Bool
at_mark anc n marks p k = ended_at n k (add (union marks (below k)) k) (fresh anc n (union marks (below k))) p

pub below-who : (anc : ℕ → ℕ) (n marks q p : ℕ) → n ≤ 64 → q ≤ none → has (moved_below anc n marks q).ranks p ≡ some (at_mark anc n marks p) q
unfolding moved_below and_then
below-who anc n marks zero p h l = has-zero p ∙ sym (some-zero (at_mark anc n marks p))
below-who anc n marks (suc k) p h l =
    has-union (moved_below anc n marks k).ranks (moved anc n (union marks (below k)) k).ranks p
    ∙ ap₂ (λ (x y : Bool). x || y) (below-who anc n marks k p h (omega arith)) (moved-who anc n (union marks (below k)) k p h (omega arith))
    ∙ sym (some-suc (at_mark anc n marks p) k)

-- Who is unmarked after all of them and moved at none has the parent it had.
moved_below_stays : (anc : ℕ → ℕ) (n marks q p : ℕ) → p < n → Free (union marks (below q)) p → has (moved_below anc n marks q).ranks p ≡ false
    → parent anc (union marks (below q)) p ≡ parent anc marks p
unfolding moved_below and_then
moved_below_stays anc n marks zero p l f h = ap (λ (w : ℕ). parent anc w p) (union-below-zero marks)
moved_below_stays anc n marks (suc k) p l f h =
    let before : ℕ = union marks (below k) in
    let g : Free (add before k) p = ap (λ (w : ℕ). has w p) (union-below-suc marks k) ∙ f in
    let o = or_neither (has (moved_below anc n marks k).ranks p) (has (moved anc n before k).ranks p) (sym (has-union (moved_below anc n marks k).ranks (moved anc n before k).ranks p) ∙ h) in
    ap (λ (w : ℕ). parent anc w p) (sym (union-below-suc marks k)) ∙ moved_stays anc n before k p l g o.1 ∙ moved_below_stays anc n marks k p l (has_add_less before k p g) o.0

-- The same of the mended view, for callers.
pub below-unmarked : (anc : ℕ → ℕ) (n marks q p : ℕ) (m : Mended) → m ≡ mended_below anc n marks q → Free m.marks p → Free marks p
below-unmarked anc n marks q p m e f = (or_neither (has marks p) (has (below q) p) (sym (has-union marks (below q) p) ∙ ap (λ (w : ℕ). has w p) (sym (below-marks anc n marks q m e)) ∙ f)).0

pub below_stays : (anc : ℕ → ℕ) (n marks q p : ℕ) (m : Mended) → m ≡ mended_below anc n marks q → p < n → Free m.marks p → has m.moved.ranks p ≡ false → parent anc m.marks p ≡ parent anc marks p
unfolding mended_below
below_stays anc n marks q p m e = rw e (moved_below_stays anc n marks q p)

-- the sum is small: each mark moves 64 ranks at most
moved-below-le : (anc : ℕ → ℕ) (n marks k : ℕ) → (moved_below anc n marks k).count ≤ 64 * k
unfolding moved_below and_then
moved-below-le anc n marks zero = omega arith
moved-below-le anc n marks (suc k) = omega (arith, moved-below-le anc n marks k, moved-le anc n (union marks (below k)) k)

pub below_few : (anc : ℕ → ℕ) (n start q k marks : ℕ) (t : List ℕ) (v : Moved) (m : Mended) → n ≤ 64 → Below anc n start k marks t v → k < q → q ≤ n → m ≡ mended anc n marks k → v.count + m.moved.count ≤ 4096
unfolding mended
below_few anc n start q k marks t v m h b l o e =
    let a : m.moved.count ≤ 64 = subst (λ (x : Moved). x.count ≤ 64) (sym (ap (λ (x : Mended). x.moved) e)) (moved-le anc n marks k) in
    let c : v.count ≤ 64 * k = subst (λ (x : Moved). x.count ≤ 64 * k) (sym b.moved_is) (moved-below-le anc n start k) in
    omega arith

-- a child that is gained at a mark moved, and was a child of the marked one
pub children-gained : (anc : ℕ → ℕ) (n marks q p : ℕ) → q < none → meet (moved anc n marks q).ranks (set_of (λ c. eqb (parent anc (add marks q) c) p) n) ≡ meet (children anc n (add marks q) p) (children anc n marks q)
unfolding moved sized children
children-gained anc n marks q p l = ext (meet (moved anc n marks q).ranks (set_of (λ c. eqb (parent anc (add marks q) c) p) n)) (meet (children anc n (add marks q) p) (children anc n marks q)) (λ c.
    has_meet (set_of (moves anc marks q) n) (set_of (λ c. eqb (parent anc (add marks q) c) p) n) c
    ∙ ap₂ (λ (x y : Bool). x && y) (has-set_of (moves anc marks q) n c ∙ ap (λ (x : Bool). ltb c n && x) (moves_linked anc marks q c l)) (has-set_of (λ c. eqb (parent anc (add marks q) c) p) n c)
    ∙ swap (ltb c n) (has (add marks q) c) (has marks c) (eqb (parent anc marks c) q) (eqb (parent anc (add marks q) c) p) (has_add_less marks q c)
    ∙ sym (has_meet (children anc n (add marks q) p) (children anc n marks q) c
    ∙ ap₂ (λ (x y : Bool). x && y) (has-set_of (λ c. not (has (add marks q) c) && eqb (parent anc (add marks q) c) p) n c) (has-set_of (λ c. not (has marks c) && eqb (parent anc marks c) q) n c)))
  where
    turn : (e g : Bool) → e && g ≡ g && e
    turn true true = refl
    turn true false = refl
    turn false true = refl
    turn false false = refl

    swap : (b f m e g : Bool) → (f ≡ false → m ≡ false) → b && (not f && e) && (b && g) ≡ b && (not f && g) && (b && (not m && e))
    swap false f m e g h = refl
    swap true true m e g h = refl
    swap true false m e g h = rw (h refl) (turn e g)

-- ---- the loop of `fresh`: the first i entries are the fresh table's, the others 255

pub record Filling (anc : ℕ → ℕ) (n marks i : ℕ) (t : List ℕ) : Type 0 where
  pub within : i ≤ n
  pub table : Patched 0 (entry anc n marks) (λ k. none) 64 i t

pub filling_start : (anc : ℕ → ℕ) (n marks : ℕ) → Filling anc n marks 0 (replicate 64 none)
filling_start anc n marks = record { within = omega arith; table = patched_start 0 (entry anc n marks) (λ k. none) 64 (replicate 64 none) (row_replicate 64 0 none) }

pub filling_put : (anc : ℕ → ℕ) (n marks i : ℕ) (t : List ℕ) (v : ℕ) → n ≤ 64 → Filling anc n marks i t → i < n → v ≡ parent anc marks i → Filling anc n marks (i + 1) (set t i v)
filling_put anc n marks i t v b f l e = record {
  within = omega arith;
  table = patched_put 0 (entry anc n marks) (λ k. none) 64 i v t f.table (omega arith) (e ∙ sym (entry-below anc n marks i l));
}

pub filling_end : (anc : ℕ → ℕ) (n marks i : ℕ) (t : List ℕ) → Filling anc n marks i t → n ≤ i → t ≡ fresh anc n marks
unfolding fresh
filling_end anc n marks i t f l = patched_end 0 (entry anc n marks) (λ k. none) 64 i t f.table (λ k h b. sym (entry_past anc n marks k (omega arith)))
