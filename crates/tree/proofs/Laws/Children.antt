-- What a child is, is kept and is gained at one mark more, and whom the children of a rank stand above, over any ancestor sets.
-- Assumes nothing.
use mathlib.Core.Path.{◌≡◌, refl, sym, ap, ap₂, subst, ◌∙◌}
use mathlib.Core.Bool.{Bool, true, false, not, ◌&&◌, ◌||◌}
use mathlib.Core.Logic.{◌⊎◌, inl, inr, ⊎_elim}
use Prim.Native.Nat.{ℕ, zero, suc, ◌≤◌, ◌<◌}
use native.Mathlib.Omega.{arith}
use lib.Dec.{eqb}
use borrow.Author.Tests.{not-true, eq-eqb, eqb-true}
use Rattle.sets.specs.Sets.{none, has, add, union, meet, minus, below, set_of}
use Rattle.sets.proofs.Laws.Bools.{clash, fails, same_test, eq_or_ne, lt-or-le, and_i, and_l, and_r, and_true, and_not_l, and_not_r, not_i}
use Rattle.sets.proofs.Laws.Members.{ext, has-union, has_meet, has-minus, set_of-has, set_of_within, set_of_passes, set_of_cong, has-add-same, has-add-other, has_add_more, has_add_less}
use Rattle.tree.specs.Tree.{parent, children}
use Rattle.tree.specs.Relations.{Above, Ancestry, Chained}
use Rattle.tree.proofs.Kin.{Under, UnderAChild}
use Rattle.tree.proofs.Laws.Parents.{Marked, Free, Parent, nearest, lowest, nobody, parent-cases, parent_is, parent-lt, parent_free, no_parent_all, parent_stays, marked_more, marked-high}

-- c is a child of p
pub record Child (anc : ℕ → ℕ) (n marks p c : ℕ) : Type 0 where
  pub within : c < n
  pub free : Free marks c
  pub linked : parent anc marks c ≡ p

pub child_o : (anc : ℕ → ℕ) (n marks p c : ℕ) → has (children anc n marks p) c ≡ true → Child anc n marks p c
unfolding children
child_o anc n marks p c h =
    let t : not (has marks c) && eqb (parent anc marks c) p ≡ true = set_of_passes (λ c. not (has marks c) && eqb (parent anc marks c) p) n c h in
    record {
      within = set_of_within (λ c. not (has marks c) && eqb (parent anc marks c) p) n c h;
      free = not-true (has marks c) (and_l (not (has marks c)) (eqb (parent anc marks c) p) t);
      linked = eqb-true (parent anc marks c) p (and_r (not (has marks c)) (eqb (parent anc marks c) p) t);
    }

pub child_i : (anc : ℕ → ℕ) (n marks p c : ℕ) → Child anc n marks p c → has (children anc n marks p) c ≡ true
unfolding children
child_i anc n marks p c k =
    set_of-has (λ c. not (has marks c) && eqb (parent anc marks c) p) n c k.within
    (and_i (not (has marks c)) (eqb (parent anc marks c) p) (not_i (has marks c) k.free) (eq-eqb (parent anc marks c) p k.linked))

-- whether an unmarked rank is a child, read off its link
pub child_test : (anc : ℕ → ℕ) (n marks p c : ℕ) → c < n → Free marks c → has (children anc n marks p) c ≡ eqb (parent anc marks c) p
child_test anc n marks p c l f =
    same_test (has (children anc n marks p) c) (eqb (parent anc marks c) p) (λ t. eq-eqb (parent anc marks c) p (child_o anc n marks p c t).linked)
    (λ t. child_i anc n marks p c (record { within = l; free = f; linked = eqb-true (parent anc marks c) p t }))

-- two views with the same children of p
pub children-same : (anc : ℕ → ℕ) (n m m' p : ℕ) → ((c : ℕ) → Child anc n m p c → Child anc n m' p c) → ((c : ℕ) → Child anc n m' p c → Child anc n m p c)
    → children anc n m p ≡ children anc n m' p
unfolding children
children-same anc n m m' p f g =
    set_of_cong (λ c. not (has m c) && eqb (parent anc m c) p) (λ c. not (has m' c) && eqb (parent anc m' c) p) n
    (λ c l. same_test (not (has m c) && eqb (parent anc m c) p) (not (has m' c) && eqb (parent anc m' c) p) (over m m' f c l) (over m' m g c l))
  where
    over : (a b : ℕ) → ((c : ℕ) → Child anc n a p c → Child anc n b p c) → (c : ℕ) → c < n → not (has a c) && eqb (parent anc a c) p ≡ true → not (has b c) && eqb (parent anc b c) p ≡ true
    over a b h c l t =
        let k : Child anc n b p c = h c (record { within = l; free = not-true (has a c) (and_l (not (has a c)) (eqb (parent anc a c) p) t); linked = eqb-true (parent anc a c) p (and_r (not (has a c)) (eqb (parent anc a c) p) t) }) in
        and_i (not (has b c)) (eqb (parent anc b c) p) (not_i (has b c) k.free) (eq-eqb (parent anc b c) p k.linked)

-- a child is larger than its parent
pub child_gt : (anc : ℕ → ℕ) (n marks p c : ℕ) → p < none → Child anc n marks p c → p < c
child_gt anc n marks p c l k = subst (λ (r : ℕ). r < c) k.linked (parent-lt anc marks c (λ e. omega (arith, k.linked)))

-- a child's parent is unmarked
pub child_parent_free : (anc : ℕ → ℕ) (n marks p c : ℕ) → p < none → Child anc n marks p c → Free marks p
child_parent_free anc n marks p c l k = subst (λ (r : ℕ). Free marks r) k.linked (parent_free anc marks c (λ e. omega (arith, k.linked)))

-- ---- one mark more (T5)

-- a child other than q is never lost
pub child_kept : (anc : ℕ → ℕ) (n marks q p c : ℕ) → (c ≡ q → ⊥) → (p ≡ q → ⊥) → Child anc n marks p c → Child anc n (add marks q) p c
child_kept anc n marks q p c d e k = record {
  within = k.within;
  free = has-add-other marks q c d ∙ k.free;
  linked = parent_stays anc marks q c (λ x. e (sym k.linked ∙ x)) ∙ k.linked;
}

-- a child that is new was linked to q
pub child_new : (anc : ℕ → ℕ) (n marks q p c : ℕ) → Child anc n (add marks q) p c → Child anc n marks p c ⊎ (parent anc marks c ≡ q)
child_new anc n marks q p c k =
    ⊎_elim (λ (e : parent anc marks c ≡ q). inr e)
    (λ (e : parent anc marks c ≡ q → ⊥). inl (record {
      within = k.within;
      free = has_add_less marks q c k.free;
      linked = sym (parent_stays anc marks q c e) ∙ k.linked;
    }))
    (eq_or_ne (parent anc marks c) q)

-- with p unmarked and without a parent, every other unmarked rank is larger
pub root_least : (anc : ℕ → ℕ) (marks p k : ℕ) → p ≤ none → parent anc marks p ≡ none → Free marks k → (k ≡ p → ⊥) → p < k
root_least anc marks p k s e f d =
    ⊎_elim (λ (l : p < k). l) (λ (l : k ≤ p). absurd (clash (has marks k) (no_parent_all anc marks p s e k (omega arith)) f)) (lt-or-le p k)

-- p has no parent and q is its child: whoever was linked to q is now a child of p
module _ (anc : ℕ → ℕ) (chain : Chained anc) (n marks q p : ℕ) (small : n ≤ none) (pn : p < n) (root : parent anc marks p ≡ none) (fp : Free marks p) (kq : Child anc n marks p q) where
  p<q : p < q
  p<q = child_gt anc n marks p q (omega arith) kq

  -- an unmarked ancestor of q is p at most
  over_q : (k : ℕ) → k < q → Above anc q k → p < k → Marked marks k
  over_q k l u h = go (parent anc marks q) (parent-cases anc marks q) kq.linked
    where
      go : (r : ℕ) → Parent anc marks q r → r ≡ p → Marked marks k
      go r (nearest a v f b) e = b k (omega arith) l u
      go r (lowest a f b v) e = v k l u
      go r (nobody b) e = b k l

  -- an ancestor of c, where q is the nearest unmarked one, is marked once q is, unless it is p
  over_c : (c k : ℕ) → Above anc c q → ((k : ℕ) → q < k → k < c → Above anc c k → Marked marks k) → k < c → Above anc c k → (k ≡ p → ⊥) → Marked (add marks q) k
  over_c c k v b l u d =
      ⊎_elim (λ (h : k < q). has_add_more marks q k (low h (lt-or-le p k)))
      (λ (h : q ≤ k). ⊎_elim (λ (e : k ≡ q). ap (has (add marks q)) e ∙ has-add-same marks q) (λ (e : k ≡ q → ⊥). has_add_more marks q k (b k (omega arith) l u)) (eq_or_ne k q))
      (lt-or-le k q)
    where
      low : k < q → (p < k) ⊎ (k ≤ p) → Marked marks k
      low h (inl x) = over_q k h (chain c k q u v h) x
      low h (inr x) = no_parent_all anc marks p (omega arith) root k (omega arith)

  pub child_gained : (c : ℕ) → c < n → Free marks c → parent anc marks c ≡ q → Child anc n (add marks q) p c
  child_gained c l fc ec = record {
    within = l;
    free = has-add-other marks q c (λ x. omega (arith, q<c)) ∙ fc;
    linked = go (parent anc marks c) (parent-cases anc marks c) ec;
  }
    where
      q<c : q < c
      q<c = subst (λ (r : ℕ). r < c) ec (parent-lt anc marks c (λ x. omega (arith, kq.within)))

      still : Free (add marks q) p
      still = has-add-other marks q p (λ x. omega (arith, p<q)) ∙ fp

      under : (k : ℕ) → k < p → Marked (add marks q) k
      under k h = has_add_more marks q k (no_parent_all anc marks p (omega arith) root k h)

      pick : ((k : ℕ) → k < c → Above anc c k → (k ≡ p → ⊥) → Marked (add marks q) k) → (b : Bool) → has (anc c) p ≡ b → parent anc (add marks q) c ≡ p
      pick h true e = parent_is anc (add marks q) c p (nearest (omega (arith, p<q, q<c)) e still (λ k x y u. h k y u (λ z. omega arith)))
      pick h false e = parent_is anc (add marks q) c p (lowest (omega (arith, p<q, q<c)) still under (λ k y u. h k y u (λ z. clash (has (anc c) p) (subst (λ (j : ℕ). Above anc c j) z u) e)))

      go : (r : ℕ) → Parent anc marks c r → r ≡ q → parent anc (add marks q) c ≡ p
      go r (nearest a v f b) e = pick (λ k x u d. over_c c k (subst (λ (j : ℕ). Above anc c j) e v) (λ j y z w. b j (omega arith) z w) x u d) (has (anc c) p) refl
      go r (lowest a f b v) e = absurd (clash (has marks p) (b p (omega (arith, p<q))) fp)
      go r (nobody b) e = absurd (omega (arith, kq.within))

-- p has no parent and q is not its child: no child is new
module _ (anc : ℕ → ℕ) (tree : Ancestry anc) (n marks q p : ℕ) (small : n ≤ none) (pn : p < n) (qn : q < n) (root : parent anc marks p ≡ none) (fp : Free marks p) (other : q ≡ p → ⊥) (notChild : Child anc n marks p q → ⊥) where
  -- whoever was linked to q has an unmarked ancestor above p, which stays
  stranger : (c : ℕ) → parent anc marks c ≡ q → parent anc (add marks q) c ≡ p → ⊥
  stranger c ec ep = go (parent anc marks q) refl (parent-cases anc marks q)
    where
      fq : Free marks q
      fq = subst (λ (r : ℕ). Free marks r) ec (parent_free anc marks c (λ x. omega arith))

      p<q : p < q
      p<q = root_least anc marks p q (omega arith) root fq other

      q<c : q < c
      q<c = subst (λ (r : ℕ). r < c) ec (parent-lt anc marks c (λ x. omega arith))

      marked-there : (a r : ℕ) → Parent anc (add marks q) c r → r ≡ p → p < a → a < c → Above anc c a → Marked (add marks q) a
      marked-there a r (nearest x v f b) e l m u = b a (omega arith) m u
      marked-there a r (lowest x f b v) e l m u = v a m u
      marked-there a r (nobody b) e l m u = b a m

      above_c : (a r : ℕ) → Parent anc marks c r → r ≡ q → Above anc q a → Above anc c a
      above_c a r (nearest x v f b) e u = tree.through c q a (subst (λ (j : ℕ). Above anc c j) e v) u
      above_c a r (lowest x f b v) e u = absurd (clash (has marks p) (b p (omega (arith, p<q))) fp)
      above_c a r (nobody b) e u = absurd (omega arith)

      clashes : (a : ℕ) → a < q → Above anc q a → Free marks a → p < a → ⊥
      clashes a l u f h =
          clash (has (add marks q) a)
          (marked-there a (parent anc (add marks q) c) (parent-cases anc (add marks q) c) ep h (omega (arith, q<c)) (above_c a (parent anc marks c) (parent-cases anc marks c) ec u))
          (has-add-other marks q a (λ x. omega arith) ∙ f)

      child : (a : ℕ) → parent anc marks q ≡ a → a ≡ p → ⊥
      child a e x = notChild (record { within = qn; free = fq; linked = e ∙ x })

      go : (a : ℕ) → parent anc marks q ≡ a → Parent anc marks q a → ⊥
      go a e (nearest l u f b) = clashes a l u f (root_least anc marks p a (omega arith) root f (child a e))
      go a e (lowest l f b u) = child a e (lt_antisym (lt-or-le a p) (lt-or-le p a))
        where
          lt_antisym : (a < p) ⊎ (p ≤ a) → (p < a) ⊎ (a ≤ p) → a ≡ p
          lt_antisym (inl x) y = absurd (clash (has marks a) (no_parent_all anc marks p (omega arith) root a x) f)
          lt_antisym (inr x) (inl y) = absurd (clash (has marks p) (b p y) fp)
          lt_antisym (inr x) (inr y) = omega arith
      go a e (nobody b) = clash (has marks p) (b p p<q) fp

  pub child_not_gained : (c : ℕ) → Child anc n (add marks q) p c → Child anc n marks p c
  child_not_gained c k = ⊎_elim (λ (h : Child anc n marks p c). h) (λ (e : parent anc marks c ≡ q). absurd (stranger c e k.linked)) (child_new anc n marks q p c k)

-- ---- more marks, and who moved by them: the children are those who stayed and those who came, of the unmarked

module _ (anc : ℕ → ℕ) (n marks after moved p : ℕ) (grow : (k : ℕ) → Free after k → Free marks k)
    (stay : (c : ℕ) → c < n → Free after c → has moved c ≡ false → parent anc after c ≡ parent anc marks c) where
  child_stays : (c : ℕ) → Free after c → has moved c ≡ false → has (children anc n marks p) c ≡ has (children anc n after p) c
  child_stays c f h =
      same_test (has (children anc n marks p) c) (has (children anc n after p) c)
      (λ t. let k : Child anc n marks p c = child_o anc n marks p c t in child_i anc n after p c (record { within = k.within; free = f; linked = stay c k.within f h ∙ k.linked }))
      (λ t. let k : Child anc n after p c = child_o anc n after p c t in child_i anc n marks p c (record { within = k.within; free = grow c f; linked = sym (stay c k.within f h) ∙ k.linked }))

  child_comes : (c : ℕ) → Free after c → has (set_of (λ c. eqb (parent anc after c) p) n) c ≡ has (children anc n after p) c
  child_comes c f =
      same_test (has (set_of (λ c. eqb (parent anc after c) p) n) c) (has (children anc n after p) c)
      (λ t. child_i anc n after p c (record { within = set_of_within (λ c. eqb (parent anc after c) p) n c t; free = f; linked = eqb-true (parent anc after c) p (set_of_passes (λ c. eqb (parent anc after c) p) n c t) }))
      (λ t. let k : Child anc n after p c = child_o anc n after p c t in set_of-has (λ c. eqb (parent anc after c) p) n c k.within (eq-eqb (parent anc after c) p k.linked))

  -- the same of the children without those of a set
  pub children-after : (heard : ℕ) → minus (minus (union (minus (minus (children anc n marks p) heard) moved) (meet moved (set_of (λ c. eqb (parent anc after c) p) n))) heard) after ≡ minus (children anc n after p) heard
  children-after heard = ext _ (minus (children anc n after p) heard) (λ c.
      has-minus _ after c ∙ ap (λ (x : Bool). x && not (has after c)) (has-minus _ heard c ∙ ap (λ (x : Bool). x && not (has heard c)) (has-union _ _ c
      ∙ ap₂ (λ (x y : Bool). x || y) (has-minus _ moved c ∙ ap (λ (x : Bool). x && not (has moved c)) (has-minus (children anc n marks p) heard c)) (has_meet moved (set_of (λ c. eqb (parent anc after c) p) n) c)))
      ∙ pick (has after c) (has moved c) (has heard c) (has (children anc n marks p) c) (has (set_of (λ c. eqb (parent anc after c) p) n) c) (has (children anc n after p) c)
      (λ f. fails (has (children anc n after p) c) (λ t. clash (has after c) f (child_o anc n after p c t).free))
      (child_stays c) (child_comes c)
      ∙ sym (has-minus (children anc n after p) heard c))
    where
      pick : (f m h a s d : Bool) → (f ≡ true → d ≡ false) → (f ≡ false → m ≡ false → a ≡ d) → (f ≡ false → s ≡ d) → ((a && not h && not m) || (m && s)) && not h && not f ≡ d && not h
      pick true m h a s d x y z = and_not_r (((a && not h && not m) || (m && s)) && not h) false refl ∙ sym (and_not_l d (not h) (x refl))
      pick false true h a s d x y z = rw (z refl) (and_true (((a && not h && false) || d) && not h) ∙ ap (λ (t : Bool). (t || d) && not h) (and_not_r (a && not h) false refl))
      pick false false h a s d x y z = rw (y refl refl) (twice d h)
        where
          twice : (d h : Bool) → ((d && not h && true) || false) && not h && true ≡ d && not h
          twice true true = refl
          twice true false = refl
          twice false h = refl

-- ---- every rank below q marked (the second half of T4): no child of a larger rank is lost or gained

module _ (anc : ℕ → ℕ) (n marks q p : ℕ) (small : p < none) (l : q < p) (fq : Free marks q) where
  after : ℕ
  after = union marks (below q)

  down : (c : ℕ) → Child anc n marks p c → Child anc n after p c
  unfolding after
  down c k = record { within = k.within; free = marked-high marks q c (omega (arith, p<c)) ∙ k.free; linked = go (parent anc marks c) (parent-cases anc marks c) k.linked }
    where
      p<c : p < c
      p<c = child_gt anc n marks p c small k

      go : (r : ℕ) → Parent anc marks c r → r ≡ p → parent anc after c ≡ p
      go r (nearest a u f b) e = parent_is anc after c r (nearest a u (marked-high marks q r (omega arith) ∙ f) (λ j x y w. marked_more marks q j (b j x y w))) ∙ e
      go r (lowest a f b u) e = absurd (clash (has marks q) (b q (omega arith)) fq)
      go r (nobody b) e = absurd (omega arith)

  up : (c : ℕ) → Child anc n after p c → Child anc n marks p c
  unfolding after
  up c k = record { within = k.within; free = sym (marked-high marks q c (omega (arith, p<c))) ∙ k.free; linked = go (parent anc after c) (parent-cases anc after c) k.linked }
    where
      p<c : p < c
      p<c = child_gt anc n after p c small k

      go : (r : ℕ) → Parent anc after c r → r ≡ p → parent anc marks c ≡ p
      go r (nearest a u f b) e = parent_is anc marks c r (nearest a u (sym (marked-high marks q r (omega arith)) ∙ f) (λ j x y w. sym (marked-high marks q j (omega arith)) ∙ b j x y w)) ∙ e
      go r (lowest a f b u) e = absurd (clash (has after q) (b q (omega arith)) (marked-high marks q q (omega arith) ∙ fq))
      go r (nobody b) e = absurd (omega arith)

  pub children-below : children anc n (union marks (below q)) p ≡ children anc n marks p
  unfolding after
  children-below = children-same anc n after marks p up down

-- ---- who stands under whom (T6, with `Chained`)

under_through : (anc : ℕ → ℕ) → Ancestry anc → (c r x : ℕ) → Above anc x r → Under anc c r → Under anc c x
under_through anc tree c r x u (inl e) = inr (subst (λ (j : ℕ). Above anc x j) e u)
under_through anc tree c r x u (inr v) = inr (tree.through x r c u v)

pub under_trans : (anc : ℕ → ℕ) → Ancestry anc → (c r x : ℕ) → Under anc c r → Under anc r x → Under anc c x
under_trans anc tree c r x u (inl e) = subst (λ (j : ℕ). Under anc c j) (sym e) u
under_trans anc tree c r x u (inr v) = under_through anc tree c r x v u

pub under_le : (anc : ℕ → ℕ) → Ancestry anc → (c x : ℕ) → Under anc c x → c ≤ x
under_le anc tree c x (inl e) = omega arith
under_le anc tree c x (inr u) = let l : c < x = tree.smaller x c u in omega arith

-- two that x stands under: one stands under the other
pub under_chain : (anc : ℕ → ℕ) → Chained anc → (a b x : ℕ) → Under anc a x → Under anc b x → Under anc a b ⊎ Under anc b a
under_chain anc chain a b x (inl e) v = inr (subst (λ (j : ℕ). Under anc b j) e v)
under_chain anc chain a b x (inr u) (inl e) = inl (inr (subst (λ (j : ℕ). Above anc j a) e u))
under_chain anc chain a b x (inr u) (inr v) =
    ⊎_elim (λ (l : a < b). inl (inr (chain x a b u v l)))
    (λ (l : b ≤ a). ⊎_elim (λ (e : a ≡ b). inl (inl (sym e))) (λ (d : a ≡ b → ⊥). inr (inr (chain x b a v u (omega arith)))) (eq_or_ne a b))
    (lt-or-le a b)

-- ---- whom the children stand above

itself : (anc : ℕ → ℕ) (n marks p x : ℕ) → x < n → Free marks x → parent anc marks x ≡ p → UnderAChild anc n marks p x
itself anc n marks p x l f e = record { child = x; is_child = child_i anc n marks p x (record { within = l; free = f; linked = e }); under = inl refl }

further : (anc : ℕ → ℕ) → Ancestry anc → (n marks p r x : ℕ) → Above anc x r → UnderAChild anc n marks p r → UnderAChild anc n marks p x
further anc tree n marks p r x u c = record { child = c.child; is_child = c.is_child; under = under_through anc tree c.child r x u c.under }

-- T1: an unmarked rank under p stands under a child of p, or is one. The first number bounds x.
child_found : (anc : ℕ → ℕ) → Ancestry anc → Chained anc → (n marks p d x : ℕ) → Free marks p → x ≤ d → x < n → Free marks x → Above anc x p → UnderAChild anc n marks p x
child_found anc tree chain n marks p zero x fp b l f u = absurd (omega (arith, tree.smaller x p u))
child_found anc tree chain n marks p (suc d) x fp b l f u =
    go (λ r. child_found anc tree chain n marks p d r fp) (parent anc marks x) refl (parent-cases anc marks x)
  where
    on : ((r : ℕ) → r ≤ d → r < n → Free marks r → Above anc r p → UnderAChild anc n marks p r) → (r : ℕ) → parent anc marks x ≡ r → r < x → Above anc x r → Free marks r → (r < p → Marked marks p) → UnderAChild anc n marks p x
    on rest r e m v g h =
        ⊎_elim (λ (q : r ≡ p). itself anc n marks p x l f (e ∙ q))
        (λ (q : r ≡ p → ⊥). ⊎_elim (λ (y : r < p). absurd (clash (has marks p) (h y) fp))
        (λ (y : p ≤ r). further anc tree n marks p r x v (rest r (omega arith) (omega arith) g (chain x p r u v (omega arith)))) (lt-or-le r p))
        (eq_or_ne r p)

    go : ((r : ℕ) → r ≤ d → r < n → Free marks r → Above anc r p → UnderAChild anc n marks p r) → (r : ℕ) → parent anc marks x ≡ r → Parent anc marks x r → UnderAChild anc n marks p x
    go rest r e (nearest m v g h) = on rest r e m v g (λ y. h p y (tree.smaller x p u) u)
    go rest r e (lowest m g h v) = absurd (clash (has marks p) (v p (tree.smaller x p u) u) fp)
    go rest r e (nobody h) = absurd (clash (has marks p) (h p (tree.smaller x p u)) fp)

pub child_above : (anc : ℕ → ℕ) → Ancestry anc → Chained anc → (n marks p x : ℕ) → Free marks p → x < n → Free marks x → Above anc x p → UnderAChild anc n marks p x
child_above anc tree chain n marks p x fp l f u = child_found anc tree chain n marks p x x fp (omega arith) l f u

-- T2: where p has no parent, every other unmarked rank does.
child_found_by_root : (anc : ℕ → ℕ) → Ancestry anc → (n marks p d x : ℕ) → p ≤ none → parent anc marks p ≡ none → Free marks p → x ≤ d → x < n → Free marks x → (x ≡ p → ⊥) → UnderAChild anc n marks p x
child_found_by_root anc tree n marks p zero x s root fp b l f o = absurd (omega (arith, root_least anc marks p x s root f o))
child_found_by_root anc tree n marks p (suc d) x s root fp b l f o =
    go (λ r. child_found_by_root anc tree n marks p d r s root fp) (parent anc marks x) refl (parent-cases anc marks x)
  where
    p<x : p < x
    p<x = root_least anc marks p x s root f o

    go : ((r : ℕ) → r ≤ d → r < n → Free marks r → (r ≡ p → ⊥) → UnderAChild anc n marks p r) → (r : ℕ) → parent anc marks x ≡ r → Parent anc marks x r → UnderAChild anc n marks p x
    go rest r e (nearest m v g h) =
        ⊎_elim (λ (q : r ≡ p). itself anc n marks p x l f (e ∙ q)) (λ (q : r ≡ p → ⊥). further anc tree n marks p r x v (rest r (omega arith) (omega arith) g q)) (eq_or_ne r p)
    go rest r e (lowest m g h v) =
        ⊎_elim (λ (q : r ≡ p). itself anc n marks p x l f (e ∙ q)) (λ (q : r ≡ p → ⊥). absurd (clash (has marks p) (h p (root_least anc marks p r s root g q)) fp)) (eq_or_ne r p)
    go rest r e (nobody h) = absurd (clash (has marks p) (h p p<x) fp)

pub child_above_all : (anc : ℕ → ℕ) → Ancestry anc → (n marks p x : ℕ) → p ≤ none → parent anc marks p ≡ none → Free marks p → x < n → Free marks x → (x ≡ p → ⊥) → UnderAChild anc n marks p x
child_above_all anc tree n marks p x s root fp l f o = child_found_by_root anc tree n marks p x x s root fp (omega arith) l f o
