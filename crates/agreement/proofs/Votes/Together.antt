-- The laws of what a set proposes together, and of a triple that is it: of two sets, of one rank more, and in a later state. Assumes nothing.
use mathlib.Core.Path.{◌≡◌, refl, sym, ap, ap₂, subst, ◌∙◌}
use mathlib.Core.Bool.{Bool, true, false, cond, ◌||◌}
use mathlib.Core.Logic.{◌⊎◌, inl, inr, ⊎_elim}
use Prim.Native.Nat.{ℕ, zero, suc, ◌<◌}
use native.Mathlib.Omega.{arith}
use Rattle.sets.specs.Sets.{has, union, add}
use Rattle.sets.proofs.Laws.Bools.{eq_or_ne, cond_false, or_l, or_r, or_cases}
use Rattle.sets.proofs.Laws.Members.{has-union, has-zero, has-add-same, has-add-other, has_add_more}
use Rattle.rank.specs.declared.Triple.{Triple}
use Rattle.rank.specs.declared.Rank.{Rank}
use Rattle.rank.specs.Words.{decided}
use Rattle.rank.specs.Triples.{fresh_triple, combine, closing}
use Rattle.rank.proofs.Laws.Triples.{combine_self, combine_assoc, combine-again, combine_swap, combine_twice}
use Rattle.group.proofs.Scenes.{Scene}
use Rattle.agreement.specs.Agreement.{together}
use Rattle.agreement.proofs.Living.{Lives}
use Rattle.agreement.proofs.Votes.Invariant.{Entered, Combines, Concludes}

-- ---- what a set proposes together, in a group of n

module _ (n : ℕ) where
  pub together-none : (proposals : ℕ → Triple) (k : ℕ) → together n proposals 0 k ≡ fresh_triple n
  unfolding together
  together-none proposals zero = refl
  together-none proposals (suc k) = cond_false (has 0 k) (combine (together n proposals 0 k) (proposals k)) (together n proposals 0 k) (has-zero k) ∙ together-none proposals k

  -- two sets with the same members below k
  together_alike : (proposals : ℕ → Triple) (A B k : ℕ) → ((i : ℕ) → i < k → has A i ≡ has B i) → together n proposals A k ≡ together n proposals B k
  unfolding together
  together_alike proposals A B zero h = refl
  together_alike proposals A B (suc k) h = ap₂ (λ (b : Bool) (x : Triple). cond b (combine x (proposals k)) x) (h k (omega arith)) (together_alike proposals A B k (λ i l. h i (omega arith)))

  -- other proposals, the same of the members
  pub together-same : (proposals proposals' : ℕ → Triple) (A k : ℕ) → ((i : ℕ) → has A i ≡ true → proposals' i ≡ proposals i) → together n proposals' A k ≡ together n proposals A k
  unfolding together
  together-same proposals proposals' A zero h = refl
  together-same proposals proposals' A (suc k) h = go (has A k) refl (together-same proposals proposals' A k h)
    where
      go : (b : Bool) → has A k ≡ b → together n proposals' A k ≡ together n proposals A k → cond b (combine (together n proposals' A k) (proposals' k)) (together n proposals' A k) ≡ cond b (combine (together n proposals A k) (proposals k)) (together n proposals A k)
      go true e ih = ap₂ combine ih (h k e)
      go false e ih = ih

  pub together-union : (proposals : ℕ → Triple) (A B k : ℕ) → together n proposals (union A B) k ≡ combine (together n proposals A k) (together n proposals B k)
  unfolding together
  together-union proposals A B zero = sym (combine_self (fresh_triple n))
  together-union proposals A B (suc k) =
      ap₂ (λ (b : Bool) (x : Triple). cond b (combine x (proposals k)) x) (has-union A B k) (together-union proposals A B k) ∙ go (has A k) (has B k) (together n proposals A k) (together n proposals B k) (proposals k)
    where
      go : (a b : Bool) (x y v : Triple) → cond (a || b) (combine (combine x y) v) (combine x y) ≡ combine (cond a (combine x v) x) (cond b (combine y v) y)
      go true true x y v = combine_twice x y v
      go true false x y v = combine_swap x y v
      go false true x y v = combine_assoc x y v
      go false false x y v = refl

  pub together-add : (proposals : ℕ → Triple) (A p k : ℕ) → p < k → together n proposals (add A p) k ≡ combine (together n proposals A k) (proposals p)
  unfolding together
  together-add proposals A p zero l = absurd (omega arith)
  together-add proposals A p (suc k) l = go (together-add proposals A p k) (eq_or_ne k p)
    where
      joins : (b : Bool) (x v : Triple) → combine x v ≡ combine (cond b (combine x v) x) v
      joins true x v = sym (combine-again x v)
      joins false x v = refl

      passes_by : (b : Bool) (x v w : Triple) → cond b (combine (combine x w) v) (combine x w) ≡ combine (cond b (combine x v) x) w
      passes_by true x v w = combine_swap x w v
      passes_by false x v w = refl

      go : (p < k → together n proposals (add A p) k ≡ combine (together n proposals A k) (proposals p)) → (k ≡ p) ⊎ (k ≡ p → ⊥)
          → cond (has (add A p) k) (combine (together n proposals (add A p) k) (proposals k)) (together n proposals (add A p) k) ≡ combine (cond (has A k) (combine (together n proposals A k) (proposals k)) (together n proposals A k)) (proposals p)
      go ih (inl e) =
          ap₂ (λ (b : Bool) (x : Triple). cond b (combine x (proposals k)) x) (ap (has (add A p)) e ∙ has-add-same A p) (together_alike proposals (add A p) A k (λ i h. has-add-other A p i (λ z. omega arith)))
          ∙ joins (has A k) (together n proposals A k) (proposals k) ∙ ap (λ (v : Triple). combine (cond (has A k) (combine (together n proposals A k) (proposals k)) (together n proposals A k)) v) (ap proposals e)
      go ih (inr d) =
          ap₂ (λ (b : Bool) (x : Triple). cond b (combine x (proposals k)) x) (has-add-other A p k d) (ih (omega arith)) ∙ passes_by (has A k) (together n proposals A k) (proposals k) (proposals p)

-- ---- a triple that is what a set of ranks that have entered proposed together

module _ {n : ℕ} {proposals proposals' : ℕ → Triple} {s s' : Scene} {Must Must' : ℕ → Type 0} {w w' : Triple} where
  -- in a later state, with fewer who must be in the set
  pub combines_on : ((i : ℕ) → Entered n s i → proposals' i ≡ proposals i) → ((i : ℕ) → Entered n s i → Entered n s' i) → ((x : ℕ) → Must' x → Must x) → w' ≡ w
      → Combines n proposals s Must w → Combines n proposals' s' Must' w'
  combines_on same stay fewer e c = record {
    members = c.members;
    entered = λ i h. stay i (c.entered i h);
    contains = λ i h. c.contains i (fewer i h);
    is_together = e ∙ c.is_together ∙ sym (together-same n proposals proposals' c.members n (λ i h. same i (c.entered i h)));
  }

module _ {n : ℕ} {proposals : ℕ → Triple} {s : Scene} {Must Must' : ℕ → Type 0} {w : Triple} where
  -- fewer who must be in the set
  pub combines_fewer : ((x : ℕ) → Must' x → Must x) → Combines n proposals s Must w → Combines n proposals s Must' w
  combines_fewer fewer c = combines_on (λ i e. refl) (λ i e. e) fewer refl c

  -- one rank more, which has entered
  pub combines_more : (p : ℕ) → Entered n s p → ((x : ℕ) → Must' x → Must x ⊎ (x ≡ p)) → Combines n proposals s Must w → Combines n proposals s Must' (combine w (proposals p))
  combines_more p e split c = record {
    members = add c.members p;
    entered = λ i h. go i h (eq_or_ne i p);
    contains = λ i h. ⊎_elim (λ (y : Must i). has_add_more c.members p i (c.contains i y)) (λ (y : i ≡ p). ap (has (add c.members p)) y ∙ has-add-same c.members p) (split i h);
    is_together = ap (λ (x : Triple). combine x (proposals p)) c.is_together ∙ sym (together-add n proposals c.members p n e.0);
  }
    where
      go : (i : ℕ) → has (add c.members p) i ≡ true → (i ≡ p) ⊎ (i ≡ p → ⊥) → Entered n s i
      go i h (inl y) = subst (Entered n s) (sym y) e
      go i h (inr d) = c.entered i (sym (has-add-other c.members p i d) ∙ h)

module _ {n : ℕ} {proposals : ℕ → Triple} {s : Scene} {One Other Must : ℕ → Type 0} {v w : Triple} where
  -- two combined, the sets united
  pub combines_both : ((x : ℕ) → Must x → One x ⊎ Other x) → Combines n proposals s One v → Combines n proposals s Other w → Combines n proposals s Must (combine v w)
  combines_both split a b = record {
    members = union a.members b.members;
    entered = λ i h. ⊎_elim (a.entered i) (b.entered i) (or_cases (has a.members i) (has b.members i) (sym (has-union a.members b.members i) ∙ h));
    contains = λ i h. has-union a.members b.members i
        ∙ ⊎_elim (λ (y : One i). or_l (has a.members i) (has b.members i) (a.contains i y)) (λ (y : Other i). or_r (has a.members i) (has b.members i) (b.contains i y)) (split i h);
    is_together = ap₂ combine a.is_together b.is_together ∙ sym (together-union n proposals a.members b.members n);
  }

-- ---- a verdict

-- A decided rank stays so, with its result and its triple, and its marks grow.
pub record Stands (r r' : Rank) : Type 0 where
  pub still-decided : r'.phase ≡ decided
  pub result_stays : r'.result ≡ r.result
  pub triple_stays : r'.triple ≡ r.triple
  pub marks_grow : (k : ℕ) → has r.marks k ≡ true → has r'.marks k ≡ true

module _ {n : ℕ} {proposals proposals' : ℕ → Triple} {s s' : Scene} {w : Triple} where
  -- in a later state, where decided ranks stand
  pub concludes_on : ((i : ℕ) → Entered n s i → proposals' i ≡ proposals i) → ((i : ℕ) → Entered n s i → Entered n s' i) → ((x : ℕ) → Lives n s' x → Lives n s x)
      → ((i : ℕ) → i < n → (s.rank i).phase ≡ decided → Stands (s.rank i) (s'.rank i)) → Concludes n proposals s w → Concludes n proposals' s' w
  unfolding combines_on
  concludes_on same stay fewer stands c =
      let f : Stands (s.rank c.root) (s'.rank c.root) = stands c.root (c.combined.entered c.root c.root-member).0 c.is_decided in
      record {
        root = c.root;
        added = c.added;
        combined = combines_on same stay fewer f.triple_stays c.combined;
        root-member = c.root-member;
        is_decided = f.still-decided;
        is_result = f.result_stays ∙ c.is_result;
        own-and-added = c.own-and-added ∙ ap (closing c.added) (sym f.triple_stays);
        within_marks = λ k h. f.marks_grow k (c.within_marks k h);
        all-below = c.all-below;
      }
