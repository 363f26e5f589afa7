-- What the code of a verdict says. The known dead of a verdict are the deaths that its members proposed, and what its root added; a death is
-- missing from its acknowledged set exactly if it is missing from the one that some member proposed. All deaths are ranks of the group, since
-- reached states are in order. Assumes nothing.
use mathlib.Core.Path.{◌≡◌, refl, sym, ap, subst, ◌∙◌}
use mathlib.Core.Bool.{Bool, true, false, cond, not, ◌&&◌, ◌||◌}
use mathlib.Core.Logic.{◌⊎◌, inl, inr, ⊎_elim}
use Prim.Native.Nat.{ℕ, zero, suc, ◌<◌}
use native.Mathlib.Omega.{arith}
use borrow.Author.Tests.{not-true}
use Rattle.sets.specs.Sets.{has}
use Rattle.sets.proofs.Laws.Bools.{clash, eq_or_ne, or_l, or_r, or_cases, not_i, not_o}
use Rattle.tree.specs.Tree.{flat}
use Rattle.rank.specs.declared.Triple.{Triple}
use Rattle.rank.specs.Triples.{fresh_triple, combine, code}
use Rattle.rank.specs.Records.{proposal}
use Rattle.rank.proofs.Facts.{TripleWithin}
use Rattle.rank.proofs.Laws.Triples.{Missing, missing-code, code_misses, fresh-known, fresh_acknowledged, combine-known, combine_acknowledged, closing-known, closing_acknowledged, fresh_within, combine_within, closing_within, proposal_within}
use Rattle.state.specs.declared.State.{State}
use Rattle.state.specs.States.{rank_at}
use Rattle.group.specs.Reaching.{Reaches, begun, next}
use Rattle.group.proofs.Laws.Reached.{reached-member}
use Rattle.agreement.specs.Agreement.{is_entry, proposal_of, together, FromTheLiving, Unacknowledged, CodeSays}

-- ---- what a set proposed together: of any test that two triples combined pass exactly if one of them does

module _ (n : ℕ) (proposals : ℕ → Triple) (A : ℕ) (f : Triple → Bool) (either : (a b : Triple) → f (combine a b) ≡ f a || f b) where
  -- a member below k whose proposal passes
  abbrev Passes : ℕ → Type 0
  Passes k = (i : ℕ) × (i < k) × (has A i ≡ true) × (f (proposals i) ≡ true)

  one_more : (k : ℕ) → Passes k → Passes (suc k)
  one_more k (i, l, a, h) = (i, omega arith, a, h)

  pub member_of : f (fresh_triple n) ≡ false → (k : ℕ) → f (together n proposals A k) ≡ true → Passes k
  unfolding together
  member_of fails zero h = absurd (clash (f (fresh_triple n)) h fails)
  member_of fails (suc k) h = go (has A k) refl (member_of fails k) h
    where
      go : (b : Bool) → has A k ≡ b → (f (together n proposals A k) ≡ true → Passes k) → f (cond b (combine (together n proposals A k) (proposals k)) (together n proposals A k)) ≡ true → Passes (suc k)
      go true e ih y =
          ⊎_elim (λ (z : f (together n proposals A k) ≡ true). one_more k (ih z)) (λ (z : f (proposals k) ≡ true). (k, omega arith, e, z))
          (or_cases (f (together n proposals A k)) (f (proposals k)) (sym (either (together n proposals A k) (proposals k)) ∙ y))
      go false e ih y = one_more k (ih y)

  pub of_member : (k i : ℕ) → i < k → has A i ≡ true → f (proposals i) ≡ true → f (together n proposals A k) ≡ true
  unfolding together
  of_member zero i l a h = absurd (omega arith)
  of_member (suc k) i l a h = go (has A k) refl (of_member k i) (eq_or_ne i k)
    where
      go : (b : Bool) → has A k ≡ b → (i < k → has A i ≡ true → f (proposals i) ≡ true → f (together n proposals A k) ≡ true) → (i ≡ k) ⊎ (i ≡ k → ⊥)
          → f (cond b (combine (together n proposals A k) (proposals k)) (together n proposals A k)) ≡ true
      go true e ih (inl y) = either (together n proposals A k) (proposals k) ∙ or_r (f (together n proposals A k)) (f (proposals k)) (subst (λ (j : ℕ). f (proposals j) ≡ true) y h)
      go true e ih (inr y) = either (together n proposals A k) (proposals k) ∙ or_l (f (together n proposals A k)) (f (proposals k)) (ih (omega arith) a h)
      go false e ih (inl y) = absurd (clash (has A k) (subst (λ (j : ℕ). has A j ≡ true) y a) e)
      go false e ih (inr y) = ih (omega arith) a h

-- Two such tests: the death is known; and, of a rank of the group, it is missing from the acknowledged set.
abbrev knows : ℕ → Triple → Bool
knows d t = has t.known d

abbrev lacks : ℕ → Triple → Bool
lacks d t = not (has t.acknowledged d)

lacks_either : (d : ℕ) (a b : Triple) → lacks d (combine a b) ≡ lacks d a || lacks d b
lacks_either d a b = ap not (combine_acknowledged a b d) ∙ not_both (has a.acknowledged d) (has b.acknowledged d)
  where
    not_both : (x y : Bool) → not (x && y) ≡ not x || not y
    not_both true y = refl
    not_both false y = refl

-- ---- the sets of a verdict lie within the group

-- what a rank proposed
proposed_within : (anc : ℕ → ℕ) (n : ℕ) (s : State) (run : Reaches anc n s) (i : ℕ) → i < n → TripleWithin n (proposal_of anc n s run i)
unfolding proposal_of
proposed_within anc n s (begun form span z) i l = fresh_within n
proposed_within anc n s (next s' ev run z) i l = go (is_entry ev i) (proposed_within anc n s' run i l)
  where
    go : (b : Bool) → TripleWithin n (proposal_of anc n s' run i) → TripleWithin n (cond b (proposal ev.b (rank_at s' i)) (proposal_of anc n s' run i))
    go true before = proposal_within anc n i ev.b (rank_at s' i) (reached-member anc n s' run i l).in_order.to_settle
    go false before = before

together_within : (n : ℕ) (proposals : ℕ → Triple) (A k : ℕ) → ((i : ℕ) → i < k → TripleWithin n (proposals i)) → TripleWithin n (together n proposals A k)
unfolding together
together_within n proposals A zero h = fresh_within n
together_within n proposals A (suc k) h = go (has A k) (together_within n proposals A k (λ i l. h i (omega arith)))
  where
    go : (b : Bool) → TripleWithin n (together n proposals A k) → TripleWithin n (cond b (combine (together n proposals A k) (proposals k)) (together n proposals A k))
    go true t = combine_within n (together n proposals A k) (proposals k) t (h k (omega arith))
    go false t = t

module _ (anc : ℕ → ℕ) (n : ℕ) (s : State) (run : Reaches anc n s) (verdict : Triple) (f : FromTheLiving anc n s run verdict) where
  abbrev all : Triple
  all = together n (proposal_of anc n s run) f.members n

  verdict_within : TripleWithin n verdict
  verdict_within =
      subst (TripleWithin n) (sym f.is_together)
      (closing_within n f.added all (together_within n (proposal_of anc n s run) f.members n (proposed_within anc n s run))
      (λ k h. (reached-member anc n s run f.root (f.inside f.root f.root-member)).in_order.to_settle.marks_inside.inside k (f.root-decided.within_marks k h)))

  known_is : (d : ℕ) → has verdict.known d ≡ has all.known d || has f.added d
  known_is d = ap (λ (t : Triple). has t.known d) f.is_together ∙ closing-known f.added all d

  acknowledged_is : (d : ℕ) → has verdict.acknowledged d ≡ has all.acknowledged d
  acknowledged_is d = ap (λ (t : Triple). has t.acknowledged d) f.is_together ∙ ap (λ (w : ℕ). has w d) (closing_acknowledged f.added all)

  -- ---- the code

  abbrev proposed : ℕ → Triple
  proposed = proposal_of anc n s run

  one_says : code verdict ≡ 1 → Unacknowledged anc n s run f.members f.added
  one_says e = go (code_misses n verdict verdict_within e)
    where
      knew : (d : ℕ) → has all.known d ≡ true → (i : ℕ) × (has f.members i ≡ true) × (has (proposed i).known d ≡ true)
      knew d h = let k = member_of n proposed f.members (knows d) (λ a b. combine-known a b d) (fresh-known n d) n h in (k.0, k.2, k.3)

      lacked : (d : ℕ) → d < n → has all.acknowledged d ≡ false → (i : ℕ) × (has f.members i ≡ true) × (has (proposed i).acknowledged d ≡ false)
      lacked d l h =
          let k = member_of n proposed f.members (lacks d) (lacks_either d) (not_o (has (fresh_triple n).acknowledged d) (fresh_acknowledged n d l)) n (not_i (has all.acknowledged d) h) in
          (k.0, k.2, not-true (has (proposed k.0).acknowledged d) k.3)

      go : (d : ℕ) × Missing verdict d → Unacknowledged anc n s run f.members f.added
      go (d, m) = record {
        death = d;
        known = ⊎_elim (λ (h : has all.known d ≡ true). inl (knew d h)) (λ (h : has f.added d ≡ true). inr h) (or_cases (has all.known d) (has f.added d) (sym (known_is d) ∙ m.0));
        missing = lacked d (verdict_within.known_in d m.0) (sym (acknowledged_is d) ∙ m.1);
      }

  says_one : Unacknowledged anc n s run f.members f.added → code verdict ≡ 1
  says_one u = missing-code verdict u.death (known_is u.death ∙ ⊎_elim proposed_it added_it u.known, acknowledged_is u.death ∙ not_acknowledged u.missing)
    where
      proposed_it : (i : ℕ) × (has f.members i ≡ true) × (has (proposed i).known u.death ≡ true) → has all.known u.death || has f.added u.death ≡ true
      proposed_it (i, a, h) = or_l (has all.known u.death) (has f.added u.death) (of_member n proposed f.members (knows u.death) (λ a b. combine-known a b u.death) n i (f.inside i a) a h)

      added_it : has f.added u.death ≡ true → has all.known u.death || has f.added u.death ≡ true
      added_it h = or_r (has all.known u.death) (has f.added u.death) h

      not_acknowledged : (i : ℕ) × (has f.members i ≡ true) × (has (proposed i).acknowledged u.death ≡ false) → has all.acknowledged u.death ≡ false
      not_acknowledged (i, a, h) =
          not-true (has all.acknowledged u.death)
          (of_member n proposed f.members (lacks u.death) (lacks_either u.death) n i (f.inside i a) a (not_i (has (proposed i).acknowledged u.death) h))

-- The code of a verdict is 1 exactly if some death that a member of A proposed, or that is in R, is missing from the acknowledged set that some
-- member of A proposed.
pub a_code_tells_of_deaths_not_acknowledged : (anc : ℕ → ℕ) → CodeSays anc
a_code_tells_of_deaths_not_acknowledged anc n s run verdict f = (one_says anc n s run verdict f, says_one anc n s run verdict f)

pub a_code_in_the_flat_tree : CodeSays flat
a_code_in_the_flat_tree = a_code_tells_of_deaths_not_acknowledged flat
