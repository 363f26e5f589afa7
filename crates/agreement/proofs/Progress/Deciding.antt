-- Where nothing is in flight, all living ranks have entered and all deaths are known, the invariant leaves nobody behind. The largest
-- rank that gathers would await a child that it has heard, or that owes it an answer; the smallest that waits would wait for a rank that
-- has decided. Assumes nothing.
use mathlib.Core.Path.{◌≡◌, refl, subst}
use mathlib.Core.Bool.{true, false}
use mathlib.Core.Logic.{◌⊎◌, inl, inr, ⊎_elim}
use Prim.Native.Nat.{ℕ, zero, suc, ◌+◌, ◌≤◌, ◌<◌}
use native.Mathlib.Omega.{arith}
use Rattle.sets.specs.Sets.{none, has}
use Rattle.sets.proofs.Laws.Bools.{clash, fails, same_test, eq_or_ne}
use Rattle.sets.proofs.Laws.Members.{ext, none_in}
use Rattle.tree.specs.Tree.{parent, children}
use Rattle.tree.proofs.Laws.Parents.{parent-lt, parent_free}
use Rattle.tree.proofs.Laws.Children.{Child, child_o, child_gt}
use Rattle.rank.specs.Words.{outside, gathering, waiting, decided}
use Rattle.rank.proofs.Facts.{RankInOrder}
use Rattle.rank.proofs.Turn.{NoParent, Leads}
use Rattle.rank.proofs.Laws.Keeping.{awaited_child, waiting-led}
use Rattle.group.proofs.Scenes.{Scene, Flies}
use Rattle.agreement.proofs.Living.{Lives, Quiet, AllEntered, AllDeathsKnown, AllDecided, Truthful}
use Rattle.agreement.proofs.Progress.Invariant.{Held, Polled, Progress}

module _ (anc : ℕ → ℕ) (n : ℕ) (small : n ≤ 64) (s : Scene) (inv : Progress anc n s) (in_order : (i : ℕ) → i < n → RankInOrder anc n i (s.rank i)) (truth : Truthful n s)
    (silence : Quiet s) (entered : AllEntered n s) (known : AllDeathsKnown n s) where
  -- all that live have the same view, and whoever one of them has not marked lives
  same_view_lem : (i j : ℕ) → Lives n s i → Lives n s j → (s.rank i).marks ≡ (s.rank j).marks
  same_view_lem i j li lj =
      ext (s.rank i).marks (s.rank j).marks
      (λ k. same_test (has (s.rank i).marks k) (has (s.rank j).marks k) (λ h. known j k lj (truth i k li.0 h)) (λ h. known i k li (truth j k lj.0 h)))

  unmarked_lives : (a c : ℕ) → Lives n s a → c < n → has (s.rank a).marks c ≡ false → Lives n s c
  unmarked_lives a c la l f = (l, fails (has s.dead c) (λ h. clash (has (s.rank a).marks c) (known a c la h) f))

  phases : (i : ℕ) → Lives n s i → ((s.rank i).phase ≡ gathering) ⊎ (((s.rank i).phase ≡ waiting) ⊎ ((s.rank i).phase ≡ decided))
  phases i l = go (eq_or_ne (s.rank i).phase gathering) (eq_or_ne (s.rank i).phase waiting)
    where
      go : ((s.rank i).phase ≡ gathering) ⊎ ((s.rank i).phase ≡ gathering → ⊥) → ((s.rank i).phase ≡ waiting) ⊎ ((s.rank i).phase ≡ waiting → ⊥)
          → ((s.rank i).phase ≡ gathering) ⊎ (((s.rank i).phase ≡ waiting) ⊎ ((s.rank i).phase ≡ decided))
      go (inl e) y = inl e
      go (inr e) (inl y) = inr (inl y)
      go (inr e) (inr y) = let k = (in_order i l.0).to_settle.known in let o : (s.rank i).phase ≡ outside → ⊥ = entered i l in inr (inr (omega arith))

  -- ---- nobody gathers

  -- a child that a gathering rank awaits neither waits nor has decided
  waits_not : (a c : ℕ) → Leads anc n a (s.rank a) c → has (s.rank a).heard c ≡ false → Held anc n s c a → ⊥
  waits_not a c k f (inl h) = silence _ c a h
  waits_not a c k f (inr (inl h)) = silence _ a c h
  waits_not a c k f (inr (inr h)) = go h.2
    where
      go : (has (s.rank a).heard c ≡ true) ⊎ (((s.rank a).phase ≡ gathering) × NoParent anc a (s.rank a) × ((has (children anc n (s.rank a).marks a) c ≡ false) ⊎ Flies s 3 a c)) → ⊥
      go (inl y) = clash (has (s.rank a).heard c) y f
      go (inr y) = ⊎_elim (λ (v : has (children anc n (s.rank a).marks a) c ≡ false). clash (has (children anc n (s.rank a).marks a) c) k v) (λ (v : Flies s 3 a c). silence _ a c v) y.2

  polled_not : (a c : ℕ) → c < n → (s.rank c).phase ≡ decided → Polled anc n s a c → ⊥
  polled_not a c l e (inl h) = h.0 c l e
  polled_not a c l e (inr (inl h)) = silence _ a c h
  polled_not a c l e (inr (inr (inl h))) = h.0 e
  polled_not a c l e (inr (inr (inr h))) = silence _ c a h

  decided-not : (a c : ℕ) → Lives n s a → (s.rank a).phase ≡ gathering → Lives n s c → Leads anc n a (s.rank a) c → (s.rank c).phase ≡ decided → ⊥
  decided-not a c la g lc k e =
      ⊎_elim (λ (z : parent anc (s.rank a).marks a ≡ none). polled_not a c lc.0 e (inv.polled a c la g z lc k))
      (λ (z : parent anc (s.rank a).marks a ≡ none → ⊥). (inv.new_calm a (la, inr (g, z))).0 c lc.0 e) (eq_or_ne (parent anc (s.rank a).marks a) none)

  -- so the largest that gathers awaits nobody
  stuck : (a : ℕ) → Lives n s a → (s.rank a).phase ≡ gathering → ((c : ℕ) → a < c → Lives n s c → (s.rank c).phase ≡ gathering → ⊥) → ⊥
  stuck a la g higher = (in_order a la.0).gathers g (none_in (s.rank a).awaited nobody)
    where
      awaits : (c : ℕ) → Leads anc n a (s.rank a) c → has (s.rank a).heard c ≡ false → Child anc n (s.rank a).marks a c → ⊥
      awaits c k f h = go (phases c lc)
        where
          lc : Lives n s c
          lc = unmarked_lives a c la h.within h.free

          linked : parent anc (s.rank c).marks c ≡ a
          linked = subst (λ (m : ℕ). parent anc m c ≡ a) (same_view_lem a c la lc) h.linked

          a<c : a < c
          a<c = let l = la.0 in child_gt anc n (s.rank a).marks a c (omega arith) h

          go : ((s.rank c).phase ≡ gathering) ⊎ (((s.rank c).phase ≡ waiting) ⊎ ((s.rank c).phase ≡ decided)) → ⊥
          go (inl e) = higher c a<c lc e
          go (inr (inl e)) = waits_not a c k f (inv.held c a lc e linked la)
          go (inr (inr e)) = decided-not a c la g lc k e

      nobody : (c : ℕ) → has (s.rank a).awaited c ≡ true → ⊥
      nobody c h = let t = awaited_child anc n a (s.rank a) (in_order a la.0) c h in awaits c t.0 t.1 (child_o anc n (s.rank a).marks a c t.0)

  -- from the largest rank down; the first number bounds how far a is from n
  nobody_gathers : (d a : ℕ) → n ≤ a + d → Lives n s a → (s.rank a).phase ≡ gathering → ⊥
  nobody_gathers zero a b la g = let l = la.0 in omega arith
  nobody_gathers (suc d) a b la g = stuck a la g (λ c l lc e. nobody_gathers d c (omega arith) lc e)

  -- ---- nobody waits

  held-not : (p a : ℕ) → (s.rank a).phase ≡ decided → Held anc n s p a → ⊥
  held-not p a e (inl h) = silence _ p a h
  held-not p a e (inr (inl h)) = silence _ a p h
  held-not p a e (inr (inr h)) = h.0 e

  -- from the smallest rank up; the first number bounds p
  nobody_waits : (d p : ℕ) → p < d → Lives n s p → (s.rank p).phase ≡ waiting → ⊥
  nobody_waits zero p b lp w = omega arith
  nobody_waits (suc d) p b lp w = go (λ a x y. nobody_waits d a x y) (parent anc (s.rank p).marks p) refl (waiting-led anc n p (s.rank p) (in_order p lp.0) w)
    where
      go : ((a : ℕ) → a < d → Lives n s a → (s.rank a).phase ≡ waiting → ⊥) → (a : ℕ) → parent anc (s.rank p).marks p ≡ a → (parent anc (s.rank p).marks p ≡ none → ⊥) → ⊥
      go lower a e h = by (phases a la)
        where
          a<p : a < p
          a<p = subst (λ (y : ℕ). y < p) e (parent-lt anc (s.rank p).marks p h)

          la : Lives n s a
          la = let l = lp.0 in let y = a<p in unmarked_lives p a lp (omega arith) (subst (λ (z : ℕ). has (s.rank p).marks z ≡ false) e (parent_free anc (s.rank p).marks p h))

          by : ((s.rank a).phase ≡ gathering) ⊎ (((s.rank a).phase ≡ waiting) ⊎ ((s.rank a).phase ≡ decided)) → ⊥
          by (inl y) = nobody_gathers n a (omega arith) la y
          by (inr (inl y)) = lower a (let z = a<p in omega arith) la y
          by (inr (inr y)) = held-not p a y (inv.held p a lp w e la)

  pub all-decided : AllDecided n s
  all-decided i l = go (phases i l)
    where
      go : ((s.rank i).phase ≡ gathering) ⊎ (((s.rank i).phase ≡ waiting) ⊎ ((s.rank i).phase ≡ decided)) → (s.rank i).phase ≡ decided
      go (inl e) = absurd (nobody_gathers n i (omega arith) l e)
      go (inr (inl e)) = absurd (nobody_waits (suc i) i (omega arith) l e)
      go (inr (inr e)) = e
