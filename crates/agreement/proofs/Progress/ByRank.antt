-- A rank's turn keeps what the invariant says of new ranks. Nobody becomes new; a rank that settles has heard every child, and whoever
-- lives under it stands under one of them. Over any ancestor sets with their chain law. Assumes nothing.
use mathlib.Core.Path.{◌≡◌, sym, subst}
use mathlib.Core.Bool.{true}
use mathlib.Core.Logic.{◌⊎◌, inl, inr, ⊎_elim}
use Prim.Native.Nat.{ℕ, ◌≤◌, ◌<◌}
use native.Mathlib.Omega.{arith}
use Rattle.sets.specs.Sets.{has}
use Rattle.sets.proofs.Laws.Bools.{eq_or_ne}
use Rattle.tree.specs.Relations.{Ancestry, Chained}
use Rattle.tree.proofs.Kin.{UnderAChild}
use Rattle.tree.proofs.Laws.Parents.{no_parent, no_parent_all}
use Rattle.tree.proofs.Laws.Children.{child_above, child_above_all}
use Rattle.rank.specs.declared.Rank.{Rank}
use Rattle.rank.specs.declared.Send.{Send}
use Rattle.rank.specs.Words.{gathering, waiting, decided, up, down}
use Rattle.rank.proofs.Turn.{NoParent, Complete, Polls, Says}
use Rattle.group.proofs.Scenes.{Scene, Flies}
use Rattle.group.proofs.Moves.{ByRank}
use Rattle.agreement.proofs.Living.{Truthful, lived, own_lives, unmarked, taken}
use Rattle.agreement.proofs.Progress.Invariant.{Early, not_early, New, NoneNew, Calm, Progress}

module _ (anc : ℕ → ℕ) (tree : Ancestry anc) (chain : Chained anc) (n : ℕ) (small : n ≤ 64) (s s' : Scene) (p kind q : ℕ) (f g : Send) (t : ByRank anc n s s' p kind q f g)
    (true' : Truthful n s') (inv : Progress anc n s) where
  -- a rank without a parent never gets one
  pub root_stays : NoParent anc p (s.rank p) → NoParent anc p (s'.rank p)
  root_stays e = no_parent anc (s'.rank p).marks p (λ k l. t.turn.marks_grow k (no_parent_all anc (s.rank p).marks p (let o = t.own in omega arith) e k l))

  -- ---- nobody becomes new

  was_early : Early anc n p (s'.rank p) → Early anc n p (s.rank p)
  was_early (inl e) = inl (t.turn.was_outside e)
  was_early (inr h) = go (t.turn.was_gathering h.0)
    where
      go : ((s.rank p).phase ≡ 0) ⊎ (((s.rank p).phase ≡ gathering) ⊎ (((s.rank p).phase ≡ waiting) × Polls anc n p (s'.rank p) f g)) → Early anc n p (s.rank p)
      go (inl e) = inl e
      go (inr (inl e)) = inr (e, λ r. h.1 (root_stays r))
      go (inr (inr e)) = absurd (h.1 e.1.root)

  pub was_new : (x : ℕ) → New anc n s' x → New anc n s x
  was_new x h = (lived t x h.0, go (eq_or_ne x p))
    where
      go : (x ≡ p) ⊎ (x ≡ p → ⊥) → Early anc n x (s.rank x)
      go (inl e) = subst (λ (y : ℕ). Early anc n y (s.rank y)) (sym e) (was_early (subst (λ (y : ℕ). Early anc n y (s'.rank y)) e h.1))
      go (inr d) = subst (Early anc n x) (t.others x d) h.1

  still-none : (c : ℕ) → NoneNew anc n s c → NoneNew anc n s' c
  still-none c h x u w = h x u (was_new x w)

  -- ---- heard, reporting and waiting

  own_heard : (x : ℕ) → has (s'.rank p).heard x ≡ true → NoneNew anc n s' x
  own_heard x h = go (t.turn.heard_new x h)
    where
      go : (has (s.rank p).heard x ≡ true) ⊎ ((kind ≡ up) × (q ≡ x)) → NoneNew anc n s' x
      go (inl e) = still-none x (inv.heard_old p x t.own e)
      go (inr e) = still-none x (inv.report_old x p (subst (λ (y : ℕ). Flies s up y p) e.1 (taken t up (omega arith) e.0)))

  pub heard_old' : (b x : ℕ) → b < n → has (s'.rank b).heard x ≡ true → NoneNew anc n s' x
  heard_old' b x l h = go (eq_or_ne b p)
    where
      go : (b ≡ p) ⊎ (b ≡ p → ⊥) → NoneNew anc n s' x
      go (inl e) = own_heard x (subst (λ (y : ℕ). has (s'.rank y).heard x ≡ true) e h)
      go (inr d) = still-none x (inv.heard_old b x l (subst (λ (r : Rank). has r.heard x ≡ true) (t.others b d) h))

  -- a rank that is not early, and has heard every child, has nobody new under it
  settled : (Early anc n p (s'.rank p) → ⊥) → Complete anc n p (s'.rank p) → NoneNew anc n s' p
  settled late c x (inl e) w = late (subst (λ (y : ℕ). Early anc n y (s'.rank y)) e w.1)
  settled late c x (inr u) w = go (child_above anc tree chain n (s'.rank p).marks p x (unmarked t true' p (own_lives t)) w.0.0 (unmarked t true' x w.0) u)
    where
      go : UnderAChild anc n (s'.rank p).marks p x → ⊥
      go k = own_heard k.child (c k.child k.is_child) x k.under w

  own_waits : (s'.rank p).phase ≡ waiting → NoneNew anc n s' p
  own_waits w = go (t.turn.was_waiting w)
    where
      go : ((s.rank p).phase ≡ waiting) ⊎ Complete anc n p (s'.rank p) → NoneNew anc n s' p
      go (inl e) = still-none p (inv.waiting_old p t.own e)
      go (inr c) = settled (not_early anc n p (s'.rank p) (omega arith)) c

  pub waiting_old' : (b : ℕ) → b < n → (s'.rank b).phase ≡ waiting → NoneNew anc n s' b
  waiting_old' b l w = go (eq_or_ne b p)
    where
      go : (b ≡ p) ⊎ (b ≡ p → ⊥) → NoneNew anc n s' b
      go (inl e) = subst (NoneNew anc n s') (sym e) (own_waits (subst (λ (y : ℕ). (s'.rank y).phase ≡ waiting) e w))
      go (inr d) = still-none b (inv.waiting_old b l (subst (λ (r : Rank). r.phase ≡ waiting) (t.others b d) w))

  pub report_old' : (x b : ℕ) → Flies s' up x b → NoneNew anc n s' x
  report_old' x b h = go (t.was up x b h)
    where
      go : Flies s up x b ⊎ ((x ≡ p) × Says f g up b) → NoneNew anc n s' x
      go (inl e) = still-none x (inv.report_old x b e)
      go (inr e) = subst (NoneNew anc n s') (sym e.0) (own_waits (t.turn.up_waits b e.1))

  -- ---- while there is a new rank nobody has decided

  -- the calm lasts while this rank does not decide
  pub calm_stays : Calm anc n s → ((s'.rank p).phase ≡ decided → ⊥) → Calm anc n s'
  calm_stays c u = (
    λ b l e. ⊎_elim (λ (y : b ≡ p). u (subst (λ (z : ℕ). (s'.rank z).phase ≡ decided) y e)) (λ (y : b ≡ p → ⊥). c.0 b l (subst (λ (r : Rank). r.phase ≡ decided) (t.others b y) e)) (eq_or_ne b p),
    λ b x h. ⊎_elim (λ (y : Flies s down b x). c.1 b x y) (λ (y : (b ≡ p) × Says f g down x). u (t.turn.down-decided x y.1)) (t.was down b x h),
  )

  -- and out of the calm only a root decides
  pub only-root : Calm anc n s → (s'.rank p).phase ≡ decided → NoParent anc p (s'.rank p) × Complete anc n p (s'.rank p)
  only-root c e = go (t.turn.was_decided e)
    where
      go : ((s.rank p).phase ≡ decided) ⊎ ((kind ≡ down) ⊎ (NoParent anc p (s'.rank p) × Complete anc n p (s'.rank p))) → NoParent anc p (s'.rank p) × Complete anc n p (s'.rank p)
      go (inl d) = absurd (c.0 p t.own d)
      go (inr (inl k)) = absurd (c.1 q p (taken t down (omega arith) k))
      go (inr (inr h)) = h

  pub new_calm' : (x : ℕ) → New anc n s' x → Calm anc n s'
  new_calm' x w = calm_stays c stays
    where
      c : Calm anc n s
      c = inv.new_calm x (was_new x w)

      covered : NoParent anc p (s'.rank p) → Complete anc n p (s'.rank p) → (x ≡ p → ⊥) → ⊥
      covered r h d =
          let o = t.own in
          let k : UnderAChild anc n (s'.rank p).marks p x = child_above_all anc tree n (s'.rank p).marks p x (omega arith) r (unmarked t true' p (own_lives t)) w.0.0 (unmarked t true' x w.0) d in
          own_heard k.child (h k.child k.is_child) x k.under w

      stays : (s'.rank p).phase ≡ decided → ⊥
      stays e =
          let h = only-root c e in
          ⊎_elim (λ (y : x ≡ p). not_early anc n p (s'.rank p) (omega arith) (subst (λ (z : ℕ). Early anc n z (s'.rank z)) y w.1)) (λ (y : x ≡ p → ⊥). covered h.0 h.1 y) (eq_or_ne x p)
