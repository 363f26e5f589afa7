-- A rank's turn keeps every wait held and every child polled. Only the rank whose turn it is changes, so a pair is looked at from three
-- sides: it is the one that waits or is polled, the one that holds or polls, or neither. Assumes nothing.
use mathlib.Core.Path.{◌≡◌, sym, subst, ◌∙◌}
use mathlib.Core.Bool.{true, false}
use mathlib.Core.Logic.{◌⊎◌, inl, inr, ⊎_elim}
use Prim.Native.Nat.{ℕ, ◌≤◌, ◌<◌}
use native.Mathlib.Omega.{arith}
use Rattle.sets.specs.Sets.{none, has}
use Rattle.sets.proofs.Laws.Bools.{clash, eq_or_ne, lt-or-le, passes_or_fails}
use Rattle.tree.specs.Relations.{Ancestry, Chained}
use Rattle.tree.specs.Tree.{parent, children}
use Rattle.tree.proofs.Laws.Parents.{parent-lt, no_parent_all}
use Rattle.tree.proofs.Laws.Children.{child_o, child_gt}
use Rattle.rank.specs.declared.Rank.{Rank}
use Rattle.rank.specs.declared.Send.{Send}
use Rattle.rank.specs.Words.{outside, gathering, waiting, decided, up, down, ask}
use Rattle.rank.proofs.Turn.{NoParent, Leads, Polls, Says}
use Rattle.group.proofs.Scenes.{Scene, Flies}
use Rattle.group.proofs.Moves.{ByRank}
use Rattle.agreement.proofs.Living.{Lives, Truthful, lived, own_lives, unmarked}
use Rattle.agreement.proofs.Progress.Invariant.{Calm, Owes, owes_on, Held, InDebt, Polled, Progress}
use Rattle.agreement.proofs.Progress.ByRank.{root_stays, calm_stays, only-root}

module _ (anc : ℕ → ℕ) (tree : Ancestry anc) (chain : Chained anc) (n : ℕ) (small : n ≤ 64) (s s' : Scene) (p kind q : ℕ) (f g : Send) (t : ByRank anc n s s' p kind q f g)
    (true' : Truthful n s') (inv : Progress anc n s) where
  abbrev Undecided : Type 0
  Undecided = (s'.rank p).phase ≡ decided → ⊥

  alive : (x : ℕ) → Lives n s' x → Lives n s x
  alive = lived t

  free : (x : ℕ) → Lives n s' x → has (s'.rank p).marks x ≡ false
  free = unmarked t true'

  rooted : NoParent anc p (s.rank p) → NoParent anc p (s'.rank p)
  rooted = root_stays anc tree chain n small s s' p kind q f g t true' inv

  lasts : Calm anc n s → Undecided → Calm anc n s'
  lasts = calm_stays anc tree chain n small s s' p kind q f g t true' inv

  -- a message to any other rank stays
  kept : (k b x : ℕ) → (x ≡ p → ⊥) → Flies s k b x → Flies s' k b x
  kept k b x d h = ⊎_elim (λ (e : Flies s' k b x). e) (λ (e : (k ≡ kind) × (b ≡ q) × (x ≡ p)). absurd (d e.2)) (t.stays k b x h)

  -- one to this rank stays, or was taken
  still : (k b : ℕ) → Flies s k b p → Flies s' k b p ⊎ ((kind ≡ k) × (q ≡ b))
  still k b h = ⊎_elim (λ (e : Flies s' k b p). inl e) (λ (e : (k ≡ kind) × (b ≡ q) × (p ≡ p)). inr (sym e.0, sym e.1)) (t.stays k b p h)

  -- a debt stays, or is paid by a decision
  repaid : (x : ℕ) → Lives n s' x → ((s.rank p).phase ≡ decided → ⊥) → has (s'.rank p).owed x ≡ true → Flies s' down p x ⊎ InDebt anc n (s'.rank p) x
  repaid x l u o =
      ⊎_elim (λ (e : (s'.rank p).phase ≡ decided). inl (t.joins down x (t.turn.tells_owed u e x o (free x l)))) (λ (e : Undecided). inr (e, o)) (eq_or_ne (s'.rank p).phase decided)

  -- ---- this rank waits, and a holds it

  waits_on : (a : ℕ) → (a ≡ p → ⊥) → (s'.rank p).phase ≡ waiting → parent anc (s'.rank p).marks p ≡ a → Held anc n s p a → Held anc n s' p a
  waits_on a d w e (inl h) = inl (kept up p a d h)
  waits_on a d w e (inr (inl h)) = go (still down a h)
    where
      go : Flies s' down a p ⊎ ((kind ≡ down) × (q ≡ a)) → Held anc n s' p a
      go (inl y) = inr (inl y)
      go (inr y) = absurd ((t.turn.takes-down y.0).1 w)
  waits_on a d w e (inr (inr h)) = go (subst (λ (r : Rank). Owes anc n (Flies s ask a p) a r p) (sym (t.others a d)) h)
    where
      asked : ((s'.rank a).phase ≡ decided → ⊥) → has (s'.rank a).owed p ≡ true → (s'.rank a).phase ≡ gathering → NoParent anc a (s'.rank a)
          → Flies s' ask a p ⊎ ((kind ≡ ask) × (q ≡ a)) → Held anc n s' p a
      asked u o y z (inl v) = inr (inr (u, o, inr (y, z, inr v)))
      asked u o y z (inr v) = inl (subst (Flies s' up p) v.1 (t.joins up q (t.turn.asked-reports v.0 w (e ∙ sym v.1))))

      root : ((s'.rank a).phase ≡ decided → ⊥) → has (s'.rank a).owed p ≡ true → (s'.rank a).phase ≡ gathering → NoParent anc a (s'.rank a)
          → (has (children anc n (s'.rank a).marks a) p ≡ false) ⊎ Flies s ask a p → Held anc n s' p a
      root u o y z (inl v) = inr (inr (u, o, inr (y, z, inl v)))
      root u o y z (inr v) = asked u o y z (still ask a v)

      go : Owes anc n (Flies s ask a p) a (s'.rank a) p → Held anc n s' p a
      go o = ⊎_elim (λ (y : has (s'.rank a).heard p ≡ true). inr (inr (o.0, o.1, inl y)))
          (λ (y : ((s'.rank a).phase ≡ gathering) × NoParent anc a (s'.rank a) × ((has (children anc n (s'.rank a).marks a) p ≡ false) ⊎ Flies s ask a p)). root o.0 o.1 y.0 y.1 y.2) o.2

  own_held : (a : ℕ) → Lives n s' p → (s'.rank p).phase ≡ waiting → parent anc (s'.rank p).marks p ≡ a → Lives n s' a → Held anc n s' p a
  own_held a lp w e la = go (t.turn.reports_to w)
    where
      a<p : a < p
      a<p = let h = la.0 in subst (λ (y : ℕ). y < p) e (parent-lt anc (s'.rank p).marks p (λ z. omega arith))

      go : (((s.rank p).phase ≡ waiting) × (parent anc (s.rank p).marks p ≡ parent anc (s'.rank p).marks p)) ⊎ Says f g up (parent anc (s'.rank p).marks p) → Held anc n s' p a
      go (inl h) = waits_on a (λ z. let y = a<p in omega arith) w e (inv.held p a (alive p lp) h.0 (h.1 ∙ e) (alive a la))
      go (inr h) = inl (subst (Flies s' up p) e (t.joins up (parent anc (s'.rank p).marks p) h))

  -- ---- this rank holds x, which waits

  -- as a gathering root it has x for no child, or asks it
  asks : (x : ℕ) → Undecided → has (s'.rank p).owed x ≡ true → (s'.rank p).phase ≡ gathering → NoParent anc p (s'.rank p) → (Leads anc n p (s'.rank p) x → Flies s' ask p x) → Held anc n s' x p
  asks x u o y z h =
      ⊎_elim (λ (e : Leads anc n p (s'.rank p) x). inr (inr (u, o, inr (y, z, inr (h e))))) (λ (e : has (children anc n (s'.rank p).marks p) x ≡ false). inr (inr (u, o, inr (y, z, inl e)))) (passes_or_fails (has (children anc n (s'.rank p).marks p) x))

  holds_on : (x : ℕ) → Lives n s' x → (x ≡ p → ⊥) → Owes anc n (Flies s ask p x) p (s.rank p) x → Held anc n s' x p
  holds_on x l d o = go (repaid x l o.0 (t.turn.owed_stays x o.1))
    where
      goes : Undecided → has (s'.rank p).owed x ≡ true → NoParent anc p (s.rank p) → (has (children anc n (s.rank p).marks p) x ≡ false) ⊎ Flies s ask p x
          → ((s'.rank p).phase ≡ decided) ⊎ (((s'.rank p).phase ≡ gathering) × ((c : ℕ) → Leads anc n p (s'.rank p) c → Leads anc n p (s.rank p) c ⊎ Says f g ask c)) → Held anc n s' x p
      goes u w z v (inl e) = absurd (u e)
      goes u w z (inr v) (inr y) = inr (inr (u, w, inr (y.0, rooted z, inr (kept ask p x d v))))
      goes u w z (inl v) (inr y) =
          asks x u w y.0 (rooted z)
          (λ c. ⊎_elim (λ (b : Leads anc n p (s.rank p) x). absurd (clash (has (children anc n (s.rank p).marks p) x) b v)) (λ (b : Says f g ask x). t.joins ask x b) (y.1 x c))

      go : Flies s' down p x ⊎ InDebt anc n (s'.rank p) x → Held anc n s' x p
      go (inl h) = inr (inl h)
      go (inr h) =
          ⊎_elim (λ (y : has (s.rank p).heard x ≡ true). ⊎_elim (λ (v : has (s'.rank p).heard x ≡ true). inr (inr (h.0, h.1, inl v)))
          (λ (v : Polls anc n p (s'.rank p) f g). asks x h.0 h.1 v.gathers v.root (λ c. t.joins ask x (v.each x c))) (t.turn.heard_stays h.0 x y))
          (λ (y : ((s.rank p).phase ≡ gathering) × NoParent anc p (s.rank p) × ((has (children anc n (s.rank p).marks p) x ≡ false) ⊎ Flies s ask p x)). goes h.0 h.1 y.1 y.2 (t.turn.goes_on y.0 y.1)) o.2

  -- it takes x's report
  hears : (x : ℕ) → Lives n s' x → q ≡ x → Says f g down q ⊎ (((s.rank p).phase ≡ decided → ⊥) × (has (s'.rank p).heard q ≡ true) × (has (s'.rank p).owed q ≡ true)) → Held anc n s' x p
  hears x l e (inl h) = inr (inl (subst (Flies s' down p) e (t.joins down q h)))
  hears x l e (inr h) =
      ⊎_elim (λ (y : Flies s' down p x). inr (inl y)) (λ (y : InDebt anc n (s'.rank p) x). inr (inr (y.0, y.1, inl (subst (λ (z : ℕ). has (s'.rank p).heard z ≡ true) e h.1))))
      (repaid x l h.0 (subst (λ (z : ℕ). has (s'.rank p).owed z ≡ true) e h.2))

  own_holds : (x : ℕ) → Lives n s' x → (x ≡ p → ⊥) → Held anc n s x p → Held anc n s' x p
  own_holds x l d (inl h) = ⊎_elim (λ (y : Flies s' up x p). inl y) (λ (y : (kind ≡ up) × (q ≡ x)). hears x l y.1 (t.turn.takes-up y.0)) (still up x h)
  own_holds x l d (inr (inl h)) = inr (inl (kept down p x d h))
  own_holds x l d (inr (inr h)) = holds_on x l d h

  -- ---- others

  others_held : (x a : ℕ) → (x ≡ p → ⊥) → (a ≡ p → ⊥) → Held anc n s x a → Held anc n s' x a
  others_held x a dx da (inl h) = inl (kept up x a da h)
  others_held x a dx da (inr (inl h)) = inr (inl (kept down a x dx h))
  others_held x a dx da (inr (inr h)) =
      inr (inr (owes_on anc n (Flies s ask a x) (Flies s' ask a x) a (s'.rank a) x (kept ask a x dx) (subst (λ (r : Rank). Owes anc n (Flies s ask a x) a r x) (sym (t.others a da)) h)))

  pub held' : (x a : ℕ) → Lives n s' x → (s'.rank x).phase ≡ waiting → parent anc (s'.rank x).marks x ≡ a → Lives n s' a → Held anc n s' x a
  held' x a lx w e la = go (eq_or_ne x p) (eq_or_ne a p)
    where
      old : (x ≡ p → ⊥) → Held anc n s x a
      old d = inv.held x a (alive x lx) (subst (λ (r : Rank). r.phase ≡ waiting) (t.others x d) w) (subst (λ (r : Rank). parent anc r.marks x ≡ a) (t.others x d) e) (alive a la)

      go : (x ≡ p) ⊎ (x ≡ p → ⊥) → (a ≡ p) ⊎ (a ≡ p → ⊥) → Held anc n s' x a
      go (inl y) z =
          subst (λ (b : ℕ). Held anc n s' b a) (sym y)
          (own_held a (subst (Lives n s') y lx) (subst (λ (b : ℕ). (s'.rank b).phase ≡ waiting) y w) (subst (λ (b : ℕ). parent anc (s'.rank b).marks b ≡ a) y e) la)
      go (inr y) (inl z) = subst (Held anc n s' x) (sym z) (own_holds x lx y (subst (Held anc n s x) z (old y)))
      go (inr y) (inr z) = others_held x a y z (old y)

  -- ---- this rank polls c

  calm_gathers : Calm anc n s → (s'.rank p).phase ≡ gathering → Calm anc n s'
  calm_gathers c e = lasts c (λ z. omega arith)

  polls_on : (c : ℕ) → (c ≡ p → ⊥) → (s'.rank p).phase ≡ gathering → Polled anc n s p c → Polled anc n s' p c
  polls_on c d e (inl h) = inl (calm_gathers h e)
  polls_on c d e (inr (inl h)) = inr (inl (kept ask p c d h))
  polls_on c d e (inr (inr (inl h))) = inr (inr (inl (subst (λ (r : Rank). InDebt anc n r p) (sym (t.others c d)) h)))
  polls_on c d e (inr (inr (inr h))) =
      ⊎_elim (λ (y : Flies s' down c p). inr (inr (inr y))) (λ (y : (kind ≡ down) × (q ≡ c)). absurd ((t.turn.takes-down y.0).0 e)) (still down c h)

  own_polls : (c : ℕ) → (c ≡ p → ⊥) → Lives n s' p → (s'.rank p).phase ≡ gathering → NoParent anc p (s'.rank p) → Lives n s' c → Leads anc n p (s'.rank p) c → Polled anc n s' p c
  own_polls c d lp e z lc k = go (t.turn.was_gathering e)
    where
      gained : (s.rank p).phase ≡ gathering → NoParent anc p (s.rank p)
          → ((s'.rank p).phase ≡ decided) ⊎ (((s'.rank p).phase ≡ gathering) × ((b : ℕ) → Leads anc n p (s'.rank p) b → Leads anc n p (s.rank p) b ⊎ Says f g ask b)) → Polled anc n s' p c
      gained y v (inl h) = absurd (omega arith)
      gained y v (inr h) =
          ⊎_elim (λ (b : Leads anc n p (s.rank p) c). polls_on c d e (inv.polled p c (alive p lp) y v (alive c lc) b)) (λ (b : Says f g ask c). inr (inl (t.joins ask c b))) (h.1 c k)

      gathers : (s.rank p).phase ≡ gathering → (parent anc (s.rank p).marks p ≡ none) ⊎ (parent anc (s.rank p).marks p ≡ none → ⊥) → Polled anc n s' p c
      gathers y (inl v) = gained y v (t.turn.goes_on y v)
      gathers y (inr v) = inl (calm_gathers (inv.new_calm p (alive p lp, inr (y, v))) e)

      go : ((s.rank p).phase ≡ outside) ⊎ (((s.rank p).phase ≡ gathering) ⊎ (((s.rank p).phase ≡ waiting) × Polls anc n p (s'.rank p) f g)) → Polled anc n s' p c
      go (inl y) = inl (calm_gathers (inv.new_calm p (alive p lp, inl y)) e)
      go (inr (inl y)) = gathers y (eq_or_ne (parent anc (s.rank p).marks p) none)
      go (inr (inr y)) = inr (inl (t.joins ask c (y.1.each c k)))

  -- ---- this rank is polled by a

  -- where a lives, and is another root, this rank does not decide out of the calm
  below_root : (a : ℕ) → Lives n s' a → a < p → Calm anc n s → Undecided
  below_root a la l c e =
      let o = t.own in
      clash (has (s'.rank p).marks a) (no_parent_all anc (s'.rank p).marks p (omega arith) (only-root anc tree chain n small s s' p kind q f g t true' inv c e).0 a l) (free a la)

  paid : (a : ℕ) → Flies s' down p a ⊎ InDebt anc n (s'.rank p) a → Polled anc n s' a p
  paid a (inl h) = inr (inr (inr h))
  paid a (inr h) = inr (inr (inl h))

  own_polled : (a : ℕ) → (a ≡ p → ⊥) → Lives n s' a → a < p → Polled anc n s a p → Polled anc n s' a p
  own_polled a d la l (inl h) = inl (lasts h (below_root a la l h))
  own_polled a d la l (inr (inl h)) = go (still ask a h)
    where
      answers : q ≡ a → Says f g down q ⊎ (((s.rank p).phase ≡ decided → ⊥) × (has (s'.rank p).owed q ≡ true)) → Polled anc n s' a p
      answers e (inl y) = inr (inr (inr (subst (Flies s' down p) e (t.joins down q y))))
      answers e (inr y) = paid a (repaid a la y.0 (subst (λ (z : ℕ). has (s'.rank p).owed z ≡ true) e y.1))

      go : Flies s' ask a p ⊎ ((kind ≡ ask) × (q ≡ a)) → Polled anc n s' a p
      go (inl y) = inr (inl y)
      go (inr y) = answers y.1 (t.turn.takes-ask y.0)
  own_polled a d la l (inr (inr (inl h))) = paid a (repaid a la h.0 (t.turn.owed_stays a h.1))
  own_polled a d la l (inr (inr (inr h))) = inr (inr (inr (kept down p a d h)))

  -- ---- others

  -- of two roots that live, each knows the other dead if it is smaller
  no_second_root : (a : ℕ) → Lives n s' a → (a ≡ p → ⊥) → NoParent anc a (s'.rank a) → Calm anc n s → Undecided
  no_second_root a la d z c e = go (lt-or-le a p)
    where
      lp : Lives n s' p
      lp = own_lives t

      go : (a < p) ⊎ (p ≤ a) → ⊥
      go (inl l) = below_root a la l c e
      go (inr l) =
          let o = la.0 in
          let y : has s'.dead p ≡ true = true' a p la.0 (no_parent_all anc (s'.rank a).marks a (omega arith) z p (omega arith)) in
          clash (has s'.dead p) y lp.1

  others_polled : (a c : ℕ) → (a ≡ p → ⊥) → (c ≡ p → ⊥) → Lives n s' a → NoParent anc a (s'.rank a) → Polled anc n s a c → Polled anc n s' a c
  others_polled a c da dc la z (inl h) = inl (lasts h (no_second_root a la da z h))
  others_polled a c da dc la z (inr (inl h)) = inr (inl (kept ask a c dc h))
  others_polled a c da dc la z (inr (inr (inl h))) = inr (inr (inl (subst (λ (r : Rank). InDebt anc n r a) (sym (t.others c dc)) h)))
  others_polled a c da dc la z (inr (inr (inr h))) = inr (inr (inr (kept down c a da h)))

  pub polled' : (a c : ℕ) → Lives n s' a → (s'.rank a).phase ≡ gathering → NoParent anc a (s'.rank a) → Lives n s' c → Leads anc n a (s'.rank a) c → Polled anc n s' a c
  polled' a c la e z lc k = go (eq_or_ne a p) (eq_or_ne c p)
    where
      a<c : a < c
      a<c = let h = la.0 in child_gt anc n (s'.rank a).marks a c (omega arith) (child_o anc n (s'.rank a).marks a c k)

      old : (a ≡ p → ⊥) → Polled anc n s a c
      old d = inv.polled a c (alive a la) (subst (λ (r : Rank). r.phase ≡ gathering) (t.others a d) e) (subst (NoParent anc a) (t.others a d) z) (alive c lc) (subst (λ (r : Rank). Leads anc n a r c) (t.others a d) k)

      go : (a ≡ p) ⊎ (a ≡ p → ⊥) → (c ≡ p) ⊎ (c ≡ p → ⊥) → Polled anc n s' a c
      go (inl y) v =
          subst (λ (b : ℕ). Polled anc n s' b c) (sym y)
          (own_polls c (λ x. let l = a<c in omega arith) (subst (Lives n s') y la) (subst (λ (b : ℕ). (s'.rank b).phase ≡ gathering) y e) (subst (λ (b : ℕ). NoParent anc b (s'.rank b)) y z) lc (subst (λ (b : ℕ). Leads anc n b (s'.rank b) c) y k))
      go (inr y) (inl v) = subst (Polled anc n s' a) (sym v) (own_polled a y la (subst (λ (b : ℕ). a < b) v a<c) (subst (Polled anc n s a) v (old y)))
      go (inr y) (inr v) = others_polled a c y v la z (old y)
