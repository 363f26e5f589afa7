-- A death and the loss of a message with a dead end keep the invariant: records stay, fewer ranks live, and between living ranks every
-- message stays. Assumes nothing.
use mathlib.Core.Path.{◌≡◌, sym, subst}
use mathlib.Core.Bool.{true}
use mathlib.Core.Logic.{inl, inr}
use Prim.Native.Nat.{ℕ}
use Rattle.sets.specs.Sets.{has}
use Rattle.tree.specs.Tree.{parent}
use Rattle.rank.specs.declared.Rank.{Rank}
use Rattle.rank.specs.Words.{gathering, waiting, decided, up, down, ask}
use Rattle.rank.proofs.Turn.{NoParent, Leads}
use Rattle.group.proofs.Scenes.{Scene, Flies}
use Rattle.group.proofs.Moves.{ByLoss}
use Rattle.agreement.proofs.Living.{Lives, faded}
use Rattle.agreement.proofs.Progress.Invariant.{Early, New, NoneNew, Calm, Owes, owes_on, Held, InDebt, Polled, Progress}

module _ (anc : ℕ → ℕ) (n : ℕ) (s s' : Scene) (t : ByLoss s s') (inv : Progress anc n s) where
  was_new : (x : ℕ) → New anc n s' x → New anc n s x
  was_new x h = (faded t x h.0, subst (Early anc n x) (t.ranks_stay x) h.1)

  still-none : (c : ℕ) → NoneNew anc n s c → NoneNew anc n s' c
  still-none c h x u w = h x u (was_new x w)

  still_calm : Calm anc n s → Calm anc n s'
  still_calm c = (λ b l e. c.0 b l (subst (λ (r : Rank). r.phase ≡ decided) (t.ranks_stay b) e), λ b x h. c.1 b x (t.was down b x h))

  kept : (k b x : ℕ) → Lives n s' b → Lives n s' x → Flies s k b x → Flies s' k b x
  kept k b x lb lx h = t.stays k b x (faded t b lb).1 (faded t x lx).1 h

  still-held : (x a : ℕ) → Lives n s' x → Lives n s' a → Held anc n s x a → Held anc n s' x a
  still-held x a lx la (inl h) = inl (kept up x a lx la h)
  still-held x a lx la (inr (inl h)) = inr (inl (kept down a x la lx h))
  still-held x a lx la (inr (inr h)) = inr (inr (owes_on anc n (Flies s ask a x) (Flies s' ask a x) a (s'.rank a) x (kept ask a x la lx) (subst (λ (r : Rank). Owes anc n (Flies s ask a x) a r x) (sym (t.ranks_stay a)) h)))

  still_polled : (a c : ℕ) → Lives n s' a → Lives n s' c → Polled anc n s a c → Polled anc n s' a c
  still_polled a c la lc (inl h) = inl (still_calm h)
  still_polled a c la lc (inr (inl h)) = inr (inl (kept ask a c la lc h))
  still_polled a c la lc (inr (inr (inl h))) = inr (inr (inl (subst (λ (r : Rank). InDebt anc n r a) (sym (t.ranks_stay c)) h)))
  still_polled a c la lc (inr (inr (inr h))) = inr (inr (inr (kept down c a lc la h)))

  pub by_loss_keeps : Progress anc n s'
  by_loss_keeps = record {
    heard_old = λ p q l h. still-none q (inv.heard_old p q l (subst (λ (r : Rank). has r.heard q ≡ true) (t.ranks_stay p) h));
    report_old = λ q b h. still-none q (inv.report_old q b (t.was up q b h));
    waiting_old = λ p l e. still-none p (inv.waiting_old p l (subst (λ (r : Rank). r.phase ≡ waiting) (t.ranks_stay p) e));
    new_calm = λ x w. still_calm (inv.new_calm x (was_new x w));
    held = λ x a lx w e la.
        still-held x a lx la (inv.held x a (faded t x lx) (subst (λ (r : Rank). r.phase ≡ waiting) (t.ranks_stay x) w) (subst (λ (r : Rank). parent anc r.marks x ≡ a) (t.ranks_stay x) e) (faded t a la));
    polled = λ a c la e z lc k.
        still_polled a c la lc
        (inv.polled a c (faded t a la) (subst (λ (r : Rank). r.phase ≡ gathering) (t.ranks_stay a) e) (subst (NoParent anc a) (t.ranks_stay a) z) (faded t c lc) (subst (λ (r : Rank). Leads anc n a r c) (t.ranks_stay a) k));
  }
