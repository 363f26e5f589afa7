-- A death and the loss of a message keep the invariant: records stay, and fewer ranks live, so that fewer must be in a set. Assumes nothing.
use mathlib.Core.Path.{◌≡◌, refl, sym, ap, subst}
use mathlib.Core.Logic.{◌⊎◌, inl, inr}
use Prim.Native.Nat.{ℕ}
use Rattle.tree.proofs.Kin.{Under}
use Rattle.rank.specs.declared.Rank.{Rank}
use Rattle.rank.specs.Words.{outside, waiting, decided, up, down}
use Rattle.rank.specs.declared.Triple.{Triple}
use Rattle.group.proofs.Scenes.{Scene}
use Rattle.group.proofs.Moves.{ByLoss}
use Rattle.agreement.proofs.Living.{faded}
use Rattle.agreement.proofs.Votes.Invariant.{Entered, Concludes, HeardOf, Own, Votes}
use Rattle.agreement.proofs.Votes.Together.{combines_on, Stands, concludes_on}

module _ (anc : ℕ → ℕ) (n : ℕ) (s s' : Scene) (t : ByLoss s s') (proposals proposals' : ℕ → Triple)
    (keeps : (i : ℕ) → Entered n s i → proposals' i ≡ proposals i) (inv : Votes anc n proposals s) where
  stays_in : (i : ℕ) → Entered n s i → Entered n s' i
  stays_in i e = (e.0, λ h. e.1 (subst (λ (r : Rank). r.phase ≡ outside) (t.ranks_stay i) h))

  was_own : (p x : ℕ) → Own anc n s' p x → Own anc n s p x
  was_own p x (inl h) = inl (h.0, subst (λ (r : Rank). r.phase ≡ outside → ⊥) (t.ranks_stay p) h.1)
  was_own p x (inr h) = inr (faded t x h.0, subst (λ (r : Rank). HeardOf anc n r x ⊎ ((r.phase ≡ waiting) × Under anc p x)) (t.ranks_stay p) h.1)

  later : (w : Triple) → Concludes n proposals s w → Concludes n proposals' s' w
  later w = concludes_on keeps stays_in (faded t) (λ i l d. subst (Stands (s.rank i)) (sym (t.ranks_stay i)) (record { still-decided = d; result_stays = refl; triple_stays = refl; marks_grow = λ k h. h }))

  pub by_loss_votes : Votes anc n proposals' s'
  by_loss_votes = record {
    own-triple = λ p l. combines_on keeps stays_in (was_own p) (ap (λ (r : Rank). r.triple) (t.ranks_stay p)) (inv.own-triple p l);
    reports = λ q b w h. combines_on keeps stays_in (λ x m. (faded t x m.0, m.1)) refl (inv.reports q b w (t.was_carried up q b w h));
    results = λ p l e. later (s'.rank p).result (subst (λ (r : Rank). Concludes n proposals s r.result) (sym (t.ranks_stay p)) (inv.results p l (subst (λ (r : Rank). r.phase ≡ decided) (t.ranks_stay p) e)));
    answers = λ b x w h. later w (inv.answers b x w (t.was_carried down b x w h));
  }
