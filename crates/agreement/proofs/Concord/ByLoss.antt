-- A death and the loss of a message with a dead end keep the invariant of one result: with more ranks dead more may lead and tell, fewer are
-- covered, and fewer verdicts are left. Assumes nothing.
use mathlib.Core.Path.{◌≡◌, sym, subst}
use mathlib.Core.Bool.{true, false}
use mathlib.Core.Logic.{inl, inr}
use Prim.Native.Nat.{ℕ}
use Rattle.sets.specs.Sets.{has}
use Rattle.tree.proofs.Kin.{MayLead}
use Rattle.tree.proofs.Laws.Parents.{leads_more}
use Rattle.rank.specs.declared.Rank.{Rank}
use Rattle.rank.specs.Words.{decided, up, down}
use Rattle.rank.specs.declared.Triple.{Triple}
use Rattle.group.proofs.Scenes.{Scene}
use Rattle.group.proofs.Moves.{ByLoss}
use Rattle.agreement.proofs.Living.{faded}
use Rattle.agreement.proofs.Concord.Holders.{faded_holder}
use Rattle.agreement.proofs.Concord.Invariant.{MayTell, Arrives, Answers, Covers, Open, Verdict, Concord}

module _ (anc : ℕ → ℕ) (n : ℕ) (s s' : Scene) (t : ByLoss s s') (inv : Concord anc n s) where
  leads_on : (x b : ℕ) → MayLead anc s.dead x b → MayLead anc s'.dead x b
  leads_on x b h = leads_more anc s.dead s'.dead x b t.dead_stays h

  tells_on : (b x : ℕ) → MayTell anc s.dead b x → MayTell anc s'.dead b x
  tells_on b x (inl h) = inl (leads_on x b h)
  tells_on b x (inr h) = inr (λ a l. t.dead_stays a (h a l))

  was_covered : (y x : ℕ) → Covers anc n s' y x → Covers anc n s y x
  was_covered y x (c, d, a, k) = (c, d, go a, k)
    where
      go : Answers anc n s' y c → Answers anc n s y c
      go (inl e) = inl e
      go (inr (inl h)) = inr (inl (subst (λ (r : Rank). has r.heard c ≡ true) (t.ranks_stay y) h))
      go (inr (inr h)) = inr (inr (t.was up c y h))

  arrived : (b x : ℕ) (w : Triple) → Arrives anc n s' b x w → Arrives anc n s b x w
  arrived b x w (h, l, m) = (t.was_carried down b x w h, faded t x l, subst (λ (r : Rank). has r.marks b ≡ false) (t.ranks_stay x) m)

  was_decided : (x : ℕ) → (s'.rank x).phase ≡ decided → (s.rank x).phase ≡ decided
  was_decided x e = subst (λ (r : Rank). r.phase ≡ decided) (t.ranks_stay x) e

  still_open : (x : ℕ) → Open anc n s x → Open anc n s' x
  still_open x o = (λ e. o.0 (was_decided x e), λ b w a. o.1 b w (arrived b x w a))

  was_verdict : (w : Triple) → Verdict anc n s' w → Verdict anc n s w
  was_verdict w (inl (i, l, e, r)) = inl (i, faded_holder t i l, was_decided i e, subst (λ (y : Rank). y.result ≡ w) (t.ranks_stay i) r)
  was_verdict w (inr (b, x, a)) = inr (b, x, arrived b x w a)

  pub by_loss_agrees : Concord anc n s'
  by_loss_agrees = record {
    report_leads = λ x b h. leads_on x b (inv.report_leads x b (t.was up x b h));
    heard_leads = λ x b l h. leads_on x b (inv.heard_leads x b l (subst (λ (r : Rank). has r.heard x ≡ true) (t.ranks_stay b) h));
    owed_tells = λ x b l h. tells_on b x (inv.owed_tells x b l (subst (λ (r : Rank). has r.owed x ≡ true) (t.ranks_stay b) h));
    down-tells = λ b x h. let k = inv.down-tells b x (t.was down b x h) in (k.0, subst (λ (r : Rank). r.phase ≡ decided) (sym (t.ranks_stay b)) k.1, tells_on b x k.2);
    covered_open = λ y x l d c b. still_open x (inv.covered_open y x (faded t y l) (λ e. d (subst (λ (r : Rank). r.phase ≡ decided) (sym (t.ranks_stay y)) e)) (was_covered y x c) b);
    one_result = λ w w' h h'. inv.one_result w w' (was_verdict w h) (was_verdict w' h');
  }
