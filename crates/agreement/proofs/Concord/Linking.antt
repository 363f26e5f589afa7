-- A rank's turn keeps what the invariant says of links: a report goes to the parent, whoever is heard or owed an answer sent a message that was
-- allowed, and a DOWN goes from a decided rank to one that it may tell. Over any ancestor sets. Assumes nothing.
use mathlib.Core.Path.{◌≡◌, sym, subst, ◌∙◌}
use mathlib.Core.Bool.{true}
use mathlib.Core.Logic.{◌⊎◌, inl, inr, ⊎_elim}
use Prim.Native.Nat.{ℕ, ◌≤◌, ◌<◌}
use native.Mathlib.Omega.{arith}
use Rattle.sets.specs.Sets.{has}
use Rattle.sets.proofs.Laws.Bools.{eq_or_ne}
use Rattle.tree.specs.Tree.{parent}
use Rattle.tree.specs.Relations.{Ancestry}
use Rattle.tree.proofs.Kin.{MayLead}
use Rattle.tree.proofs.Laws.Parents.{parent_leads, leads_more}
use Rattle.tree.proofs.Laws.Children.{child_o}
use Rattle.rank.specs.declared.Rank.{Rank}
use Rattle.rank.specs.declared.Send.{Send}
use Rattle.rank.specs.Words.{decided, up, down}
use Rattle.rank.specs.declared.Triple.{Triple}
use Rattle.rank.proofs.Turn.{Says, Leads}
use Rattle.rank.proofs.Speech.{SaysTriple, Sender}
use Rattle.rank.proofs.Laws.SettleSpeech.{some-triple, any_triple}
use Rattle.group.proofs.Scenes.{Scene, Flies}
use Rattle.group.proofs.Moves.{ByRank, ByRankInTriples}
use Rattle.agreement.proofs.Living.{Truthful, taken}
use Rattle.agreement.proofs.Concord.Invariant.{MayTell, Concord}

module _ {anc : ℕ → ℕ} {n : ℕ} {Entry : ℕ → Triple → Type 0} {s s' : Scene} {p kind q : ℕ} {v : Triple} {f g : Send} (tree : Ancestry anc) (small : n ≤ 64) (t : ByRank anc n s s' p kind q f g) (u : ByRankInTriples anc n Entry s s' p kind q v f g)
    (true' : Truthful n s') (inv : Concord anc n s) where
  pub own-marks : (k : ℕ) → has (s'.rank p).marks k ≡ true → has s.dead k ≡ true
  own-marks k h = subst (λ (w : ℕ). has w k ≡ true) t.dead_stays (true' p k t.own h)

  -- a report goes to the parent in the rank's own view
  pub own-parent : (b : ℕ) → Says f g up b → MayLead anc (s'.rank p).marks p b
  own-parent b h =
      let w = some-triple f g up b h in
      let z = u.speech.up_to w.0 b w.1 in
      subst (MayLead anc (s'.rank p).marks p) z.0 (parent_leads anc tree (s'.rank p).marks p (λ e. z.1 (sym z.0 ∙ e)))

  seen_leads : (x b : ℕ) → MayLead anc (s'.rank p).marks x b → MayLead anc s.dead x b
  seen_leads x b h = leads_more anc (s'.rank p).marks s.dead x b own-marks h

  pub report_leads' : (x b : ℕ) → Flies s' up x b → MayLead anc s.dead x b
  report_leads' x b h = go (t.was up x b h)
    where
      go : Flies s up x b ⊎ ((x ≡ p) × Says f g up b) → MayLead anc s.dead x b
      go (inl e) = inv.report_leads x b e
      go (inr (e, y)) = subst (λ (z : ℕ). MayLead anc s.dead z b) (sym e) (seen_leads p b (own-parent b y))

  taken_leads : kind ≡ up → MayLead anc s.dead q p
  taken_leads k = inv.report_leads q p (taken t up (omega arith) k)

  pub heard_leads' : (x b : ℕ) → b < n → has (s'.rank b).heard x ≡ true → MayLead anc s.dead x b
  heard_leads' x b l h = go (eq_or_ne b p)
    where
      own : (has (s.rank p).heard x ≡ true) ⊎ ((kind ≡ up) × (q ≡ x)) → MayLead anc s.dead x p
      own (inl y) = inv.heard_leads x p t.own y
      own (inr (k, e)) = subst (λ (z : ℕ). MayLead anc s.dead z p) e (taken_leads k)

      go : (b ≡ p) ⊎ (b ≡ p → ⊥) → MayLead anc s.dead x b
      go (inl e) = subst (MayLead anc s.dead x) (sym e) (own (t.turn.heard_new x (subst (λ (z : ℕ). has (s'.rank z).heard x ≡ true) e h)))
      go (inr d) = inv.heard_leads x b l (subst (λ (r : Rank). has r.heard x ≡ true) (t.others b d) h)

  -- the sender of an UP or an ASK may be answered
  sender-told : (x : ℕ) → Sender kind q x → MayTell anc s.dead p x
  sender-told x (inl k, e) = subst (MayTell anc s.dead p) e (inl (taken_leads k))
  sender-told x (inr k, e) = subst (MayTell anc s.dead p) e (inr (u.asker k))

  own_owed : (x : ℕ) → has (s'.rank p).owed x ≡ true → MayTell anc s.dead p x
  own_owed x h = ⊎_elim (λ (y : has (s.rank p).owed x ≡ true). inv.owed_tells x p t.own y) (sender-told x) (u.speech.owed_new x h)

  pub owed_tells' : (x b : ℕ) → b < n → has (s'.rank b).owed x ≡ true → MayTell anc s.dead b x
  owed_tells' x b l h = go (eq_or_ne b p)
    where
      go : (b ≡ p) ⊎ (b ≡ p → ⊥) → MayTell anc s.dead b x
      go (inl e) = subst (λ (z : ℕ). MayTell anc s.dead z x) (sym e) (own_owed x (subst (λ (z : ℕ). has (s'.rank z).owed x ≡ true) e h))
      go (inr d) = inv.owed_tells x b l (subst (λ (r : Rank). has r.owed x ≡ true) (t.others b d) h)

  pub own-tells : (w : Triple) (x : ℕ) → SaysTriple f g down w x → MayTell anc s.dead p x
  own-tells w x h = go (u.speech.down_to w x h).0
    where
      child : Leads anc n p (s'.rank p) x → MayLead anc s.dead x p
      child k =
          let e : parent anc (s'.rank p).marks x ≡ p = (child_o anc n (s'.rank p).marks p x k).linked in
          let l = t.own in
          seen_leads x p (subst (MayLead anc (s'.rank p).marks x) e (parent_leads anc tree (s'.rank p).marks x (λ z. omega arith)))

      go : Leads anc n p (s'.rank p) x ⊎ ((has (s'.rank p).owed x ≡ true) ⊎ Sender kind q x) → MayTell anc s.dead p x
      go (inl k) = inl (child k)
      go (inr (inl k)) = own_owed x k
      go (inr (inr k)) = sender-told x k

  -- ---- who has decided

  pub decided_stays : (b : ℕ) → (s.rank b).phase ≡ decided → (s'.rank b).phase ≡ decided
  decided_stays b e = go (eq_or_ne b p)
    where
      go : (b ≡ p) ⊎ (b ≡ p → ⊥) → (s'.rank b).phase ≡ decided
      go (inl y) = subst (λ (z : ℕ). (s'.rank z).phase ≡ decided) (sym y) (t.turn.final (subst (λ (z : ℕ). (s.rank z).phase ≡ decided) y e))
      go (inr d) = subst (λ (r : Rank). r.phase ≡ decided) (sym (t.others b d)) e

  pub teller_decides : (w : Triple) (x : ℕ) → SaysTriple f g down w x → (s'.rank p).phase ≡ decided
  teller_decides w x h = t.turn.down-decided x (any_triple f g down w x h)

  pub down_tells' : (b x : ℕ) → Flies s' down b x → (b < n) × ((s'.rank b).phase ≡ decided) × MayTell anc s.dead b x
  down_tells' b x h = go (t.was down b x h)
    where
      go : Flies s down b x ⊎ ((b ≡ p) × Says f g down x) → (b < n) × ((s'.rank b).phase ≡ decided) × MayTell anc s.dead b x
      go (inl e) = let k = inv.down-tells b x e in (k.0, decided_stays b k.1, k.2)
      go (inr (e, y)) =
          let w = some-triple f g down x y in
          subst (λ (z : ℕ). (z < n) × ((s'.rank z).phase ≡ decided) × MayTell anc s.dead z x) (sym e) (t.own, teller_decides w.0 x w.1, own-tells w.0 x w.1)
