-- A rank's turn keeps the invariant of one result. A report goes to the one living parent, which has sent no DOWN; a rank decides only where
-- nobody living and undecided covers it; whoever it may tell is covered by nobody either; and a root that decides has covered all that
-- live. Over any ancestor sets with their chain law. Assumes nothing.
use mathlib.Core.Path.{◌≡◌, refl, sym, subst, ◌∙◌}
use mathlib.Core.Bool.{true, false}
use mathlib.Core.Logic.{◌⊎◌, inl, inr, ⊎_elim}
use Prim.Native.Nat.{ℕ, ◌≤◌, ◌<◌}
use native.Mathlib.Omega.{arith}
use Rattle.sets.specs.Sets.{has}
use Rattle.sets.proofs.Laws.Bools.{clash, fails, eq_or_ne}
use Rattle.tree.specs.Relations.{Ancestry, Chained}
use Rattle.tree.proofs.Kin.{Under, MayLead, UnderAChild}
use Rattle.tree.proofs.Laws.Parents.{no_parent_all}
use Rattle.tree.proofs.Laws.Children.{under_le, child_above_all}
use Rattle.rank.specs.declared.Rank.{Rank}
use Rattle.rank.specs.declared.Send.{Send}
use Rattle.rank.specs.Words.{waiting, decided, up, down}
use Rattle.rank.specs.declared.Triple.{Triple}
use Rattle.rank.proofs.Turn.{Says, NoParent}
use Rattle.rank.proofs.Speech.{SaysTriple, Remains, Obeys, Settles}
use Rattle.group.proofs.Scenes.{Scene, Flies}
use Rattle.group.proofs.Moves.{ByRank, ByRankInTriples}
use Rattle.agreement.proofs.Living.{Lives, Truthful, lived, own_lives, unmarked, taken}
use Rattle.agreement.proofs.Concord.Holders.{holder_in, lives_holds, held}
use Rattle.agreement.proofs.Concord.Invariant.{MayTell, Arrives, Answers, Covers, Open, Verdict, Concord}
use Rattle.agreement.proofs.Concord.Leading.{one_parent, teller_covered}
use Rattle.agreement.proofs.Concord.Linking.{own-marks, own-parent, report_leads', heard_leads', owed_tells', own-tells, decided_stays, teller_decides, down_tells'}

module _ (anc : ℕ → ℕ) (tree : Ancestry anc) (chain : Chained anc) (n : ℕ) (small : n ≤ 64) (Entry : ℕ → Triple → Type 0) (s s' : Scene) (p kind q : ℕ) (v : Triple) (f g : Send)
    (t : ByRank anc n s s' p kind q f g) (u : ByRankInTriples anc n Entry s s' p kind q v f g) (true' : Truthful n s') (inv : Concord anc n s) where
  -- ---- who is covered

  -- a cover grows only by this rank's report
  was_covered : (y x : ℕ) → Covers anc n s' y x → Covers anc n s y x ⊎ (Says f g up y × Under anc p x)
  was_covered y x (c, d, a, k) = go a
    where
      own : (y ≡ p) → (has (s.rank p).heard c ≡ true) ⊎ ((kind ≡ up) × (q ≡ c)) → Answers anc n s y c
      own e (inl h) = inr (inl (subst (λ (z : ℕ). has (s.rank z).heard c ≡ true) (sym e) h))
      own e (inr (k', h)) = inr (inr (subst (λ (z : ℕ). Flies s up c z) (sym e) (subst (λ (z : ℕ). Flies s up z p) h (taken t up (omega arith) k'))))

      heard : has (s'.rank y).heard c ≡ true → (y ≡ p) ⊎ (y ≡ p → ⊥) → Answers anc n s y c
      heard h (inl e) = own e (t.turn.heard_new c (subst (λ (z : ℕ). has (s'.rank z).heard c ≡ true) e h))
      heard h (inr o) = inr (inl (subst (λ (r : Rank). has r.heard c ≡ true) (t.others y o) h))

      reports : Flies s up c y ⊎ ((c ≡ p) × Says f g up y) → Covers anc n s y x ⊎ (Says f g up y × Under anc p x)
      reports (inl h) = inl (c, d, inr (inr h), k)
      reports (inr (e, h)) = inr (h, subst (λ (z : ℕ). Under anc z x) e k)

      go : Answers anc n s' y c → Covers anc n s y x ⊎ (Says f g up y × Under anc p x)
      go (inl e) = inl (c, d, inl e, k)
      go (inr (inl h)) = inl (c, d, heard h (eq_or_ne y p), k)
      go (inr (inr h)) = reports (t.was up c y h)

  -- whoever answers to y is y, or may have y as its parent
  answerer : (y c : ℕ) → y < n → Answers anc n s y c → (c ≡ y) ⊎ MayLead anc s.dead c y
  answerer y c l (inl e) = inl e
  answerer y c l (inr (inl h)) = inr (inv.heard_leads c y l h)
  answerer y c l (inr (inr h)) = inr (inv.report_leads c y h)

  -- a rank covers only larger ones
  cover_above : (y x : ℕ) → y < n → Covers anc n s y x → y < x
  cover_above y x l (c, d, a, k) = go (answerer y c l a)
    where
      go : (c ≡ y) ⊎ MayLead anc s.dead c y → y < x
      go (inl e) = let h : c ≤ x = under_le anc tree c x k in omega arith
      go (inr m) = let h : c ≤ x = under_le anc tree c x k in let o : y < c = m.smaller in omega arith

  -- ---- a rank decides only where nobody living and undecided covers it

  root-low : NoParent anc p (s'.rank p) → (k : ℕ) → k < p → has s.dead k ≡ true
  root-low r k l = let o = t.own in own-marks tree small t u true' inv k (no_parent_all anc (s'.rank p).marks p (omega arith) r k l)

  -- the DOWN that it took arrived
  arrival : kind ≡ down → Arrives anc n s q p v
  arrival k = (subst (λ (j : ℕ). s.Carries j q p v) k (u.took (λ z. omega arith)), (t.own, t.lives), t.known (λ z. omega arith))

  decides_uncovered : (y : ℕ) → Lives n s y → ((s.rank y).phase ≡ decided → ⊥) → Covers anc n s y p → (s'.rank p).phase ≡ decided → ⊥
  decides_uncovered y l d c e = go (u.speech.result_from e)
    where
      o : Open anc n s p
      o = inv.covered_open y p l d c t.own

      go : Remains (s.rank p) (s'.rank p) ⊎ (Obeys kind v (s.rank p) (s'.rank p) ⊎ Settles anc n p (s.rank p) (s'.rank p)) → ⊥
      go (inl h) = o.0 h.was_decided
      go (inr (inl h)) = o.1 q v (arrival h.took_down)
      go (inr (inr h)) = clash (has s.dead y) (root-low h.root y (cover_above y p l.0 c)) l.1

  -- a DOWN that arrives arrived before, or this rank sends it
  arrived : (b x : ℕ) (w : Triple) → Arrives anc n s' b x w → Arrives anc n s b x w ⊎ ((b ≡ p) × SaysTriple f g down w x)
  arrived b x w (h, l, m) = go (u.was down b x w h)
    where
      free : (x ≡ p) ⊎ (x ≡ p → ⊥) → has (s.rank x).marks b ≡ false
      free (inl e) = fails (has (s.rank x).marks b) (λ k. clash (has (s'.rank p).marks b) (t.turn.marks_grow b (subst (λ (z : ℕ). has (s.rank z).marks b ≡ true) e k)) (subst (λ (z : ℕ). has (s'.rank z).marks b ≡ false) e m))
      free (inr d) = subst (λ (r : Rank). has r.marks b ≡ false) (t.others x d) m

      go : s.Carries down b x w ⊎ ((b ≡ p) × SaysTriple f g down w x) → Arrives anc n s b x w ⊎ ((b ≡ p) × SaysTriple f g down w x)
      go (inl e) = inl (e, lived t x l, free (eq_or_ne x p))
      go (inr e) = inr e

  -- and it tells nobody whom another living undecided rank covers
  tells_uncovered : (y x : ℕ) (w : Triple) → Lives n s y → ((s'.rank y).phase ≡ decided → ⊥) → Covers anc n s y x → SaysTriple f g down w x → ⊥
  tells_uncovered y x w l d (c, o, a, k) h =
      let e : (s'.rank p).phase ≡ decided = teller_decides tree small t u true' inv w x h in
      let other : y ≡ p → ⊥ = λ z. d (subst (λ (j : ℕ). (s'.rank j).phase ≡ decided) (sym z) e) in
      decides_uncovered y l (λ z. d (decided_stays tree small t u true' inv y z))
      (c, λ z. other (sym z), a, teller_covered anc tree chain s.dead y c x p l.1 t.lives o k other (answerer y c l.0 a) (own-tells tree small t u true' inv w x h)) e

  -- ---- whoever is covered is open

  still_open : (x : ℕ) → Open anc n s x → (x ≡ p → (s'.rank p).phase ≡ decided → ⊥) → ((w : Triple) → SaysTriple f g down w x → ⊥) → Open anc n s' x
  still_open x o d h = (λ e. go e (eq_or_ne x p), λ b w a. ⊎_elim (λ (z : Arrives anc n s b x w). o.1 b w z) (λ (z : (b ≡ p) × SaysTriple f g down w x). h w z.1) (arrived b x w a))
    where
      go : (s'.rank x).phase ≡ decided → (x ≡ p) ⊎ (x ≡ p → ⊥) → ⊥
      go e (inl z) = d z (subst (λ (j : ℕ). (s'.rank j).phase ≡ decided) z e)
      go e (inr z) = o.0 (subst (λ (r : Rank). r.phase ≡ decided) (t.others x z) e)

  -- this rank reports to y: y is its one living parent, and has sent it no DOWN
  module _ (y : ℕ) (l : Lives n s y) (d : (s.rank y).phase ≡ decided → ⊥) (h : Says f g up y) where
    waits : (s'.rank p).phase ≡ decided → ⊥
    waits e = let w : (s'.rank p).phase ≡ waiting = t.turn.up_waits y h in omega arith

    no_down : (b : ℕ) (w : Triple) → Arrives anc n s' b p w → ⊥
    no_down b w a = go (arrived b p w a)
      where
        from : ((s.rank b).phase ≡ decided) → MayTell anc s.dead b p → ⊥
        from e (inl m) = d (subst (λ (z : ℕ). (s.rank z).phase ≡ decided) (sym (one_parent anc (s'.rank p).marks s.dead p y b (own-parent tree small t u true' inv y h) l.1 a.2 m)) e)
        from e (inr m) = clash (has s.dead y) (m y (own-parent tree small t u true' inv y h).smaller) l.1

        go : Arrives anc n s b p w ⊎ ((b ≡ p) × SaysTriple f g down w p) → ⊥
        go (inl z) = let k = inv.down-tells b p (w, z.0) in from k.1 k.2
        go (inr z) = waits (teller_decides tree small t u true' inv w p z.1)

    reported_open : (x : ℕ) → Under anc p x → x < n → Open anc n s' x
    reported_open x k b = go (eq_or_ne x p)
      where
        go : (x ≡ p) ⊎ (x ≡ p → ⊥) → Open anc n s' x
        go (inl e) = subst (Open anc n s') (sym e) (waits, no_down)
        go (inr o) = still_open x (inv.covered_open p x (t.own, t.lives) (λ e. waits (t.turn.final e)) (p, o, inl refl, k) b) (λ z. absurd (o z)) (λ w z. waits (teller_decides tree small t u true' inv w x z))

  covered_open' : (y x : ℕ) → Lives n s' y → ((s'.rank y).phase ≡ decided → ⊥) → Covers anc n s' y x → x < n → Open anc n s' x
  covered_open' y x l d c b = go (was_covered y x c)
    where
      ly : Lives n s y
      ly = lived t y l

      dy : (s.rank y).phase ≡ decided → ⊥
      dy e = d (decided_stays tree small t u true' inv y e)

      go : Covers anc n s y x ⊎ (Says f g up y × Under anc p x) → Open anc n s' x
      go (inl k) = still_open x (inv.covered_open y x ly dy k b) (λ e. decides_uncovered y ly dy (subst (Covers anc n s y) e k)) (λ w h. tells_uncovered y x w ly d k h)
      go (inr (h, k)) = reported_open y ly dy h x k b

  -- ---- one result

  -- where a root decides its word, everyone else that it has not marked was open
  all_open : Settles anc n p (s.rank p) (s'.rank p) → (x : ℕ) → x < n → has (s'.rank p).marks x ≡ false → (x ≡ p → ⊥) → Open anc n s x
  all_open z x l m o = inv.covered_open p x (t.own, t.lives) z.was_undecided (go (was_covered p x (k.child, o, inr (inl (z.complete k.child k.is_child)), k.under))) l
    where
      k : UnderAChild anc n (s'.rank p).marks p x
      k = let b = t.own in child_above_all anc tree n (s'.rank p).marks p x (omega arith) z.root (unmarked t true' p (own_lives t)) l m o

      go : Covers anc n s p x ⊎ (Says f g up p × Under anc p x) → Covers anc n s p x
      go (inl c) = c
      go (inr c) = (p, o, inl refl, c.1)

  settled-alone : Settles anc n p (s.rank p) (s'.rank p) → (w : Triple) → Verdict anc n s' w → w ≡ (s'.rank p).result
  settled-alone z w (inl (i, l, e, r)) = go (eq_or_ne i p)
    where
      go : (i ≡ p) ⊎ (i ≡ p → ⊥) → w ≡ (s'.rank p).result
      go (inl k) = subst (λ (j : ℕ). w ≡ (s'.rank j).result) k (sym r)
      go (inr k) = absurd ((all_open z i (holder_in n s' i l) (unmarked t true' i l) k).0 (subst (λ (y : Rank). y.phase ≡ decided) (t.others i k) e))
  settled-alone z w (inr (b, x, a)) = go (arrived b x w a) (eq_or_ne x p)
    where
      to_root : (x ≡ p) → s.Carries down b x w → ⊥
      to_root e c =
          let k = inv.down-tells b x (w, c) in
          (all_open z b k.0 (subst (λ (j : ℕ). has (s'.rank j).marks b ≡ false) e a.2) (λ y. z.was_undecided (subst (λ (j : ℕ). (s.rank j).phase ≡ decided) y k.1))).0 k.1

      go : Arrives anc n s b x w ⊎ ((b ≡ p) × SaysTriple f g down w x) → (x ≡ p) ⊎ (x ≡ p → ⊥) → w ≡ (s'.rank p).result
      go (inl c) (inl e) = absurd (to_root e c.0)
      go (inl c) (inr o) = absurd ((all_open z x a.1.0 (unmarked t true' x a.1) o).1 b w c)
      go (inr c) o = (u.speech.down_to w x c.1).1

  -- any other result was a verdict before
  source : (s'.rank p).phase ≡ decided → Verdict anc n s (s'.rank p).result ⊎ Settles anc n p (s.rank p) (s'.rank p)
  source e = go (u.speech.result_from e)
    where
      go : Remains (s.rank p) (s'.rank p) ⊎ (Obeys kind v (s.rank p) (s'.rank p) ⊎ Settles anc n p (s.rank p) (s'.rank p)) → Verdict anc n s (s'.rank p).result ⊎ Settles anc n p (s.rank p) (s'.rank p)
      go (inl h) = inl (inl (p, lives_holds n s p (t.own, t.lives), h.was_decided, sym h.result_is))
      go (inr (inl h)) = inl (subst (Verdict anc n s) (sym h.result_is) (inr (q, p, arrival h.took_down)))
      go (inr (inr h)) = inr h

  was_verdict : ((s'.rank p).phase ≡ decided → Verdict anc n s (s'.rank p).result) → (w : Triple) → Verdict anc n s' w → Verdict anc n s w
  was_verdict own w (inl (i, l, e, r)) = go (eq_or_ne i p)
    where
      go : (i ≡ p) ⊎ (i ≡ p → ⊥) → Verdict anc n s w
      go (inl k) = subst (Verdict anc n s) (subst (λ (j : ℕ). (s'.rank j).result ≡ w) k r) (own (subst (λ (j : ℕ). (s'.rank j).phase ≡ decided) k e))
      go (inr k) = inl (i, held t i l, subst (λ (y : Rank). y.phase ≡ decided) (t.others i k) e, subst (λ (y : Rank). y.result ≡ w) (t.others i k) r)
  was_verdict own w (inr (b, x, a)) = go (arrived b x w a)
    where
      go : Arrives anc n s b x w ⊎ ((b ≡ p) × SaysTriple f g down w x) → Verdict anc n s w
      go (inl c) = inr (b, x, c)
      go (inr c) = subst (Verdict anc n s) (sym (u.speech.down_to w x c.1).1) (own (teller_decides tree small t u true' inv w x c.1))

  one_result' : (w w' : Triple) → Verdict anc n s' w → Verdict anc n s' w' → w ≡ w'
  one_result' w w' h h' = go (eq_or_ne (s'.rank p).phase decided)
    where
      old : ((s'.rank p).phase ≡ decided → Verdict anc n s (s'.rank p).result) → w ≡ w'
      old own = inv.one_result w w' (was_verdict own w h) (was_verdict own w' h')

      go : ((s'.rank p).phase ≡ decided) ⊎ ((s'.rank p).phase ≡ decided → ⊥) → w ≡ w'
      go (inl e) = ⊎_elim (λ (k : Verdict anc n s (s'.rank p).result). old (λ z. k)) (λ (k : Settles anc n p (s.rank p) (s'.rank p)). settled-alone k w h ∙ sym (settled-alone k w' h')) (source e)
      go (inr d) = old (λ e. absurd (d e))

  pub turn_agrees : Concord anc n s'
  turn_agrees = record {
    report_leads = λ x b h. subst (λ (d : ℕ). MayLead anc d x b) (sym t.dead_stays) (report_leads' tree small t u true' inv x b h);
    heard_leads = λ x b l h. subst (λ (d : ℕ). MayLead anc d x b) (sym t.dead_stays) (heard_leads' tree small t u true' inv x b l h);
    owed_tells = λ x b l h. subst (λ (d : ℕ). MayTell anc d b x) (sym t.dead_stays) (owed_tells' tree small t u true' inv x b l h);
    down-tells = λ b x h. let k = down_tells' tree small t u true' inv b x h in (k.0, k.1, subst (λ (d : ℕ). MayTell anc d b x) (sym t.dead_stays) k.2);
    covered_open = covered_open';
    one_result = one_result';
  }
