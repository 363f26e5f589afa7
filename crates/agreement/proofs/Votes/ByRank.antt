-- A rank's turn keeps the invariant. Its triple gains what it proposes on Enter, or the report that it takes, or stays; a rank that begins to wait
-- has heard every child, and whoever lives under it stands under one of them; a root decides its own triple with its marks. Over any ancestor sets
-- with their chain law. Assumes nothing.
use mathlib.Core.Path.{◌≡◌, refl, sym, ap, subst, ◌∙◌}
use mathlib.Core.Bool.{true}
use mathlib.Core.Logic.{◌⊎◌, inl, inr}
use Prim.Native.Nat.{ℕ, ◌≤◌, ◌<◌}
use native.Mathlib.Omega.{arith}
use Rattle.sets.specs.Sets.{has}
use Rattle.sets.proofs.Laws.Bools.{eq_or_ne}
use Rattle.tree.specs.Relations.{Ancestry, Chained}
use Rattle.tree.proofs.Kin.{Under, UnderAChild}
use Rattle.tree.proofs.Laws.Children.{child_above, child_above_all}
use Rattle.tree.proofs.Laws.Parents.{no_parent_all}
use Rattle.rank.specs.declared.Rank.{Rank}
use Rattle.rank.specs.declared.Send.{Send}
use Rattle.rank.specs.Words.{outside, waiting, decided, up, down}
use Rattle.rank.specs.Triples.{combine}
use Rattle.rank.specs.declared.Triple.{Triple}
use Rattle.rank.proofs.Turn.{NoParent, Complete}
use Rattle.rank.proofs.Speech.{SaysTriple, Enters, Hears, Keeps, Remains, Obeys, Settles}
use Rattle.rank.proofs.Laws.SettleSpeech.{any_triple, decided_stays}
use Rattle.group.proofs.Scenes.{Scene}
use Rattle.group.proofs.Moves.{ByRank, ByRankInTriples}
use Rattle.agreement.proofs.Living.{Lives, Truthful, lived, own_lives, unmarked}
use Rattle.agreement.proofs.Votes.Invariant.{Entered, Combines, Concludes, HeardOf, Own, Votes}
use Rattle.agreement.proofs.Votes.Together.{combines_on, combines_fewer, combines_both, combines_more, Stands, concludes_on}

module _ (anc : ℕ → ℕ) (tree : Ancestry anc) (chain : Chained anc) (n : ℕ) (small : n ≤ 64) (Entry : ℕ → Triple → Type 0) (s s' : Scene) (p kind q : ℕ) (v : Triple) (f g : Send)
    (t : ByRank anc n s s' p kind q f g) (u : ByRankInTriples anc n Entry s s' p kind q v f g) (true' : Truthful n s') (proposals proposals' : ℕ → Triple)
    (votes : Entry p v → proposals' p ≡ v) (keeps : (i : ℕ) → Entered n s i → proposals' i ≡ proposals i)
    (inv : Votes anc n proposals s) where
  -- whoever has entered is never outside again
  stays_in : (i : ℕ) → Entered n s i → Entered n s' i
  stays_in i e = (e.0, λ h. e.1 (go h (eq_or_ne i p)))
    where
      go : (s'.rank i).phase ≡ outside → (i ≡ p) ⊎ (i ≡ p → ⊥) → (s.rank i).phase ≡ outside
      go h (inl y) = subst (λ (z : ℕ). (s.rank z).phase ≡ outside) (sym y) (t.turn.was_outside (subst (λ (z : ℕ). (s'.rank z).phase ≡ outside) y h))
      go h (inr d) = subst (λ (r : Rank). r.phase ≡ outside) (t.others i d) h

  -- the message that it took
  taken : (k : ℕ) → 0 < k → kind ≡ k → s.Carries k q p v
  taken k l e = subst (λ (j : ℕ). s.Carries j q p v) e (u.took (λ z. omega arith))

  -- ---- the triple of the rank whose turn it is

  -- who must be in its set, but for those under it if it begins to wait
  abbrev Base : ℕ → Type 0
  Base x = ((x ≡ p) × ((s'.rank p).phase ≡ outside → ⊥)) ⊎ (Lives n s' x × (HeardOf anc n (s'.rank p) x ⊎ (((s.rank p).phase ≡ waiting) × Under anc p x)))

  before : Combines n proposals' s' (Own anc n s p) (s.rank p).triple
  before = combines_on keeps stays_in (λ x m. m) refl (inv.own-triple p t.own)

  -- whoever must be in the new set must be in the old one, or is what the rank gains: itself, or those under the sender of the report
  joined : Enters (Entry p v) v (s.rank p) (s'.rank p) → (x : ℕ) → Base x → Own anc n s p x ⊎ (x ≡ p)
  joined h x (inl m) = inr m.0
  joined h x (inr (l, inl (c, y, w))) = inl (inr (lived t x l, inl (c, h.heard_was c y, w)))
  joined h x (inr (l, inr m)) = inl (inr (lived t x l, inr m))

  heard : Hears kind q v (s.rank p) (s'.rank p) → (x : ℕ) → Base x → Own anc n s p x ⊎ (Lives n s x × Under anc q x)
  heard h x (inl m) = inl (inl (m.0, λ e. m.1 (h.stays_outside e)))
  heard h x (inr (l, inl (c, y, w))) = go (h.heard_was c y)
    where
      go : (has (s.rank p).heard c ≡ true) ⊎ (q ≡ c) → Own anc n s p x ⊎ (Lives n s x × Under anc q x)
      go (inl z) = inl (inr (lived t x l, inl (c, z, w)))
      go (inr z) = inr (lived t x l, subst (λ (a : ℕ). Under anc a x) (sym z) w)
  heard h x (inr (l, inr m)) = inl (inr (lived t x l, inr m))

  kept : Keeps (s.rank p) (s'.rank p) → (x : ℕ) → Base x → Own anc n s p x
  kept h x (inl m) = inl (m.0, λ e. m.1 (h.stays_outside e))
  kept h x (inr (l, inl (c, y, w))) = inr (lived t x l, inl (c, h.heard_was c y, w))
  kept h x (inr (l, inr m)) = inr (lived t x l, inr m)

  base : Combines n proposals' s' Base (s'.rank p).triple
  base = go u.speech.triple_from
    where
      go : Enters (Entry p v) v (s.rank p) (s'.rank p) ⊎ (Hears kind q v (s.rank p) (s'.rank p) ⊎ Keeps (s.rank p) (s'.rank p)) → Combines n proposals' s' Base (s'.rank p).triple
      go (inl h) = subst (Combines n proposals' s' Base) (ap (combine (s.rank p).triple) (votes h.entry) ∙ sym h.triple_is) (combines_more p (t.own, h.is_inside) (joined h) before)
      go (inr (inl h)) = subst (Combines n proposals' s' Base) (sym h.triple_is) (combines_both (heard h) before (combines_on keeps stays_in (λ x m. m) refl (inv.reports q p v (taken up (omega arith) h.took_up))))
      go (inr (inr h)) = subst (Combines n proposals' s' Base) (sym h.triple_is) (combines_fewer (kept h) before)

  -- a rank that begins to wait has heard every child
  own_base : (x : ℕ) → Own anc n s' p x → Base x
  own_base x (inl m) = inl m
  own_base x (inr (l, inl m)) = inr (l, inl m)
  own_base x (inr (l, inr (w, d))) = go d (t.turn.was_waiting w)
    where
      go : Under anc p x → ((s.rank p).phase ≡ waiting) ⊎ Complete anc n p (s'.rank p) → Base x
      go d (inl e) = inr (l, inr (e, d))
      go (inl e) (inr c) = inl (e, λ z. omega arith)
      go (inr a) (inr c) =
          let k : UnderAChild anc n (s'.rank p).marks p x = child_above anc tree chain n (s'.rank p).marks p x (unmarked t true' p (own_lives t)) l.0 (unmarked t true' x l) a in
          inr (l, inl (k.child, c k.child k.is_child, k.under))

  own : Combines n proposals' s' (Own anc n s' p) (s'.rank p).triple
  own = combines_fewer own_base base

  own_triple' : (b : ℕ) → b < n → Combines n proposals' s' (Own anc n s' b) (s'.rank b).triple
  own_triple' b l = go (eq_or_ne b p)
    where
      was_own : (b ≡ p → ⊥) → (x : ℕ) → Own anc n s' b x → Own anc n s b x
      was_own d x (inl m) = inl (m.0, subst (λ (r : Rank). r.phase ≡ outside → ⊥) (t.others b d) m.1)
      was_own d x (inr m) = inr (lived t x m.0, subst (λ (r : Rank). HeardOf anc n r x ⊎ ((r.phase ≡ waiting) × Under anc b x)) (t.others b d) m.1)

      go : (b ≡ p) ⊎ (b ≡ p → ⊥) → Combines n proposals' s' (Own anc n s' b) (s'.rank b).triple
      go (inl e) = subst (λ (y : ℕ). Combines n proposals' s' (Own anc n s' y) (s'.rank y).triple) (sym e) own
      go (inr d) = combines_on keeps stays_in (was_own d) (ap (λ (r : Rank). r.triple) (t.others b d)) (inv.own-triple b l)

  -- ---- reports, results and answers

  reports' : (x b : ℕ) (w : Triple) → s'.Carries up x b w → Combines n proposals' s' (λ y. Lives n s' y × Under anc x y) w
  reports' x b w h = go (u.was up x b w h)
    where
      go : s.Carries up x b w ⊎ ((x ≡ p) × SaysTriple f g up w b) → Combines n proposals' s' (λ y. Lives n s' y × Under anc x y) w
      go (inl c) = combines_on keeps stays_in (λ y m. (lived t y m.0, m.1)) refl (inv.reports x b w c)
      go (inr (e, z)) =
          subst (Combines n proposals' s' (λ y. Lives n s' y × Under anc x y)) (sym (u.speech.up_to w b z).2)
          (combines_fewer (λ y m. inr (m.0, inr (t.turn.up_waits b (any_triple f g up w b z), subst (λ (a : ℕ). Under anc a y) e m.1))) own)

  -- a root that has heard every child has heard of everyone else who lives
  root-own : (s'.rank p).phase ≡ decided → NoParent anc p (s'.rank p) → Complete anc n p (s'.rank p) → (x : ℕ) → Lives n s' x → Own anc n s' p x
  root-own d r c x l = go (eq_or_ne x p)
    where
      go : (x ≡ p) ⊎ (x ≡ p → ⊥) → Own anc n s' p x
      go (inl e) = inl (e, λ z. omega arith)
      go (inr y) =
          let o = t.own in
          let k : UnderAChild anc n (s'.rank p).marks p x = child_above_all anc tree n (s'.rank p).marks p x (omega arith) r (unmarked t true' p (own_lives t)) l.0 (unmarked t true' x l) y in
          inr (l, inl (k.child, c k.child k.is_child, k.under))

  -- whoever had decided stands
  stands : (i : ℕ) → i < n → (s.rank i).phase ≡ decided → Stands (s.rank i) (s'.rank i)
  stands i l d = go (eq_or_ne i p)
    where
      own_stands : (s.rank p).phase ≡ decided → Stands (s.rank p) (s'.rank p)
      own_stands e =
          let d' : (s'.rank p).phase ≡ decided = t.turn.final e in
          let h = decided_stays anc n p kind q v (Entry p v) (s.rank p) (s'.rank p) f g u.speech e d' in
          record { still-decided = d'; result_stays = h.0; triple_stays = h.1; marks_grow = t.turn.marks_grow }

      go : (i ≡ p) ⊎ (i ≡ p → ⊥) → Stands (s.rank i) (s'.rank i)
      go (inl e) = subst (λ (j : ℕ). Stands (s.rank j) (s'.rank j)) (sym e) (own_stands (subst (λ (j : ℕ). (s.rank j).phase ≡ decided) e d))
      go (inr y) = subst (Stands (s.rank i)) (sym (t.others i y)) (record { still-decided = d; result_stays = refl; triple_stays = refl; marks_grow = λ k h. h })

  later : (w : Triple) → Concludes n proposals s w → Concludes n proposals' s' w
  later w = concludes_on keeps stays_in (lived t) stands

  -- a root decides its own triple with its marks
  roots : (s'.rank p).phase ≡ decided → Settles anc n p (s.rank p) (s'.rank p) → Concludes n proposals' s' (s'.rank p).result
  roots d h =
      let all : Combines n proposals' s' (Lives n s') (s'.rank p).triple = combines_fewer (root-own d h.root h.complete) own in
      record {
        root = p;
        added = (s'.rank p).marks;
        combined = all;
        root-member = all.contains p (own_lives t);
        is_decided = d;
        is_result = refl;
        own-and-added = h.result_is;
        within_marks = λ k y. y;
        all-below = λ k l. let o = t.own in no_parent_all anc (s'.rank p).marks p (omega arith) h.root k l;
      }

  own_result : (s'.rank p).phase ≡ decided → Concludes n proposals' s' (s'.rank p).result
  own_result d = go (u.speech.result_from d)
    where
      go : Remains (s.rank p) (s'.rank p) ⊎ (Obeys kind v (s.rank p) (s'.rank p) ⊎ Settles anc n p (s.rank p) (s'.rank p)) → Concludes n proposals' s' (s'.rank p).result
      go (inl h) = subst (Concludes n proposals' s') (sym h.result_is) (later (s.rank p).result (inv.results p t.own h.was_decided))
      go (inr (inl h)) = subst (Concludes n proposals' s') (sym h.result_is) (later v (inv.answers q p v (taken down (omega arith) h.took_down)))
      go (inr (inr h)) = roots d h

  results' : (b : ℕ) → b < n → (s'.rank b).phase ≡ decided → Concludes n proposals' s' (s'.rank b).result
  results' b l d = go (eq_or_ne b p)
    where
      go : (b ≡ p) ⊎ (b ≡ p → ⊥) → Concludes n proposals' s' (s'.rank b).result
      go (inl e) = subst (λ (y : ℕ). Concludes n proposals' s' (s'.rank y).result) (sym e) (own_result (subst (λ (y : ℕ). (s'.rank y).phase ≡ decided) e d))
      go (inr y) = later (s'.rank b).result (subst (λ (r : Rank). Concludes n proposals s r.result) (sym (t.others b y)) (inv.results b l (subst (λ (r : Rank). r.phase ≡ decided) (t.others b y) d)))

  answers' : (b x : ℕ) (w : Triple) → s'.Carries down b x w → Concludes n proposals' s' w
  answers' b x w h = go (u.was down b x w h)
    where
      go : s.Carries down b x w ⊎ ((b ≡ p) × SaysTriple f g down w x) → Concludes n proposals' s' w
      go (inl c) = later w (inv.answers b x w c)
      go (inr (e, z)) = subst (Concludes n proposals' s') (sym (u.speech.down_to w x z).1) (own_result (t.turn.down-decided x (any_triple f g down w x z)))

  pub by_rank_votes : Votes anc n proposals' s'
  by_rank_votes = record { own-triple = own_triple'; reports = reports'; results = results'; answers = answers' }
