-- The one transition more (2026-11), of the group: an ASK of another agreement comes to rank p from q, and p overhears it here.
use Prim.Native.Nat.{ℕ, ◌<◌, ◌≤◌}
use mathlib.Core.Path.{◌≡◌, refl, sym, subst}
use mathlib.Core.Bool.{false}
use mathlib.Core.Logic.{◌⊎◌, inl, inr}
use native.Mathlib.Omega.{arith}
use Rattle.sets.specs.Sets.{has}
use Rattle.tree.specs.Relations.{Ancestry, Chained}
use Rattle.rank.proofs.Facts.{RankInOrder}
use Rattle.rank.proofs.Overhearing.{overhearing}
use Rattle.rank.proofs.Speech.{SaysTriple, Speech}
use Rattle.rank.specs.declared.Rank.{Rank}
use Rattle.rank.specs.declared.Send.{Send}
use Rattle.rank.specs.Triples.{zero_triple}
use Rattle.rank.specs.declared.Triple.{Triple}
use Rattle.rank.proofs.Turn.{Says, Turn}
use Rattle.rank.proofs.Laws.RuleTurns.{overhear_turn}
use Rattle.rank.proofs.Laws.SettleSpeech.{some-triple, any_triple}
use Rattle.rank.proofs.Laws.RuleSpeeches.{overhear_speech}
use Rattle.group.proofs.Scenes.{Scene, Flies}
use Rattle.group.proofs.Moves.{ByRank, Move, by_rank}
use Rattle.agreement.proofs.Living.{Truthful}
use Rattle.agreement.proofs.Progress.Invariant.{Progress}
use Rattle.agreement.proofs.Progress.Moving.{a_move_keeps}
use Rattle.agreement.proofs.Concord.Invariant.{Concord}
use Rattle.agreement.proofs.Concord.Reaching.{a_move_agrees}
use Rattle.agreement.proofs.Votes.Invariant.{Votes}
use Rattle.agreement.proofs.Votes.Reaching.{a_move_keeps_votes}

-- p lives and q, which is below p, is not marked by it. p's record is what `overhearing` makes of it and all else stays; what p sends joins
-- the messages in flight, and nothing else joins or leaves.
pub record Overhears (anc : ℕ → ℕ) (n : ℕ) (s s' : Scene) (p q : ℕ) : Type 0 where
  pub own : p < n
  pub lives : has s.dead p ≡ false
  pub in_order : RankInOrder anc n p (s.rank p)
  pub lower : q < p
  pub free : has (s.rank p).marks q ≡ false
  pub dead_stays : s'.dead ≡ s.dead
  pub others : (j : ℕ) → (j ≡ p → ⊥) → s'.rank j ≡ s.rank j
  pub rank_is : s'.rank p ≡ (overhearing anc n p q (s.rank p)).rank
  pub stays : (k b x : ℕ) (w : Triple) → s.Carries k b x w → s'.Carries k b x w
  pub was : (k b x : ℕ) (w : Triple) → s'.Carries k b x w → s.Carries k b x w ⊎ ((b ≡ p) × SaysTriple (overhearing anc n p q (s.rank p)).first (overhearing anc n p q (s.rank p)).second k w x)
  pub joins : (k x : ℕ) (w : Triple) → SaysTriple (overhearing anc n p q (s.rank p)).first (overhearing anc n p q (s.rank p)).second k w x → s'.Carries k p x w

-- nobody enters
abbrev pub NoEntry : ℕ → Triple → Type 0
NoEntry p v = ⊥

module _ (anc : ℕ → ℕ) (tree : Ancestry anc) (n : ℕ) (small : n ≤ 64) (s s' : Scene) (p q : ℕ) (o : Overhears anc n s s' p q) where
  abbrev f : Send
  f = (overhearing anc n p q (s.rank p)).first

  abbrev g : Send
  g = (overhearing anc n p q (s.rank p)).second

  turn : ByRank anc n s s' p 0 0 f g
  turn = record {
    own = o.own;
    lives = o.lives;
    dead_stays = o.dead_stays;
    others = o.others;
    turn = subst (λ (r : Rank). Turn anc n p 0 0 (s.rank p) r f g) (sym o.rank_is) (overhear_turn anc tree n p small o.own q (s.rank p) o.in_order o.lower o.free);
    took = λ h. absurd (h refl);
    known = λ h. absurd (h refl);
    stays = λ k b x h. inl (h.0, o.stays k b x h.0 h.1);
    was = λ k b x h. go k b x h.0 (o.was k b x h.0 h.1);
    joins = λ k x h. let w = some-triple f g k x h in (w.0, o.joins k x w.0 w.1);
  }
    where
      go : (k b x : ℕ) (w : Triple) → s.Carries k b x w ⊎ ((b ≡ p) × SaysTriple f g k w x) → Flies s k b x ⊎ ((b ≡ p) × Says f g k x)
      go k b x w (inl h) = inl (w, h)
      go k b x w (inr h) = inr (h.0, any_triple f g k w x h.1)

  pub overhears_moves : Move anc n NoEntry s s'
  overhears_moves = by_rank p 0 0 zero_triple f g turn (record {
    speech = subst (λ (r : Rank). Speech anc n p 0 0 zero_triple (NoEntry p zero_triple) (s.rank p) r f g) (sym o.rank_is) (overhear_speech anc n p small o.own (NoEntry p zero_triple) zero_triple q (s.rank p) o.lower o.free);
    took = λ h. absurd (h refl);
    asker = λ h. absurd (omega arith);
    was = o.was;
  })

-- It keeps all three invariants, with the proposals as they were.
module _ (anc : ℕ → ℕ) (tree : Ancestry anc) (chain : Chained anc) (n : ℕ) (small : n ≤ 64) (s s' : Scene) (true' : Truthful n s') (p q : ℕ) (o : Overhears anc n s s' p q) where
  pub overhearing_stands : Progress anc n s → Progress anc n s'
  overhearing_stands inv = a_move_keeps anc tree chain n small s s' true' inv NoEntry (overhears_moves anc tree n small s s' p q o)

  pub overhearing_agrees : Concord anc n s → Concord anc n s'
  overhearing_agrees inv = a_move_agrees anc tree chain n small NoEntry s s' true' inv (overhears_moves anc tree n small s s' p q o)

  pub overhearing_votes : (proposals : ℕ → Triple) → Votes anc n proposals s → Votes anc n proposals s'
  overhearing_votes proposals inv = a_move_keeps_votes anc tree chain n small NoEntry s s' true' proposals proposals (λ b v e. absurd e) (λ i e. refl) inv (overhears_moves anc tree n small s s' p q o)
