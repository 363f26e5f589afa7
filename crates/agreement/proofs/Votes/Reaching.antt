-- Every move keeps the invariant of the triples, and it holds in every reached state, of what the ranks proposed in the run. Over any
-- ancestor sets with their chain law. Assumes nothing.
use mathlib.Core.Path.{◌≡◌, refl, sym, ap, subst, ◌∙◌}
use mathlib.Core.Bool.{Bool, true, false, cond}
use mathlib.Core.Logic.{◌⊎◌, inl, inr, ⊎_elim}
use Prim.Native.Nat.{ℕ, ◌≤◌, ◌<◌}
use native.Mathlib.Omega.{arith}
use lib.Dec.{eqb}
use borrow.Author.Tests.{eqb-true, eq-eqb}
use Rattle.sets.specs.Sets.{has}
use Rattle.sets.proofs.Laws.Bools.{clash, passes_or_fails, eq_or_ne, and_i, and_l, and_r, cond_true, cond_false}
use Rattle.sets.proofs.Laws.Members.{has-zero}
use Rattle.tree.specs.Relations.{Ancestry, Chained}
use Rattle.rank.specs.declared.Rank.{Rank}
use Rattle.rank.specs.Words.{outside}
use Rattle.rank.specs.declared.Triple.{Triple}
use Rattle.rank.specs.Records.{proposal}
use Rattle.rank.proofs.Speech.{Enters, Hears, Keeps}
use Rattle.events.specs.declared.Event.{Event}
use Rattle.events.specs.Events.{event_of}
use Rattle.state.specs.declared.State.{State}
use Rattle.state.specs.States.{rank_at}
use Rattle.state.specs.Starting.{fresh_state, started}
use Rattle.state.proofs.Laws.Starting.{started-fresh}
use Rattle.group.specs.Events.{event}
use Rattle.group.specs.Reaching.{Reaches, begun, next}
use Rattle.group.proofs.Scenes.{Scene, scene}
use Rattle.group.proofs.Moves.{Move, by_rank, by_loss, Entry}
use Rattle.group.proofs.Laws.Following.{enters_from_outside}
use Rattle.group.proofs.Laws.Reached.{reached-small, reached_in_order}
use Rattle.agreement.specs.Agreement.{is_entry, has_entered, proposal_of}
use Rattle.agreement.proofs.Living.{Truthful}
use Rattle.agreement.proofs.Running.{quiet, all-outside, all-fresh, none_heard, reached_truthful, reached-moves}
use Rattle.agreement.proofs.Votes.Invariant.{Entered, Own, Votes}
use Rattle.agreement.proofs.Votes.Together.{together-none}
use Rattle.agreement.proofs.Votes.ByRank.{by_rank_votes}
use Rattle.agreement.proofs.Votes.ByLoss.{by_loss_votes}

-- ---- every move

module _ (anc : ℕ → ℕ) (n : ℕ) (Entry : ℕ → Triple → Type 0) (s s' : Scene) where
  -- a rank that has entered had entered, or enters with this move
  pub was_entered : Move anc n Entry s s' → (i : ℕ) → Entered n s' i → Entered n s i ⊎ ((v : Triple) × Entry i v)
  was_entered (by_loss t) i e = inl (e.0, subst (λ (r : Rank). r.phase ≡ outside → ⊥) (t.ranks_stay i) e.1)
  was_entered (by_rank p kind q v f g t u) i e = go (eq_or_ne i p)
    where
      own : i ≡ p → Enters (Entry p v) v (s.rank p) (s'.rank p) ⊎ (Hears kind q v (s.rank p) (s'.rank p) ⊎ Keeps (s.rank p) (s'.rank p)) → Entered n s i ⊎ ((w : Triple) × Entry i w)
      own z (inl h) = inr (v, subst (λ (j : ℕ). Entry j v) (sym z) h.entry)
      own z (inr (inl h)) = inl (e.0, λ o. e.1 (subst (λ (j : ℕ). (s'.rank j).phase ≡ outside) (sym z) (h.stays_outside (subst (λ (j : ℕ). (s.rank j).phase ≡ outside) z o))))
      own z (inr (inr h)) = inl (e.0, λ o. e.1 (subst (λ (j : ℕ). (s'.rank j).phase ≡ outside) (sym z) (h.stays_outside (subst (λ (j : ℕ). (s.rank j).phase ≡ outside) z o))))

      go : (i ≡ p) ⊎ (i ≡ p → ⊥) → Entered n s i ⊎ ((w : Triple) × Entry i w)
      go (inl z) = own z u.speech.triple_from
      go (inr d) = inl (e.0, subst (λ (r : Rank). r.phase ≡ outside → ⊥) (t.others i d) e.1)

-- The proposals of ranks that had entered stay, and a rank that enters has its own.
pub a_move_keeps_votes : (anc : ℕ → ℕ) → Ancestry anc → Chained anc → (n : ℕ) → n ≤ 64 → (Entry : ℕ → Triple → Type 0) (s s' : Scene) → Truthful n s' → (proposals proposals' : ℕ → Triple)
    → ((p : ℕ) (v : Triple) → Entry p v → proposals' p ≡ v) → ((i : ℕ) → Entered n s i → proposals' i ≡ proposals i) → Votes anc n proposals s → Move anc n Entry s s' → Votes anc n proposals' s'
a_move_keeps_votes anc tree chain n small Entry s s' true' proposals proposals' votes keeps inv (by_rank p kind q v f g t u) = by_rank_votes anc tree chain n small Entry s s' p kind q v f g t u true' proposals proposals' (votes p v) keeps inv
a_move_keeps_votes anc tree chain n small Entry s s' true' proposals proposals' votes keeps inv (by_loss t) = by_loss_votes anc n s s' t proposals proposals' keeps inv

-- ---- a fresh group

module _ (anc : ℕ → ℕ) (n form span : ℕ) (small : n ≤ 64) (proposals : ℕ → Triple) where
  nobody : (p : ℕ) → p < n → (x : ℕ) → Own anc n (scene (fresh_state anc n form span)) p x → ⊥
  nobody p l x (inl h) = h.1 (all-outside anc n form span small p l)
  nobody p l x (inr (lx, inl (c, h, k))) = none_heard anc n form span small p c l h
  nobody p l x (inr (lx, inr (h, k))) = omega (arith, all-outside anc n form span small p l)

  fresh_votes : Votes anc n proposals (scene (fresh_state anc n form span))
  fresh_votes = record {
    own-triple = λ p l. record { members = 0; entered = λ i h. absurd (clash (has 0 i) h (has-zero i)); contains = λ i h. absurd (nobody p l i h); is_together = all-fresh anc n form span small p l ∙ sym (together-none n proposals n) };
    reports = λ q b w h. absurd (quiet anc n form span small _ q b (w, h));
    results = λ p l e. absurd (omega (arith, all-outside anc n form span small p l));
    answers = λ b x w h. absurd (quiet anc n form span small _ b x (w, h));
  }

-- ---- the proposals of a run

module _ (anc : ℕ → ℕ) (n : ℕ) (s : State) (ev : Event) (run : Reaches anc n s) (z : (event anc s ev).answer ≡ 0) where
  -- what the rank that enters proposes
  votes_proposal : (p : ℕ) (v : Triple) → Entry (scene s) ev p v → proposal_of anc n (event anc s ev).state (next s ev run z) p ≡ v
  unfolding proposal_of is_entry
  votes_proposal p v (k, e, w) =
      cond_true (is_entry ev p) (proposal ev.b (rank_at s p)) (proposal_of anc n s run p) (and_i (eqb ev.kind 1) (eqb ev.a p) (eq-eqb ev.kind 1 k) (eq-eqb ev.a p (sym e)))
      ∙ ap (λ (i : ℕ). proposal ev.b (rank_at s i)) e ∙ sym w

  -- any other's stays
  proposal_stays : (i : ℕ) → Entered n (scene s) i → proposal_of anc n (event anc s ev).state (next s ev run z) i ≡ proposal_of anc n s run i
  unfolding proposal_of is_entry
  proposal_stays i e = cond_false (is_entry ev i) (proposal ev.b (rank_at s i)) (proposal_of anc n s run i) (⊎_elim (λ (t : is_entry ev i ≡ true). absurd (again t)) (λ (t : is_entry ev i ≡ false). t) (passes_or_fails (is_entry ev i)))
    where
      again : is_entry ev i ≡ true → ⊥
      again t =
          let k : ev.kind ≡ 1 = eqb-true ev.kind 1 (and_l (eqb ev.kind 1) (eqb ev.a i) t) in
          let y : ev.a ≡ i = eqb-true ev.a i (and_r (eqb ev.kind 1) (eqb ev.a i) t) in
          e.1 (subst (λ (j : ℕ). (rank_at s j).phase ≡ outside) y (enters_from_outside anc s ev.a ev.b (reached_in_order anc n s run) (subst (λ (j : ℕ). (event anc s (event_of j ev.a ev.b)).answer ≡ 0) k z)))

  entry_counts : (i : ℕ) → Entered n (scene s) i ⊎ ((v : Triple) × Entry (scene s) ev i v) → (Entered n (scene s) i → has_entered anc n s run i ≡ true) → has_entered anc n (event anc s ev).state (next s ev run z) i ≡ true
  unfolding has_entered is_entry
  entry_counts i (inl e) before = ap (λ (t : Bool). cond (is_entry ev i) true t) (before e) ∙ same (is_entry ev i)
    where
      same : (t : Bool) → cond t true true ≡ true
      same true = refl
      same false = refl
  entry_counts i (inr (v, (k, e, w))) before = cond_true (is_entry ev i) true (has_entered anc n s run i) (and_i (eqb ev.kind 1) (eqb ev.a i) (eq-eqb ev.kind 1 k) (eq-eqb ev.a i (sym e)))

-- A rank that is not outside has entered in the run.
pub entered_in_the_run : (anc : ℕ → ℕ) → Ancestry anc → (n : ℕ) (s : State) (run : Reaches anc n s) (i : ℕ) → Entered n (scene s) i → has_entered anc n s run i ≡ true
entered_in_the_run anc tree n s (begun form span z) i e = absurd (e.1 (subst (λ (x : State). (rank_at x i).phase ≡ outside) (sym (started-fresh anc n form span z).1) (all-outside anc n form span (reached-small anc n (started anc n form span).state (begun form span z)).1 i e.0)))
entered_in_the_run anc tree n s (next s' ev run z) i e =
    entry_counts anc n s' ev run z i (was_entered anc n (Entry (scene s') ev) (scene s') (scene (event anc s' ev).state) (reached-moves anc tree n s' ev run z) i e) (λ h. entered_in_the_run anc tree n s' run i h)

pub reached_votes : (anc : ℕ → ℕ) → Ancestry anc → Chained anc → (n : ℕ) (s : State) (run : Reaches anc n s) → Votes anc n (proposal_of anc n s run) (scene s)
reached_votes anc tree chain n s (begun form span z) =
    subst (λ (x : State). Votes anc n (proposal_of anc n (started anc n form span).state (begun form span z)) (scene x)) (sym (started-fresh anc n form span z).1)
    (fresh_votes anc n form span (reached-small anc n (started anc n form span).state (begun form span z)).1 (proposal_of anc n (started anc n form span).state (begun form span z)))
reached_votes anc tree chain n s (next s' ev run z) =
    a_move_keeps_votes anc tree chain n (reached-small anc n s' run).1 (Entry (scene s') ev) (scene s') (scene (event anc s' ev).state) (reached_truthful anc n (event anc s' ev).state (next s' ev run z))
    (proposal_of anc n s' run) (proposal_of anc n (event anc s' ev).state (next s' ev run z))
    (votes_proposal anc n s' ev run z) (proposal_stays anc n s' ev run z)
    (reached_votes anc tree chain n s' run) (reached-moves anc tree n s' ev run z)
