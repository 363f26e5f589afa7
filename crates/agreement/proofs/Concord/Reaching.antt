-- Every move keeps the invariant of one result, and it holds in every reached state. Over any ancestor sets with their chain law. Assumes
-- nothing.
use Prim.Native.Nat.{ℕ, ◌≤◌}
use native.Mathlib.Omega.{arith}
use mathlib.Core.Logic.{inl, inr}
use Rattle.tree.specs.Relations.{Ancestry, Chained}
use Rattle.rank.specs.declared.Triple.{Triple}
use Rattle.state.specs.declared.State.{State}
use Rattle.state.specs.Starting.{fresh_state}
use Rattle.group.specs.Reaching.{Reaches}
use Rattle.group.proofs.Scenes.{Scene, scene}
use Rattle.group.proofs.Moves.{Move, by_rank, by_loss}
use Rattle.agreement.proofs.Living.{Truthful}
use Rattle.agreement.proofs.Running.{quiet, all-outside, none_heard, none_owed, every-reached}
use Rattle.agreement.proofs.Concord.Holders.{holder_in}
use Rattle.agreement.proofs.Concord.Invariant.{Verdict, Concord}
use Rattle.agreement.proofs.Concord.ByRank.{turn_agrees}
use Rattle.agreement.proofs.Concord.ByLoss.{by_loss_agrees}

pub a_move_agrees : (anc : ℕ → ℕ) → Ancestry anc → Chained anc → (n : ℕ) → n ≤ 64 → (Entry : ℕ → Triple → Type 0) (s s' : Scene) → Truthful n s' → Concord anc n s → Move anc n Entry s s' → Concord anc n s'
a_move_agrees anc tree chain n small Entry s s' true' inv (by_rank p kind q v f g t u) = turn_agrees anc tree chain n small Entry s s' p kind q v f g t u true' inv
a_move_agrees anc tree chain n small Entry s s' true' inv (by_loss t) = by_loss_agrees anc n s s' t inv

module _ (anc : ℕ → ℕ) (n form span : ℕ) (small : n ≤ 64) where
  no_verdict : (w : Triple) → Verdict anc n (scene (fresh_state anc n form span)) w → ⊥
  no_verdict w (inl (i, l, e, r)) = omega (arith, all-outside anc n form span small i (holder_in n (scene (fresh_state anc n form span)) i l))
  no_verdict w (inr (b, x, a)) = quiet anc n form span small _ b x (w, a.0)

  fresh_agrees : Concord anc n (scene (fresh_state anc n form span))
  fresh_agrees = record {
    report_leads = λ x b h. absurd (quiet anc n form span small _ x b h);
    heard_leads = λ x b l h. absurd (none_heard anc n form span small b x l h);
    owed_tells = λ x b l h. absurd (none_owed anc n form span small b x l h);
    down-tells = λ b x h. absurd (quiet anc n form span small _ b x h);
    covered_open = λ y x l d c b. (λ e. omega (arith, all-outside anc n form span small x b), λ o w a. quiet anc n form span small _ o x (w, a.0));
    one_result = λ w w' h h'. absurd (no_verdict w h);
  }

pub reached_agrees : (anc : ℕ → ℕ) → Ancestry anc → Chained anc → (n : ℕ) (s : State) → Reaches anc n s → Concord anc n (scene s)
reached_agrees anc tree chain n = every-reached anc tree n (Concord anc n) (fresh_agrees anc n) (λ E s s' small true' inv m. a_move_agrees anc tree chain n small E s s' true' inv m)
