-- Every move keeps the invariant: a turn, or a loss. Over any ancestor sets with their chain law. Assumes nothing.
use Prim.Native.Nat.{ℕ, ◌≤◌}
use Rattle.tree.specs.Relations.{Ancestry, Chained}
use Rattle.rank.specs.declared.Send.{Send}
use Rattle.rank.specs.declared.Triple.{Triple}
use Rattle.group.proofs.Scenes.{Scene}
use Rattle.group.proofs.Moves.{ByRank, Move, by_rank, by_loss}
use Rattle.agreement.proofs.Living.{Truthful}
use Rattle.agreement.proofs.Progress.Invariant.{Progress}
use Rattle.agreement.proofs.Progress.ByRank.{heard_old', report_old', waiting_old', new_calm'}
use Rattle.agreement.proofs.Progress.Linking.{held', polled'}
use Rattle.agreement.proofs.Progress.ByLoss.{by_loss_keeps}

module _ (anc : ℕ → ℕ) (tree : Ancestry anc) (chain : Chained anc) (n : ℕ) (small : n ≤ 64) (s s' : Scene) (true' : Truthful n s') (inv : Progress anc n s) where
  by_rank_keeps : (p kind q : ℕ) (f g : Send) → ByRank anc n s s' p kind q f g → Progress anc n s'
  by_rank_keeps p kind q f g t = record {
    heard_old = heard_old' anc tree chain n small s s' p kind q f g t true' inv;
    report_old = report_old' anc tree chain n small s s' p kind q f g t true' inv;
    waiting_old = waiting_old' anc tree chain n small s s' p kind q f g t true' inv;
    new_calm = new_calm' anc tree chain n small s s' p kind q f g t true' inv;
    held = held' anc tree chain n small s s' p kind q f g t true' inv;
    polled = polled' anc tree chain n small s s' p kind q f g t true' inv;
  }

  pub a_move_keeps : (Entry : ℕ → Triple → Type 0) → Move anc n Entry s s' → Progress anc n s'
  a_move_keeps Entry (by_rank p kind q v f g t u) = by_rank_keeps p kind q f g t
  a_move_keeps Entry (by_loss t) = by_loss_keeps anc n s s' t inv
