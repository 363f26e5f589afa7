-- `tree::View::relink` meets its contract: who had q for a parent has q's parent, or, where q had none, the lowest unmarked rank. Assumes nothing.
use mathlib.Core.Path.{ap, ◌∙◌}
use borrow.Author.Rules.{rules}
use Rattle.std.proofs.Common.{Option, ℕ, cond, get_or}
use Rattle.std.specs.Prelude.{ltb}
use Rattle.std.specs.Option.{unwrap_or}
use Rattle.sets.specs.Sets.{none}
use Rattle.sets.proofs.Laws.Found.{found_or_none}
use Rattle.tree.proofs.Laws.Forms.{form_ancestry, form_chained}
use Rattle.tree.proofs.Laws.Mending.{relink-up, relink-low}
use Rattle.tree.proofs.View.relink.Goals as goal

pub returns-then-up : goal.returns-then-up
returns-then-up c = let pre = c.requires in
    relink-up _ (form_ancestry _ _) (form_chained _ _) _ _ _ _ _ _ c.args.self.size pre.q_lt_n c.args.self.fresh pre.after_value c.if-up.true
    (c.hand_over.ensures (λ p. get_or c.args.self.table c.args.q 0) (λ p r e. search rules))

pub returns : goal.returns
returns c = let pre = c.requires in
    let low = c.unwrap_or-low.result in
    relink-low _ _ _ _ _ _ _ _ _ _ c.args.self.size pre.q_lt_n c.args.self.fresh pre.after_value c.if-up.false c.below.ensures c.minus.ensures
    (c.unwrap_or-low.ensures ∙ ap (λ (o : Option ℕ). unwrap_or o none) c.smallest.ensures ∙ found_or_none _)
    (c.hand_over-2.ensures (λ p. cond (ltb low p) low none) (λ p r e. search rules))
