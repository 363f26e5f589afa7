-- `tree::ancestors` meets its contract: in each form, what answers the rank next above. Assumes nothing.
use mathlib.Core.Path.{◌≡◌}
use borrow.Author.Rules.{rules}
use native.Mathlib.Omega.{arith}
use Rattle.tree.specs.Tree.{half}
use Rattle.tree.specs.Forms.{in_star, in_nest}
use Rattle.tree.proofs.Laws.Flat.{half-smaller}
use Rattle.tree.proofs.Laws.Forms.{star_smaller, nested_smaller, near_star, near_nest, near_flat}
use Rattle.tree.proofs.ancestors.Goals as goal

pub ancestors_by-requires-clause-smaller : goal.ancestors_by-requires-clause-smaller
ancestors_by-requires-clause-smaller c x r h e = let f : r ≡ in_star c.args.span x = search rules in rw f (star_smaller c.args.span x h)

pub ancestors_by-requires-in-2-clause-smaller : goal.ancestors_by-requires-in-2-clause-smaller
ancestors_by-requires-in-2-clause-smaller c x r h e = let f : r ≡ in_nest c.args.span x = search rules in rw f (nested_smaller c.args.span x h)

pub ancestors_by-requires-in_default-clause-smaller : goal.ancestors_by-requires-in_default-clause-smaller
ancestors_by-requires-in_default-clause-smaller c x r h e = rw e (half-smaller x h)

pub returns-in-1 : goal.returns-in-1
returns-in-1 c = near_star _ _ _ _ _ c.in-1.is (c.ancestors_by.ensures (in_star c.args.span) (λ x r e. search rules) (star_smaller c.args.span))

pub returns-in-2 : goal.returns-in-2
returns-in-2 c = near_nest _ _ _ _ _ c.in-2.is (c.ancestors_by-in-2.ensures (in_nest c.args.span) (λ x r e. search rules) (nested_smaller c.args.span))

pub returns-in_default : goal.returns-in_default
returns-in_default c = near_flat c.args.form _ _ _ _ (λ e. omega arith) (λ e. omega arith) (c.ancestors_by-in_default.ensures half (λ x r e. e) half-smaller)
