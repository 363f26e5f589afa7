-- `calls::climb_from` meets its contract. The invariant: what is left of the path is that of the rank reached. The measure is that
-- rank, as a parent is smaller. Assumes nothing.
use mathlib.Core.Path.{sym, ◌∙◌}
use native.Mathlib.Omega.{arith}
use Rattle.tree.specs.Forms.{tree_of}
use Rattle.tree.proofs.Laws.Climbing.{climbing-start, climbing-step, climbing_less}
use Rattle.calls.proofs.Laws.Climbing.{climbing-root, climbing_short, named_ok, named_short}
use Rattle.calls.proofs.climb_from.Goals as goal

pub loop-up-init : goal.loop-up-init
loop-up-init c = (climbing-start (tree_of c.args.form c.args.span) c.args.marks c.args.p, omega arith)

pub returns-then-links-allowance-clause-told : goal.returns-then-links-allowance-clause-told
returns-then-links-allowance-clause-told c = climbing_short _ _ _ _ _ _ _ c.loop-up.invariant.0 c.in-Some.ensures c.if-links-allowance.true

pub returns-then-links-allowance-clause-named : goal.returns-then-links-allowance-clause-named
returns-then-links-allowance-clause-named c = named_short _ _ (climbing_short _ _ _ _ _ _ _ c.loop-up.invariant.0 c.in-Some.ensures c.if-links-allowance.true) (omega arith)

pub loop-up-smaller : goal.loop-up-smaller
loop-up-smaller c = climbing_less _ _ _ _ c.in-Some.ensures

pub loop-up-preserved : goal.loop-up-preserved
loop-up-preserved c = (climbing-step _ _ _ _ _ _ c.loop-up.invariant.0 c.in-Some.ensures, omega arith)

pub returns-clause-told : goal.returns-clause-told
returns-clause-told c = climbing-root _ _ _ _ _ _ c.loop-up.invariant.0 (sym c.in_default.is ∙ c.parent_of.ensures) c.loop-up.invariant.1

pub returns-clause-named : goal.returns-clause-named
returns-clause-named c = named_ok _ _ (climbing-root _ _ _ _ _ _ c.loop-up.invariant.0 (sym c.in_default.is ∙ c.parent_of.ensures) c.loop-up.invariant.1) (omega arith)
