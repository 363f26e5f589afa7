-- `in_order` meets its contract: size, form and box size first. Assumes nothing.
use mathlib.Core.Path.{◌≡◌, sym, ◌∙◌}
use mathlib.Core.Bool.{true}
use lib.Dec.{eqb}
use borrow.Author.Tests.{eq-eqb}
use Rattle.std.specs.Prelude.{Result, Ok, Err}
use Rattle.std.specs.Result.{is_err}
use Rattle.sets.proofs.Laws.Bools.{clash}
use Rattle.answers.specs.declared.Refusal.{Refusal}
use Rattle.answers.specs.Answers.{number, answer_of}
use Rattle.answers.proofs.Laws.Numbers.{number-not_0}
use Rattle.order.proofs.Laws.Ordering.{in_order_misshapen}
use Rattle.order.proofs.in_order.Goals as goal

not-accepted : (x : Result (Unit {0}) Refusal) → is_err x ≡ true → answer_of x ≡ 0 → ⊥
not-accepted (Ok y) e z = absurd (cc e)
not-accepted (Err k) e z = clash (eqb (number k) 0) (eq-eqb (number k) 0 z) (number-not_0 k)

pub returns-then-is_err-clause-value : goal.returns-then-is_err-clause-value
returns-then-is_err-clause-value c = in_order_misshapen _ _ c.misshapen.ensures (not-accepted c.misshapen.result (sym c.is_err.ensures.value ∙ c.if-is_err.true))
