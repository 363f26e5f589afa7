-- `put_digits` meets its contract, by induction on the number: a tenth of it is smaller. Assumes nothing.
use native.Mathlib.Omega.{arith}
use Rattle.text.proofs.Laws.Digits.{number_one, number_more, number_room}
use Rattle.text.proofs.+put_digits.Goals as goal

pub bounds-text-last : goal.bounds-text-last
bounds-text-last t c = number_room _ _ _ _ _ c.ranges.x c.requires c.put_digits-last.ensures

pub overflow_add-result-else-x-lt10 : goal.overflow_add-result-else-x-lt10
overflow_add-result-else-x-lt10 t c = omega (arith, number_room _ _ _ _ _ c.ranges.x c.requires c.put_digits-last.ensures, c.put_digits-last.auto.text)

pub returns-then-x-lt10 : goal.returns-then-x-lt10
returns-then-x-lt10 t c = number_one _ _ _ c.if-x-lt10.true

pub returns-else-x-lt10 : goal.returns-else-x-lt10
returns-else-x-lt10 t c = number_more _ _ _ _ _ c.ranges.x (omega (arith, c.if-x-lt10.false)) c.put_digits-last.ensures
