-- `number_from` meets its contract: two tests; a digit less 48 is below ten. Assumes nothing.
use Rattle.proposing.proofs.Laws.Steps.{digit_is, number-none, number-one, number-two}
use Rattle.proposing.proofs.number_from.Goals as goal

pub returns-then-not-is_ascii_digit : goal.returns-then-not-is_ascii_digit
returns-then-not-is_ascii_digit c = number-none _ _ _ (digit_is _ _ c.is_ascii_digit.ensures.value) c.if-not-is_ascii_digit.true

pub returns-then-not-is_ascii_digit-2 : goal.returns-then-not-is_ascii_digit-2
returns-then-not-is_ascii_digit-2 c =
    number-one _ _ _ _ (digit_is _ _ c.is_ascii_digit.ensures.value) c.if-not-is_ascii_digit.false (digit_is _ _ c.is_ascii_digit-2.ensures.value) c.if-not-is_ascii_digit-2.true

pub returns : goal.returns
returns c =
    number-two _ _ _ _ (digit_is _ _ c.is_ascii_digit.ensures.value) c.if-not-is_ascii_digit.false (digit_is _ _ c.is_ascii_digit-2.ensures.value) c.if-not-is_ascii_digit-2.false
