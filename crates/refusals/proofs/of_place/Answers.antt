-- `of_place` meets its contract: the tests on the way pick the definition's case. Assumes nothing.
use Rattle.refusals.proofs.Laws.Refusing.{place_5, place_loss, place_0}
use Rattle.refusals.proofs.of_place.Goals as goal

pub returns-then-count-ev : goal.returns-then-count-ev
returns-then-count-ev c = search place_5

pub returns-then-ev-eq-LOSES : goal.returns-then-ev-eq-LOSES
returns-then-ev-eq-LOSES c = search place_loss

pub returns : goal.returns
returns c = search place_0
