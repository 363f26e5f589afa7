-- `wrong_marks` meets its contract: the two tests are the definition's. Assumes nothing.
use Rattle.pictures.proofs.Laws.Calls.{marks_wrong}
use Rattle.pictures.proofs.wrong_marks.Goals as goal

pub returns : goal.returns
returns c = search marks_wrong
