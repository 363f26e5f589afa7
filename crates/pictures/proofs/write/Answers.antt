-- `write` meets its contract: two tests, and then the room. Assumes nothing.
use Rattle.tree.proofs.Laws.Calls.{size-le, size_fits}
use Rattle.pictures.proofs.Laws.Calls.{write-size, write-marks, write-fit}
use Rattle.pictures.proofs.write.Goals as goal

pub returns-then-wrong_size : goal.returns-then-wrong_size
returns-then-wrong_size c = search write-size

pub overflow_cast-n : goal.overflow_cast-n
overflow_cast-n c = search size_fits

pub wrong_marks-requires : goal.wrong_marks-requires
wrong_marks-requires c = search size-le

pub returns-then-wrong_marks : goal.returns-then-wrong_marks
returns-then-wrong_marks c = search write-marks

pub overflow_cast-n-2 : goal.overflow_cast-n-2
overflow_cast-n-2 c = search size_fits

pub fit-requires : goal.fit-requires
fit-requires c = search size-le

pub returns : goal.returns
returns c = search write-fit
