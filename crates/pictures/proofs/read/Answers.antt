-- `read` meets its contract: a proposal that is no view, or whose picture is another text, leaves no view at all. Assumes nothing.
use mathlib.Core.Path.{sym, ◌∙◌}
use Rattle.tree.proofs.Laws.Calls.{size-le}
use Rattle.pictures.proofs.Laws.Calls.{read_unsized, sized, read-size, read-marks, read-other, read_view}
use Rattle.pictures.proofs.read.Goals as goal

pub returns-in_default : goal.returns-in_default
returns-in_default c = read_unsized _ (sym c.in_default.is ∙ c.size_in.ensures)

pub returns-then-wrong_size : goal.returns-then-wrong_size
returns-then-wrong_size c = read-size _ _ _ (sized _ _ c.in-Some.ensures) c.wrong_size.ensures c.if-wrong_size.true

pub marks_in-marks-requires : goal.marks_in-marks-requires
marks_in-marks-requires c = search size-le

pub wrong_marks-requires : goal.wrong_marks-requires
wrong_marks-requires c = search size-le

pub returns-then-wrong_marks : goal.returns-then-wrong_marks
returns-then-wrong_marks c = read-marks _ _ _ _ (sized _ _ c.in-Some.ensures) c.marks_in-marks.ensures c.wrong_marks.ensures c.if-wrong_marks.true

pub is_picture-requires : goal.is_picture-requires
is_picture-requires c = search size-le

pub returns-then-not-is_picture : goal.returns-then-not-is_picture
returns-then-not-is_picture c = read-other _ _ _ _ (sized _ _ c.in-Some.ensures) c.marks_in-marks.ensures c.is_picture.ensures.1 c.if-not-is_picture.true

pub returns : goal.returns
returns c = read_view _ _ _ _ _ _ c.wrong_size.ensures c.if-wrong_size.false c.wrong_marks.ensures c.if-wrong_marks.false c.is_picture.ensures.0 c.if-not-is_picture.false
