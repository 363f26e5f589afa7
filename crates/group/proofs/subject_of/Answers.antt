-- `subject_of` meets its contract. Assumes nothing.
use Rattle.group.proofs.Laws.Stepping.{me_is}
use Rattle.group.proofs.subject_of.Goals as goal

pub returns : goal.returns
returns c = me_is _ _ _ _ c.at.ensures c.subject.ensures
