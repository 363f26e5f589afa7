-- `tree::pointing` meets its contract. Assumes nothing.
use mathlib.Core.Path.{sym}
use Rattle.sets.proofs.Laws.Members.{meet-nobody}
use Rattle.tree.proofs.pointing.Goals as goal

pub returns-then-among-eq0 : goal.returns-then-among-eq0
returns-then-among-eq0 c = rw c.if-among-eq0.true (sym (meet-nobody _))
