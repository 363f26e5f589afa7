-- `buried` meets its contract. Assumes nothing.
use Rattle.group.proofs.buried.Goals as goal

pub returns-then-dies : goal.returns-then-dies
returns-then-dies c = rw c.if-dies.true c.with.ensures
