-- `no_rank` meets its contract: every field is 0. Assumes nothing.
use Rattle.state.proofs.no_rank.Goals as goal

pub returns : goal.returns
returns c = rw (c.zero.ensures, c.zero-2.ensures)
