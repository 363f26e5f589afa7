-- `empty_state` meets its contract. Assumes nothing.
use Rattle.state.proofs.Laws.Starting.{empty_state_lem}
use Rattle.state.proofs.empty_state.Goals as goal

pub returns : goal.returns
returns c = search empty_state_lem
