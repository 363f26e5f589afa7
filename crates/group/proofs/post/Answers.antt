-- `post` meets its contract. Assumes nothing.
use Rattle.group.specs.Events.{posted}
use Rattle.group.proofs.post.Goals as goal

pub returns-clause-after : goal.returns-clause-after
unfolding posted
returns-clause-after c = c.forward.ensures.after
