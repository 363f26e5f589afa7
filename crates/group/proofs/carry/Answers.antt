-- `carry` meets its contract: carrying a plan out is the definition. Assumes nothing.
use mathlib.Core.Path.{ap, ◌∙◌}
use mathlib.Core.List.{List}
use Rattle.rank.specs.declared.Message.{Message}
use Rattle.plans.specs.Plans.{as_planned}
use Rattle.group.specs.Events.{posted}
use Rattle.group.proofs.Laws.Stepping.{carry-applied}
use Rattle.group.proofs.carry.Goals as goal

pub returns : goal.returns
returns c =
    rw (c.count-s.ensures, c.places-s.ensures)
    (carry-applied _ _ _ _ _ _ (c.post.ensures.after ∙ ap (λ (l : List Message). posted l c.args.place c.args.me (as_planned c.args.p)) c.of-flight.ensures) c.buried-s.ensures)
