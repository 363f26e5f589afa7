-- `forward` meets its contract: the message leaves if one does, then the two sends join. Assumes nothing.
use mathlib.Core.Path.{ap, ◌∙◌}
use mathlib.Core.List.{List, ◌++◌}
use lib.ListN.{length}
use native.Mathlib.Omega.{arith}
use Rattle.rank.specs.declared.Message.{Message}
use Rattle.rank.specs.Sends.{letters}
use Rattle.net.proofs.Laws.Forwarding.{joined_is, joined_count, spared_count, room_both}
use Rattle.net.proofs.Flight.forward.Goals as goal

pub post-requires : goal.post-requires
post-requires c =
    let pre = c.requires in
    omega (arith, ap length c.let_go.ensures ∙ spared_count _ _ _ pre.place_in, room_both _ _ _ _ _ pre.place_in pre.room)

pub post-requires-2 : goal.post-requires-2
post-requires-2 c =
    let pre = c.requires in
    omega (arith, ap length c.let_go.ensures ∙ spared_count _ _ _ pre.place_in, room_both _ _ _ _ _ pre.place_in pre.room, joined_count _ _ _ _ (joined_is _ _ _ _ c.post.ensures))

pub overflow_sub-result : goal.overflow_sub-result
overflow_sub-result c = omega (arith, joined_count _ _ _ _ (joined_is _ _ _ _ c.post.ensures), joined_count _ _ _ _ (joined_is _ _ _ _ c.post-2.ensures))

pub returns-clause-sent : goal.returns-clause-sent
returns-clause-sent c = omega (arith, joined_count _ _ _ _ (joined_is _ _ _ _ c.post.ensures), joined_count _ _ _ _ (joined_is _ _ _ _ c.post-2.ensures))

pub returns-clause-after : goal.returns-clause-after
returns-clause-after c =
    joined_is _ _ _ _ c.post-2.ensures
    ∙ ap (λ (l : List Message). l ++ letters c.args.me c.args.second) (joined_is _ _ _ _ c.post.ensures ∙ ap (λ (l : List Message). l ++ letters c.args.me c.args.first) c.let_go.ensures)
