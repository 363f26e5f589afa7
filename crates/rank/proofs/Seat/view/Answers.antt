-- `Seat::view` meets its contract: who stayed has the parent it had, and who moved here is gained. Assumes nothing.
use Rattle.rank.specs.Records.{viewing}
use Rattle.rank.proofs.Laws.Acting.{awaited_next}
use Rattle.rank.proofs.Seat.view.Goals as goal

pub returns : goal.returns
unfolding viewing
returns c =
    let pre = c.requires in
    rw (c.minus.ensures, c.minus-unheard.ensures, c.union.ensures, c.minus-stayed.ensures, pre.awaits, awaited_next c.args.self.now c.args.m.marks c.args.m.moved.ranks c.args.gained c.args.m.table pre.table_value pre.marks_stay pre.parents_stay pre.gained_value)
