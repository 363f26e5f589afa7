-- `Seat::decide` meets its contract: a child that is not awaited was heard, and is owed or found in the row. Assumes nothing.
use Rattle.rank.specs.Records.{concluding}
use Rattle.rank.specs.Rules.{deciding}
use Rattle.rank.proofs.Laws.Acting.{receivers}
use Rattle.rank.proofs.Seat.decide.Goals as goal

pub returns : goal.returns
unfolding deciding concluding
returns c = rw (c.saying.ensures, c.down.ensures, c.minus-to.ensures, c.union.ensures, c.union-children.ensures, c.pointing-heard.ensures, c.minus.ensures, receivers c.args.self.now c.requires)
