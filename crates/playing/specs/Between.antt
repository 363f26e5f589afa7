-- One event of many: a state whose messages in flight are held beside it, and what is told of the event. No caller from outside meets it.
use Rattle.std.specs.Prelude.{List, length, Result, Ok, Err}
use Rattle.answers.specs.declared.Refusal.{Refusal}
use Rattle.answers.specs.Answers.{number}
use Rattle.answers.specs.Refusals.{accepted}
use Rattle.rank.specs.declared.Message.{Message}
use Rattle.net.specs.Net.{padded}
use Rattle.state.specs.declared.State.{State}
use Rattle.state.specs.States.{joined}
use Rattle.group.specs.Events.{Stepped, refused}
use Rattle.playing.specs.declared.Told.{Told}

-- A state with these messages in flight.
abbrev pub listed : State → List Message → State
listed s l =
    joined (record { n = s.group.n; form = s.group.form; span = s.group.span; count = length l; dead = s.group.dead; ranks = s.group.ranks; net = padded l }) s.tables

-- What a reply and the state after it tell of an event.
abbrev pub told_of : Result Told Refusal → State → Stepped
told_of (Ok t) s = record { answer = accepted; sent = t.sent; moved = t.moved; state = s }
told_of (Err e) s = refused (number e) s
