-- `take_out` meets its contract. The invariant: without what stands at place i, the list is what it is to be. Assumes nothing.
use mathlib.Core.Path.{◌≡◌}
use Prim.Native.Nat.{◌<◌}
use lib.ListN.{take}
use Rattle.net.specs.Net.{messages_of, without, Small}
use Rattle.net.proofs.Laws.Net.{Clear}
use Rattle.net.proofs.Flight.take_out.Given as goal

abbrev pub invariant-loop-i : goal.invariant-loop-i
invariant-loop-i l =
    (l.self-inside.count ≡ l.initial.self-inside.count) × (l.i < l.self-inside.count)
    × (without l.i (take l.self-inside.count (messages_of l.self-inside.numbers)) ≡ without l.place (take l.initial.self-inside.count (messages_of l.initial.self-inside.numbers)))
    × Small l.self-inside.numbers × Clear l.self-inside.count (messages_of l.self-inside.numbers)
