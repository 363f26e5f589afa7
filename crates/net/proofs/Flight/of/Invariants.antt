-- `of` meets its contract. The invariant: the first i messages have their numbers in their places, with zeros after them. Assumes nothing.
use mathlib.Core.Path.{◌≡◌}
use lib.ListN.{take}
use Rattle.net.specs.Net.{messages_of, padded, Small}
use Rattle.net.proofs.Flight.of.Given as goal

abbrev pub invariant-loop-i : goal.invariant-loop-i
invariant-loop-i l = (messages_of l.numbers ≡ padded (take l.i l.net)) × Small l.numbers
