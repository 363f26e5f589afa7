-- `places` meets its contract. The invariant: the first i messages stand in their places, with zeros after them. Assumes nothing.
use mathlib.Core.Path.{◌≡◌}
use lib.ListN.{take}
use Rattle.net.specs.Net.{padded}
use Rattle.net.proofs.Flight.places.Given as goal

abbrev pub invariant-loop-i : goal.invariant-loop-i
invariant-loop-i l = l.found ≡ padded (take l.i l.self)
