-- `Shape::places_in_order` meets its contract. The invariant: every place before i passes. Assumes nothing.
use Prim.Native.Nat.{ℕ, ◌<◌}
use lib.ListN.{get_or}
use mathlib.Core.Bool.{true}
use mathlib.Core.Path.{◌≡◌}
use Rattle.net.specs.Net.{zero_message}
use Rattle.order.specs.Order.{place_in_order}
use Rattle.order.proofs.Shape.places_in_order.Given as goal

abbrev pub invariant-loop-i : goal.invariant-loop-i
invariant-loop-i l = (k : ℕ) → k < l.i → place_in_order l.self.n l.self.dead l.self.count k (get_or l.net k zero_message) ≡ true
