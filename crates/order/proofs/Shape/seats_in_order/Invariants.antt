-- `Shape::seats_in_order` meets its contract. The invariant: every seat before i passes. Assumes nothing.
use Prim.Native.Nat.{ℕ, ◌<◌}
use mathlib.Core.Bool.{true}
use mathlib.Core.Path.{◌≡◌}
use lib.ListN.{get_or}
use mathlib.Core.List.{[]}
use Rattle.tree.specs.Forms.{tree_of}
use Rattle.state.specs.States.{zero_rank}
use Rattle.order.specs.Order.{seat_in_order}
use Rattle.order.proofs.Shape.seats_in_order.Given as goal

abbrev pub invariant-loop-i : goal.invariant-loop-i
invariant-loop-i l = (k : ℕ) → k < l.i → seat_in_order (tree_of l.self.form l.self.span) l.self.n l.self.dead k (get_or l.ranks k zero_rank) (get_or l.tables k []) ≡ true
