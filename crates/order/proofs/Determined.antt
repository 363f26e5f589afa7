-- A public contract leaves nothing open: two replies to the same call that meet it are the same. Assumes nothing.
use mathlib.Core.Path.{◌≡◌}
use mathlib.Core.Bool.{Bool}
use contract.Lifetimes.{Lfts}
use Rattle.sets.proofs.Laws.Alike.{alike}
use Rattle.order.proofs.in_order.Reads as in_order

pub in_order_determined : (κs : Lfts 0) (a : _) (t u : Bool) (x y : _) → in_order.Post κs a t x → in_order.Post κs a u y → t ≡ u
in_order_determined κs a t u x y e f = alike e.0 f.0
