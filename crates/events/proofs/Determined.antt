-- A public contract leaves nothing open: two replies to the same call that meet it are the same. Assumes nothing.
use mathlib.Core.Path.{◌≡◌}
use mathlib.Core.Bool.{Bool}
use contract.Lifetimes.{Lfts}
use Rattle.sets.proofs.Laws.Alike.{alike}
use Rattle.events.proofs.names_rank.Reads as names_rank
use Rattle.events.proofs.names_place.Reads as names_place

pub names_rank_determined : (κs : Lfts 0) (a : _) (t u : Bool) (x y : _) → names_rank.Post κs a t x → names_rank.Post κs a u y → t ≡ u
names_rank_determined κs a t u x y e f = alike e f

pub names_place_determined : (κs : Lfts 0) (a : _) (t u : Bool) (x y : _) → names_place.Post κs a t x → names_place.Post κs a u y → t ≡ u
names_place_determined κs a t u x y e f = alike e f
