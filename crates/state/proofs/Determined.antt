-- A public contract leaves nothing open: two replies to the same call that meet it are the same, and so is the lent state at exit.
-- Assumes nothing.
use mathlib.Core.Path.{◌≡◌, refl}
use mathlib.Core.List.{List}
use Prim.Native.Nat.{ℕ}
use contract.Lifetimes.{Lfts}
use Rattle.sets.proofs.Laws.Alike.{alike}
use Rattle.state.specs.declared.State.{State}
use Rattle.std.specs.Prelude.{Result}
use Rattle.state.specs.declared.Refused.{Refused}
use Rattle.state.proofs.Laws.Starting.{told_alike}
use Rattle.rank.specs.declared.Rank.{Rank}
use Rattle.state.proofs.join.Reads as join
use Rattle.state.proofs.tables_of.Reads as tables_of
use Rattle.state.proofs.no_rank.Reads as no_rank
use Rattle.state.proofs.empty_state.Reads as empty_state
use Rattle.state.proofs.seat.Reads as seat
use Rattle.state.proofs.start.Reads as start

pub join_determined : (κs : Lfts 0) (a : _) (t u : State) (x y : _) → join.Post κs a t x → join.Post κs a u y → t ≡ u
join_determined κs a t u x y e f = alike e f

pub tables_of_determined : (κs : Lfts 0) (a : _) (t u : List (List ℕ)) (x y : _) → tables_of.Post κs a t x → tables_of.Post κs a u y → t ≡ u
tables_of_determined κs a t u x y e f = alike e f

pub no_rank_determined : (κs : Lfts 0) (a : _) (t u : Rank) (x y : _) → no_rank.Post κs a t x → no_rank.Post κs a u y → t ≡ u
no_rank_determined κs a t u x y e f = alike e f

pub empty_state_determined : (κs : Lfts 0) (a : _) (t u : State) (x y : _) → empty_state.Post κs a t x → empty_state.Post κs a u y → t ≡ u
empty_state_determined κs a t u x y e f = alike e f

-- The lent state.
pub seat_determined : (κs : Lfts 1) (a : _) (t u : _) (x y : _) → seat.Post κs a t x → seat.Post κs a u y → (t ≡ u) × (x.0.now ≡ y.0.now)
seat_determined κs a t u x y e f = (refl, alike e f)

pub start_determined : (κs : Lfts 0) (a : _) (t u : Result State Refused) (x y : _) → start.Post κs a t x → start.Post κs a u y → t ≡ u
start_determined κs a t u x y e f = told_alike t u (alike e f)

-- The entry point asks nothing of its caller.
pub start-asks-nothing : (κs : Lfts 0) (a : _) → start.Pre κs a
start-asks-nothing κs a = tt
