-- A public contract leaves nothing open: two replies to the same call that meet it are the same. Assumes nothing.
use mathlib.Core.Path.{◌≡◌}
use Prim.Native.Nat.{ℕ}
use contract.Lifetimes.{Lfts}
use Rattle.sets.proofs.Laws.Alike.{alike}
use Rattle.std.specs.Prelude.{Result}
use Rattle.state.specs.declared.Refused.{Refused}
use Rattle.group.specs.declared.Stepped.{Stepped}
use Rattle.group.proofs.Laws.Events.{told_alike}
use Rattle.group.proofs.buried.Reads as buried
use Rattle.group.proofs.post.Reads as post
use Rattle.group.proofs.step.Reads as step
use Rattle.group.proofs.event.Reads as event

pub buried_determined : (κs : Lfts 0) (a : _) (t u : ℕ) (x y : _) → buried.Post κs a t x → buried.Post κs a u y → t ≡ u
buried_determined κs a t u x y e f = alike e f

-- How many were sent, and the list.
pub post_determined : (κs : Lfts 1) (a : _) (t u : ℕ) (x y : _) → post.Post κs a t x → post.Post κs a u y → (t ≡ u) × (x.0.now ≡ y.0.now)
post_determined κs a t u x y e f = (alike e.0 f.0, alike e.1 f.1)

pub step_determined : (κs : Lfts 0) (a : _) (t u : Result Stepped Refused) (x y : _) → step.Post κs a t x → step.Post κs a u y → t ≡ u
step_determined κs a t u x y e f = told_alike t u (alike e f)

pub event_determined : (κs : Lfts 0) (a : _) (t u : Result Stepped Refused) (x y : _) → event.Post κs a t x → event.Post κs a u y → t ≡ u
event_determined κs a t u x y e f = told_alike t u (alike e f)

-- The entry point asks nothing of its caller.
pub event-asks-nothing : (κs : Lfts 0) (a : _) → event.Pre κs a
event-asks-nothing κs a = tt
