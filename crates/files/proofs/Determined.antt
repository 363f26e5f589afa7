-- A public contract leaves nothing open: two replies to the same call that meet it are the same. Assumes nothing.
use mathlib.Core.Path.{◌≡◌}
use Prim.Native.Nat.{ℕ}
use contract.Lifetimes.{Lfts}
use Rattle.sets.proofs.Laws.Alike.{alike}
use Rattle.events.specs.declared.Event.{Event}
use Rattle.std.specs.Prelude.{Result}
use Rattle.answers.specs.declared.Refusal.{Refusal}
use Rattle.files.specs.declared.Header.{Header}
use Rattle.files.proofs.event_at.Reads as event_at
use Rattle.files.proofs.events_in.Reads as events_in
use Rattle.files.proofs.read_header.Reads as read_header
use Rattle.files.proofs.number_of.Reads as number_of_lem

pub event_at_determined : (κs : Lfts 1) (a : _) (t u : Event) (x y : _) → event_at.Post κs a t x → event_at.Post κs a u y → t ≡ u
event_at_determined κs a t u x y e f = alike e f

pub events_in_determined : (κs : Lfts 1) (a : _) (t u : ℕ) (x y : _) → events_in.Post κs a t x → events_in.Post κs a u y → t ≡ u
events_in_determined κs a t u x y e f = alike e f

pub read_header_determined : (κs : Lfts 1) (a : _) (t u : Result Header Refusal) (x y : _) → read_header.Post κs a t x → read_header.Post κs a u y → t ≡ u
read_header_determined κs a t u x y e f = alike e f

pub number_of_determined : (κs : Lfts 0) (a : _) (t u : ℕ) (x y : _) → number_of_lem.Post κs a t x → number_of_lem.Post κs a u y → t ≡ u
number_of_determined κs a t u x y e f = alike e f
