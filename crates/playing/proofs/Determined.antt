-- A public contract leaves nothing open: two replies to the same call that meet it are the same, and so are the lent slice and the lent state
-- at exit. Assumes nothing.
use mathlib.Core.Path.{◌≡◌, refl}
use contract.Lifetimes.{Lfts}
use Rattle.sets.proofs.Laws.Alike.{alike}
use Rattle.events.specs.declared.Event.{Event}
use Rattle.state.specs.declared.State.{State}
use Rattle.playing.proofs.event_in.Reads as event_in
use Rattle.playing.proofs.put_three.Reads as put_three
use Rattle.playing.proofs.play_on.Reads as play_on
use Rattle.playing.proofs.play.Reads as play

pub event_in_determined : (κs : Lfts 1) (a : _) (t u : Event) (x y : _) → event_in.Post κs a t x → event_in.Post κs a u y → t ≡ u
event_in_determined κs a t u x y e f = alike e f

pub put_three_determined : (κs : Lfts 1) (a : _) (t u : _) (x y : _) → put_three.Post κs a t x → put_three.Post κs a u y → (t ≡ u) × (x.0.now ≡ y.0.now)
put_three_determined κs a t u x y e f = (refl, alike e f)

-- The slice and the state.
pub play_on_determined : (κs : Lfts 2) (a : _) (t u : _) (x y : _) → play_on.Post κs a t x → play_on.Post κs a u y → (t ≡ u) × ((x.1.0.now ≡ y.1.0.now) × (x.1.1.0.now ≡ y.1.1.0.now))
play_on_determined κs a t u x y e f = (refl, (alike e.1 f.1, alike e.0 f.0))

-- The final state, and the slice.
pub play_determined : (κs : Lfts 1) (a : _) (t u : State) (x y : _) → play.Post κs a t x → play.Post κs a u y → (t ≡ u) × (x.1.0.now ≡ y.1.0.now)
play_determined κs a t u x y e f = (alike e.0 f.0, alike e.1 f.1)
