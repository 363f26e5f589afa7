-- A public contract leaves nothing open: two replies to the same call that meet it are the same, and so is a lent list at exit. Assumes nothing.
use mathlib.Core.Path.{◌≡◌}
use mathlib.Core.List.{List}
use Prim.Native.Nat.{ℕ}
use contract.Lifetimes.{Lfts}
use Rattle.sets.proofs.Laws.Alike.{alike}
use Rattle.rank.specs.declared.Message.{Message}
use Rattle.net.specs.declared.Flight.TheInside.{Inside}
use Rattle.net.specs.declared.Flight.TheView.{view, invariant}
use Rattle.net.proofs.Laws.Numbers.{same_numbers, flight_same}
use Rattle.net.proofs.nothing.Reads as nothing
use Rattle.net.proofs.at.Reads as at
use Rattle.net.proofs.Flight.of.Reads as of
use Rattle.net.proofs.Flight.places.Reads as places
use Rattle.net.proofs.Flight.of_numbers.Reads as of_numbers
use Rattle.net.proofs.Flight.numbers.Reads as numbers
use Rattle.net.proofs.Flight.count.Reads as count
use Rattle.net.proofs.Flight.at.Reads as flight_at
use Rattle.net.proofs.Flight.forward.Reads as forward

pub nothing_determined : (κs : Lfts 0) (a : _) (t u : Message) (x y : _) → nothing.Post κs a t x → nothing.Post κs a u y → t ≡ u
nothing_determined κs a t u x y e f = alike e f

pub at_determined : (κs : Lfts 0) (a : _) (t u : Message) (x y : _) → at.Post κs a t x → at.Post κs a u y → t ≡ u
at_determined κs a t u x y e f = alike e f

-- What is kept of a list while events are played leaves nothing open either: the messages in it have one count and one array of numbers.
pub flight_determined : (f g : Inside) → invariant f → invariant g → view f ≡ view g → f ≡ g
flight_determined f g h k e =
    let same = flight_same f.numbers g.numbers f.count g.count h.0 k.0 h.1 k.1 h.2 k.2 e in
    λ i. record { numbers = same.0 i; count = same.1 i }

-- A list while events are played is the messages in it.
pub of_determined : (κs : Lfts 0) (a : _) (t u : List Message) (x y : _) → of.Post κs a t x → of.Post κs a u y → t ≡ u
of_determined κs a t u x y e f = alike e f

pub places_determined : (κs : Lfts 1) (a : _) (t u : List Message) (x y : _) → places.Post κs a t x → places.Post κs a u y → t ≡ u
places_determined κs a t u x y e f = alike e f

pub of_numbers_determined : (κs : Lfts 0) (a : _) (t u : List Message) (x y : _) → of_numbers.Post κs a t x → of_numbers.Post κs a u y → t ≡ u
of_numbers_determined κs a t u x y e f = alike e f

-- Small numbers of the same messages are the same.
pub numbers_determined : (κs : Lfts 1) (a : _) (t u : List ℕ) (x y : _) → numbers.Post κs a t x → numbers.Post κs a u y → t ≡ u
numbers_determined κs a t u x y e f = same_numbers t u e.1 f.1 (alike e.0 f.0)

pub count_determined : (κs : Lfts 1) (a : _) (t u : ℕ) (x y : _) → count.Post κs a t x → count.Post κs a u y → t ≡ u
count_determined κs a t u x y e f = alike e f

pub flight_at_determined : (κs : Lfts 1) (a : _) (t u : Message) (x y : _) → flight_at.Post κs a t x → flight_at.Post κs a u y → t ≡ u
flight_at_determined κs a t u x y e f = alike e f

-- How many were sent, and the list.
pub forward_determined : (κs : Lfts 1) (a : _) (t u : ℕ) (x y : _) → forward.Post κs a t x → forward.Post κs a u y → (t ≡ u) × (x.0.now ≡ y.0.now)
forward_determined κs a t u x y e f = (alike e.0 f.0, alike e.1 f.1)
