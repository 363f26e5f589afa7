-- A public contract leaves nothing open: two replies to the same call that meet it are the same. Assumes nothing.
use mathlib.Core.Path.{◌≡◌}
use mathlib.Core.Bool.{Bool}
use Prim.Native.Nat.{ℕ}
use Rattle.std.proofs.Common.{Option}
use contract.Lifetimes.{Lfts}
use Rattle.sets.proofs.Laws.Alike.{alike}
use Rattle.sets.proofs.member.Reads as member
use Rattle.sets.proofs.only.Reads as only
use Rattle.sets.proofs.with.Reads as with
use Rattle.sets.proofs.union.Reads as union
use Rattle.sets.proofs.meet.Reads as meet
use Rattle.sets.proofs.minus.Reads as minus
use Rattle.sets.proofs.below.Reads as below
use Rattle.sets.proofs.smallest.Reads as smallest
use Rattle.sets.proofs.largest.Reads as largest
use Rattle.sets.proofs.size.Reads as size
use Rattle.sets.proofs.places.Reads as places

pub member_determined : (κs : Lfts 0) (a : _) (t u : Bool) (x y : _) → member.Post κs a t x → member.Post κs a u y → t ≡ u
member_determined κs a t u x y e f = alike e f

pub only_determined : (κs : Lfts 0) (a : _) (t u : ℕ) (x y : _) → only.Post κs a t x → only.Post κs a u y → t ≡ u
only_determined κs a t u x y e f = alike e f

pub with_determined : (κs : Lfts 0) (a : _) (t u : ℕ) (x y : _) → with.Post κs a t x → with.Post κs a u y → t ≡ u
with_determined κs a t u x y e f = alike e f

pub union_determined : (κs : Lfts 0) (a : _) (t u : ℕ) (x y : _) → union.Post κs a t x → union.Post κs a u y → t ≡ u
union_determined κs a t u x y e f = alike e f

pub meet_determined : (κs : Lfts 0) (a : _) (t u : ℕ) (x y : _) → meet.Post κs a t x → meet.Post κs a u y → t ≡ u
meet_determined κs a t u x y e f = alike e f

pub minus_determined : (κs : Lfts 0) (a : _) (t u : ℕ) (x y : _) → minus.Post κs a t x → minus.Post κs a u y → t ≡ u
minus_determined κs a t u x y e f = alike e f

pub below_determined : (κs : Lfts 0) (a : _) (t u : ℕ) (x y : _) → below.Post κs a t x → below.Post κs a u y → t ≡ u
below_determined κs a t u x y e f = alike e f

pub smallest_determined : (κs : Lfts 0) (a : _) (t u : Option ℕ) (x y : _) → smallest.Post κs a t x → smallest.Post κs a u y → t ≡ u
smallest_determined κs a t u x y e f = alike e f

pub largest_determined : (κs : Lfts 0) (a : _) (t u : Option ℕ) (x y : _) → largest.Post κs a t x → largest.Post κs a u y → t ≡ u
largest_determined κs a t u x y e f = alike e f

pub size_determined : (κs : Lfts 0) (a : _) (t u : ℕ) (x y : _) → size.Post κs a t x → size.Post κs a u y → t ≡ u
size_determined κs a t u x y e f = alike e f

pub places_determined : (κs : Lfts 0) (a : _) (t u : ℕ) (x y : _) → places.Post κs a t x → places.Post κs a u y → t ≡ u
places_determined κs a t u x y e f = alike e f
