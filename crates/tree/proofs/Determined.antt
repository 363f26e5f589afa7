-- A public contract leaves nothing open: two replies to the same call that meet it are the same. Assumes nothing.
use mathlib.Core.Path.{◌≡◌}
use mathlib.Core.Bool.{Bool}
use mathlib.Core.List.{List}
use Prim.Native.Nat.{ℕ}
use Rattle.std.proofs.Common.{Option}
use contract.Lifetimes.{Lfts}
use Rattle.sets.proofs.Laws.Alike.{alike}
use Rattle.tree.specs.declared.Moved.{Moved}
use Rattle.tree.specs.declared.Mended.{Mended}
use Rattle.tree.proofs.Moved.nobody.Reads as nobody
use Rattle.tree.proofs.parent_of.Reads as parent_of
use Rattle.tree.proofs.fresh.Reads as fresh
use Rattle.tree.proofs.View.children_of.Reads as children_of
use Rattle.tree.proofs.pointing.Reads as pointing
use Rattle.tree.proofs.View.mend.Reads as mend
use Rattle.tree.proofs.gained.Reads as gained
use Rattle.tree.proofs.View.mend_below.Reads as mend_below
use Rattle.tree.proofs.wrong_size.Reads as wrong_size
use Rattle.tree.proofs.same.Reads as same

pub nobody_determined : (κs : Lfts 0) (a : _) (t u : Moved) (x y : _) → nobody.Post κs a t x → nobody.Post κs a u y → t ≡ u
nobody_determined κs a t u x y e f = alike e f

pub parent_of_determined : (κs : Lfts 0) (a : _) (t u : Option ℕ) (x y : _) → parent_of.Post κs a t x → parent_of.Post κs a u y → t ≡ u
parent_of_determined κs a t u x y e f = alike e f

pub fresh_determined : (κs : Lfts 0) (a : _) (t u : List ℕ) (x y : _) → fresh.Post κs a t x → fresh.Post κs a u y → t ≡ u
fresh_determined κs a t u x y e f = alike e f

pub children_of_determined : (κs : Lfts 0) (a : _) (t u : ℕ) (x y : _) → children_of.Post κs a t x → children_of.Post κs a u y → t ≡ u
children_of_determined κs a t u x y e f = alike e f

pub pointing_determined : (κs : Lfts 0) (a : _) (t u : ℕ) (x y : _) → pointing.Post κs a t x → pointing.Post κs a u y → t ≡ u
pointing_determined κs a t u x y e f = alike e f

pub mend_determined : (κs : Lfts 0) (a : _) (t u : Mended) (x y : _) → mend.Post κs a t x → mend.Post κs a u y → t ≡ u
mend_determined κs a t u x y e f = alike e f

pub gained_determined : (κs : Lfts 0) (a : _) (t u : ℕ) (x y : _) → gained.Post κs a t x → gained.Post κs a u y → t ≡ u
gained_determined κs a t u x y e f = alike e f

pub mend_below_determined : (κs : Lfts 0) (a : _) (t u : Mended) (x y : _) → mend_below.Post κs a t x → mend_below.Post κs a u y → t ≡ u
mend_below_determined κs a t u x y e f = alike e f

pub wrong_size_determined : (κs : Lfts 0) (a : _) (t u : Bool) (x y : _) → wrong_size.Post κs a t x → wrong_size.Post κs a u y → t ≡ u
wrong_size_determined κs a t u x y e f = alike e f

pub same_determined : (κs : Lfts 0) (a : _) (t u : Bool) (x y : _) → same.Post κs a t x → same.Post κs a u y → t ≡ u
same_determined κs a t u x y e f = alike e f
