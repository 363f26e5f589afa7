-- A public contract leaves nothing open: two replies to the same call that meet it are the same. Assumes nothing.
use mathlib.Core.Path.{◌≡◌}
use Rattle.std.specs.Prelude.{Result}
use contract.Lifetimes.{Lfts}
use Rattle.sets.proofs.Laws.Alike.{alike}
use Rattle.answers.specs.declared.Refusal.{Refusal}
use Rattle.refusals.proofs.Laws.Refusing.{same_answer}
use Rattle.refusals.proofs.refusal.Reads as refusal

pub refusal_determined : (κs : Lfts 0) (a : _) (t u : Result (Unit {0}) Refusal) (x y : _) → refusal.Post κs a t x → refusal.Post κs a u y → t ≡ u
refusal_determined κs a t u x y e f = same_answer t u (alike e f)
