-- A public contract leaves nothing open: two replies to the same call that meet it are the same. Assumes nothing.
use mathlib.Core.Path.{◌≡◌}
use contract.Lifetimes.{Lfts}
use Rattle.sets.proofs.Laws.Alike.{alike}
use Rattle.std.proofs.Common.{Result}
use Rattle.answers.specs.declared.Refusal.{Refusal}
use Rattle.tree.specs.declared.Mended.{Mended}
use Rattle.calls.specs.declared.NotMarked.{NotMarked}
use Rattle.calls.specs.declared.Climbed.{Climbed}
use Rattle.calls.specs.declared.NotClimbed.{NotClimbed}
use Rattle.calls.proofs.Laws.Shapes.{answer_determines}
use Rattle.calls.proofs.Laws.Calls.{mark_told_determines}
use Rattle.calls.proofs.Laws.Climbing.{climb_told_determines}
use Rattle.calls.proofs.misshapen.Reads as misshapen
use Rattle.calls.proofs.mark.Reads as mark
use Rattle.calls.proofs.climb.Reads as climb

pub misshapen_determined : (κs : Lfts 0) (a : _) (t u : Result (Unit {0}) Refusal) (x y : _) → misshapen.Post κs a t x → misshapen.Post κs a u y → t ≡ u
misshapen_determined κs a t u x y e f = answer_determines t u (alike e f)

pub mark_determined : (κs : Lfts 0) (a : _) (t u : Result Mended NotMarked) (x y : _) → mark.Post κs a t x → mark.Post κs a u y → t ≡ u
mark_determined κs a t u x y e f = mark_told_determines t u (alike e f)

pub climb_determined : (κs : Lfts 0) (a : _) (t u : Result Climbed NotClimbed) (x y : _) → climb.Post κs a t x → climb.Post κs a u y → t ≡ u
climb_determined κs a t u x y e f = climb_told_determines _ _ _ _ _ _ t u e.0 f.0

-- The entry points ask nothing of their callers.
pub mark-asks-nothing : (κs : Lfts 0) (a : _) → mark.Pre κs a
mark-asks-nothing κs a = tt

pub climb-asks-nothing : (κs : Lfts 0) (a : _) → climb.Pre κs a
climb-asks-nothing κs a = tt
