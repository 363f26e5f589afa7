-- A public contract leaves nothing open: two replies to the same call that meet it are the same. Assumes nothing.
use mathlib.Core.Path.{◌≡◌}
use mathlib.Core.Bool.{Bool}
use Prim.Native.Nat.{ℕ}
use contract.Lifetimes.{Lfts}
use Rattle.sets.proofs.Laws.Alike.{alike}
use Rattle.std.specs.Prelude.{Result}
use Rattle.plans.specs.declared.Plan.{Plan}
use Rattle.plans.specs.declared.NotPlanned.{NotPlanned}
use Rattle.plans.proofs.Laws.Planning.{same_plan, told_same}
use Rattle.plans.proofs.subject.Reads as subject
use Rattle.plans.proofs.known.Reads as known
use Rattle.plans.proofs.afterwards.Reads as afterwards
use Rattle.plans.proofs.draft.Reads as draft
use Rattle.plans.proofs.plan_clean.Reads as plan_clean
use Rattle.plans.proofs.plan_event.Reads as plan_event

pub subject_determined : (κs : Lfts 0) (a : _) (t u : ℕ) (x y : _) → subject.Post κs a t x → subject.Post κs a u y → t ≡ u
subject_determined κs a t u x y e f = alike e f

pub known_determined : (κs : Lfts 0) (a : _) (t u : Bool) (x y : _) → known.Post κs a t x → known.Post κs a u y → t ≡ u
known_determined κs a t u x y e f = alike e f

pub afterwards_determined : (κs : Lfts 0) (a : _) (t u : ℕ) (x y : _) → afterwards.Post κs a t x → afterwards.Post κs a u y → t ≡ u
afterwards_determined κs a t u x y e f = alike e f

pub draft_determined : (κs : Lfts 0) (a : _) (t u : Plan) (x y : _) → draft.Post κs a t x → draft.Post κs a u y → t ≡ u
draft_determined κs a t u x y e f = same_plan t u (alike e f)

pub plan_clean_determined : (κs : Lfts 0) (a : _) (t u : Result Plan NotPlanned) (x y : _) → plan_clean.Post κs a t x → plan_clean.Post κs a u y → t ≡ u
plan_clean_determined κs a t u x y e f = told_same t u (alike e f)

pub plan_event_determined : (κs : Lfts 0) (a : _) (t u : Result Plan NotPlanned) (x y : _) → plan_event.Post κs a t x → plan_event.Post κs a u y → t ≡ u
plan_event_determined κs a t u x y e f = told_same t u (alike e f)
