-- A public contract leaves nothing open: two replies to the same call that meet it are the same, and so are the lent slice and the lent state
-- at exit. Assumes nothing.
use mathlib.Core.Path.{◌≡◌}
use contract.Lifetimes.{Lfts}
use Rattle.sets.proofs.Laws.Alike.{alike}
use Rattle.std.specs.Prelude.{Result}
use Rattle.answers.specs.declared.Refusal.{Refusal}
use Rattle.refusals.proofs.Laws.Refusing.{same_answer}
use Rattle.state.specs.declared.State.{State}
use Rattle.state.specs.declared.Refused.{Refused}
use Rattle.state.proofs.Laws.Starting.{told_alike}
use Rattle.batches.proofs.batch.Reads as batch
use Rattle.batches.proofs.lend.Reads as lend

-- The answer, the slice and the state.
pub batch_determined : (κs : Lfts 3) (a : _) (t u : Result (Unit {0}) Refusal) (x y : _) → batch.Post κs a t x → batch.Post κs a u y → (t ≡ u) × ((x.1.0.now ≡ y.1.0.now) × (x.1.1.0.now ≡ y.1.1.0.now))
batch_determined κs a t u x y e f = (same_answer t u (alike e.0 f.0), (alike e.1.1 f.1.1, alike e.1.0 f.1.0))

-- The entry point asks nothing of its caller.
pub batch-asks-nothing : (κs : Lfts 3) (a : _) → batch.Pre κs a
batch-asks-nothing κs a = tt

-- The answer with the state, and the slice.
pub lend_determined : (κs : Lfts 2) (a : _) (t u : Result State Refused) (x y : _) → lend.Post κs a t x → lend.Post κs a u y → (t ≡ u) × (x.1.0.now ≡ y.1.0.now)
lend_determined κs a t u x y e f = (told_alike t u (λ i. record { answer = alike e.0 f.0 i; state = alike e.1.0 f.1.0 i }), alike e.1.1 f.1.1)
