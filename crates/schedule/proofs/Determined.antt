-- A public contract leaves nothing open: two replies to the same call that meet it are the same, and so are the lent slice and the lent state
-- at exit. Assumes nothing.
use mathlib.Core.Path.{◌≡◌, refl, sym, ap, ◌∙◌}
use mathlib.Core.List.{List}
use Prim.Native.Nat.{ℕ}
use contract.Lifetimes.{Lfts}
use Rattle.std.specs.Prelude.{Result, Ok, Err}
use Rattle.sets.proofs.Laws.Alike.{alike}
use Rattle.answers.specs.declared.Refusal.{Refusal}
use Rattle.refusals.proofs.Laws.Refusing.{same_answer}
use Rattle.state.specs.declared.State.{State}
use Rattle.state.specs.declared.Refused.{Refused}
use Rattle.state.specs.Starting.{told as start_told}
use Rattle.state.proofs.Laws.Starting.{told_alike}
use Rattle.playing.specs.Playing.{Run}
use Rattle.schedule.specs.Runs.{told}
use Rattle.schedule.proofs.run_on.Reads as run_on
use Rattle.schedule.proofs.run.Reads as run

-- A reply is known by what it tells.
reply_told : (t : Result State Refused) (x : List ℕ) → start_told t ≡ record { answer = (told t x).answer; state = (told t x).state }
reply_told (Ok s) x = refl
reply_told (Err r) x = refl

answers_of : (t : Result State Refused) (x : List ℕ) → (told t x).answers ≡ x
answers_of (Ok s) x = refl
answers_of (Err r) x = refl

reply_alike : (t u : Result State Refused) (x y : List ℕ) → told t x ≡ told u y → t ≡ u
reply_alike t u x y e = told_alike t u (reply_told t x ∙ ap (λ (z : Run). record { answer = z.answer; state = z.state }) e ∙ sym (reply_told u y))

ran_left : (t u : Result State Refused) (x y : List ℕ) → told t x ≡ told u y → x ≡ y
ran_left t u x y e = sym (answers_of t x) ∙ ap (λ (z : Run). z.answers) e ∙ answers_of u y

-- The answer, the slice and the state.
pub run_on_determined : (κs : Lfts 3) (a : _) (t u : Result (Unit {0}) Refusal) (x y : _) → run_on.Post κs a t x → run_on.Post κs a u y → (t ≡ u) × ((x.1.0.now ≡ y.1.0.now) × (x.1.1.0.now ≡ y.1.1.0.now))
run_on_determined κs a t u x y e f = (same_answer t u (alike e.0 f.0), (alike e.1.1 f.1.1, alike e.1.0 f.1.0))

-- The reply with the final group and its tables, and the slice.
pub run_determined : (κs : Lfts 2) (a : _) (t u : Result State Refused) (x y : _) → run.Post κs a t x → run.Post κs a u y → (t ≡ u) × (x.1.0.now ≡ y.1.0.now)
run_determined κs a t u x y e f = let s = alike e f in (reply_alike t u _ _ s, ran_left t u _ _ s)

-- The entry point asks nothing of its caller.
pub run-asks-nothing : (κs : Lfts 2) (a : _) → run.Pre κs a
run-asks-nothing κs a = tt
