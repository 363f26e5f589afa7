-- What a batch comes to, over any ancestor sets: `event` once for each event in turn, or nothing at all. Assumes nothing.
use mathlib.Core.Path.{◌≡◌, refl, sym, ap, ap₂, subst, ◌∙◌}
use mathlib.Core.Bool.{Bool, true, false, cond}
use mathlib.Core.List.{List}
use mathlib.Core.Logic.{◌⊎◌, inl, inr, ⊎_elim}
use Prim.Native.Nat.{ℕ, ◌*◌, ◌≤◌, ◌<◌}
use native.Mathlib.Omega.{arith}
use lib.ListN.{length, get_or}
use borrow.Author.Tests.{ltb-false}
use Rattle.sets.proofs.Laws.Bools.{passes_or_fails, eq_or_ne}
use Rattle.tree.specs.Forms.{tree_of}
use Rattle.state.specs.declared.State.{State}
use Rattle.state.specs.States.{own_tree}
use Rattle.group.specs.Events.{event}
use Rattle.group.specs.Reaching.{Reaches}
use Rattle.playing.specs.Playing.{Run, event_in, played}
use Rattle.playing.specs.Reaching.{state_after, NumbersOf}
use Rattle.playing.proofs.Laws.Playing.{played-answers, played_keeps}
use Rattle.playing.proofs.Reaching.{after-played, after_keeps_the_form, numbers-played, after_reaches}
use Rattle.batches.specs.Batches.{events_of, uneven, too_short, refused_batch, batch}

module _ (anc : ℕ → ℕ) (numbers out : List ℕ) (s : State) where
  -- 40 exactly for a length that is no multiple of three; else 41 exactly for a slice that is too short; else 0.
  pub what_a_batch_answers : (batch anc numbers out s).answer ≡ cond (uneven numbers) 40 (cond (too_short numbers out) 41 0)
  unfolding batch refused_batch
  what_a_batch_answers = go (uneven numbers) (too_short numbers out)
    where
      go : (t u : Bool) → (cond t (refused_batch 40 out s) (cond u (refused_batch 41 out s) (played anc (event_in numbers) (events_of numbers) 0 s out))).answer ≡ cond t 40 (cond u 41 0)
      go true u = refl
      go false true = refl
      go false false = played-answers anc (event_in numbers) (events_of numbers) 0 s out

  -- A refused batch leaves the slice and the state as they were.
  pub a_refused_batch_changes_nothing : ((batch anc numbers out s).answer ≡ 0 → ⊥) → ((batch anc numbers out s).state ≡ s) × ((batch anc numbers out s).answers ≡ out)
  unfolding batch refused_batch
  a_refused_batch_changes_nothing = go (uneven numbers) (too_short numbers out)
    where
      go : (t u : Bool) → ((cond t (refused_batch 40 out s) (cond u (refused_batch 41 out s) (played anc (event_in numbers) (events_of numbers) 0 s out))).answer ≡ 0 → ⊥)
          → ((cond t (refused_batch 40 out s) (cond u (refused_batch 41 out s) (played anc (event_in numbers) (events_of numbers) 0 s out))).state ≡ s) × ((cond t (refused_batch 40 out s) (cond u (refused_batch 41 out s) (played anc (event_in numbers) (events_of numbers) 0 s out))).answers ≡ out)
      go true u d = (refl, refl)
      go false true d = (refl, refl)
      go false false d = absurd (d (played-answers anc (event_in numbers) (events_of numbers) 0 s out))

  -- ---- an accepted batch

  -- there is room, and the batch is the play
  taken : (C : Type 0) → (batch anc numbers out s).answer ≡ 0 → (3 * events_of numbers ≤ length out → batch anc numbers out s ≡ played anc (event_in numbers) (events_of numbers) 0 s out → C) → C
  unfolding batch refused_batch
  taken C z go = first (passes_or_fails (uneven numbers)) (passes_or_fails (too_short numbers out))
    where
      first : (uneven numbers ≡ true) ⊎ (uneven numbers ≡ false) → (too_short numbers out ≡ true) ⊎ (too_short numbers out ≡ false) → C
      first (inl t) u = let q : (batch anc numbers out s).answer ≡ 40 = rw t in absurd (omega arith)
      first (inr t) (inl u) = let q : (batch anc numbers out s).answer ≡ 41 = rw (t, u) in absurd (omega arith)
      first (inr t) (inr u) = go (ltb-false (length out) (3 * events_of numbers) u) (rw (t, u))

  -- The final state is the one after all events in turn.
  pub a_batch_is_its_events : (batch anc numbers out s).answer ≡ 0 → (batch anc numbers out s).state ≡ state_after anc (event_in numbers) s (events_of numbers)
  a_batch_is_its_events z = taken ((batch anc numbers out s).state ≡ state_after anc (event_in numbers) s (events_of numbers)) z (λ r e. ap (λ (x : Run). x.state) e ∙ after-played anc (event_in numbers) s (events_of numbers) out)

  -- What is told of the event at place k is answer, sent and moved's count of `event` on the state after the first k.
  pub a_batch_tells_of_each : (batch anc numbers out s).answer ≡ 0 → (k : ℕ) → k < events_of numbers → NumbersOf (event anc (state_after anc (event_in numbers) s k) (event_in numbers k)) (batch anc numbers out s).answers k
  a_batch_tells_of_each z k l =
      taken (NumbersOf (event anc (state_after anc (event_in numbers) s k) (event_in numbers k)) (batch anc numbers out s).answers k) z
      (λ r e. subst (λ (x : Run). NumbersOf (event anc (state_after anc (event_in numbers) s k) (event_in numbers k)) x.answers k) (sym e) (numbers-played anc (event_in numbers) s (events_of numbers) k out r l))

  -- Places past what is written stay as found.
  pub places_past_stay : (batch anc numbers out s).answer ≡ 0 → (i : ℕ) → 3 * events_of numbers ≤ i → get_or (batch anc numbers out s).answers i 0 ≡ get_or out i 0
  places_past_stay z i l =
      taken (get_or (batch anc numbers out s).answers i 0 ≡ get_or out i 0) z
      (λ r e. ap (λ (x : Run). get_or x.answers i 0) e ∙ played_keeps anc (event_in numbers) (events_of numbers) 0 s out i (inr (omega arith)))

-- A batch is called in its state's form. Every state on the way has that form, so each event goes by its own state's.
pub a_batch_keeps_the_form : (numbers : List ℕ) (s : State) (k : ℕ) → own_tree (state_after (own_tree s) (event_in numbers) s k) ≡ own_tree s
a_batch_keeps_the_form numbers s k = let e = after_keeps_the_form (own_tree s) (event_in numbers) s k in ap₂ tree_of e.0 e.1

-- ---- a state of the group

-- Batches reach what accepted events reach: all that is shown of reached states holds after any batches.
pub a_batch_reaches : (anc : ℕ → ℕ) (n : ℕ) (numbers out : List ℕ) (s : State) → Reaches anc n s → Reaches anc n (batch anc numbers out s).state
a_batch_reaches anc n numbers out s run =
    ⊎_elim
    (λ (z : (batch anc numbers out s).answer ≡ 0). subst (Reaches anc n) (sym (a_batch_is_its_events anc numbers out s z)) (after_reaches anc n (event_in numbers) s run (events_of numbers)))
    (λ (d : (batch anc numbers out s).answer ≡ 0 → ⊥). subst (Reaches anc n) (sym (a_refused_batch_changes_nothing anc numbers out s d).0) run)
    (eq_or_ne (batch anc numbers out s).answer 0)
