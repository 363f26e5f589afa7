-- The final state and the numbers are those of `event`, one event after the other, on the state that the one before left; and from a
-- reached state every state on the way is reached by accepted events. Assumes nothing.
use mathlib.Core.Path.{◌≡◌, refl, sym, ap, subst, ◌∙◌}
use mathlib.Core.List.{List}
use mathlib.Core.Logic.{◌⊎◌, inl, inr, ⊎_elim}
use Prim.Native.Nat.{ℕ, zero, suc, ◌+◌, ◌*◌, ◌≤◌, ◌<◌}
use native.Mathlib.Numerals.{add-one}
use native.Mathlib.Omega.{arith}
use lib.ListN.{length}
use Rattle.sets.proofs.Laws.Bools.{eq_or_ne}
use Rattle.events.specs.declared.Event.{Event}
use Rattle.state.specs.declared.State.{State}
use Rattle.group.specs.Events.{Stepped, event}
use Rattle.group.specs.Reaching.{Reaches, next, SameForm}
use Rattle.group.proofs.Laws.Events.{refused_stays}
use Rattle.group.proofs.Forms.{an_event_keeps_the_form}
use Rattle.playing.specs.Playing.{Run, told, played}
use Rattle.playing.specs.Reaching.{state_after, NumbersOf}
use Rattle.playing.proofs.Laws.Slices.{Three, written-long, written-three, three_stays}
use Rattle.playing.proofs.Laws.Playing.{played_keeps}

numbers_of : (r : Stepped) (numbers : List ℕ) (k : ℕ) → Three numbers k r.answer r.sent r.moved.count → NumbersOf r numbers k
numbers_of r numbers k t = record { answer_is = t.first; sent_is = t.second; moved_is = t.third }

module _ (anc : ℕ → ℕ) (events : ℕ → Event) (s : State) where
  -- One event of a run that is at its own state.
  plays : (more k : ℕ) (out : List ℕ) → played anc events (suc more) k (state_after anc events s k) out
      ≡ played anc events more (suc k) (state_after anc events s (suc k)) (told out k (event anc (state_after anc events s k) (events k)))
  unfolding played state_after
  plays more k out =
      let r = event anc (state_after anc events s k) (events k) in
      ap (λ (i : ℕ). played anc events more i r.state (told out k r)) (add-one k)

  after_from : (more k : ℕ) (out : List ℕ) → (played anc events more k (state_after anc events s k) out).state ≡ state_after anc events s (k + more)
  unfolding played
  after_from zero k out = ap (state_after anc events s) (let e : k ≡ k + 0 = omega arith in e)
  after_from (suc more) k out =
      ap (λ (e : Run). e.state) (plays more k out) ∙ after_from more (suc k) (told out k (event anc (state_after anc events s k) (events k)))
      ∙ ap (state_after anc events s) (let e : suc k + more ≡ k + suc more = omega arith in e)

  -- The final state is the one after all events.
  pub after-played : (total : ℕ) (out : List ℕ) → (played anc events total 0 s out).state ≡ state_after anc events s total
  unfolding state_after
  after-played total out = after_from total 0 out ∙ ap (state_after anc events s) (let e : 0 + total ≡ total = omega arith in e)

  -- Every state on the way has the form and the box size of the first.
  pub after_keeps_the_form : (k : ℕ) → SameForm (state_after anc events s k) s
  unfolding state_after
  after_keeps_the_form zero = (refl, refl)
  after_keeps_the_form (suc k) =
      let e = an_event_keeps_the_form anc (state_after anc events s k) (events k) in
      let f = after_keeps_the_form k in
      (e.0 ∙ f.0, e.1 ∙ f.1)

  numbers_from : (more k j : ℕ) (out : List ℕ) → 3 * (k + more) ≤ length out → k ≤ j → j < k + more
      → NumbersOf (event anc (state_after anc events s j) (events j)) (played anc events more k (state_after anc events s k) out).answers j
  unfolding told
  numbers_from zero k j out r l m = absurd (omega arith)
  numbers_from (suc more) k j out r l m =
      let t = event anc (state_after anc events s k) (events k) in
      let o : List ℕ = told out k t in
      let e : length o ≡ length out = written-long out k t.answer t.sent t.moved.count in
      let end : List ℕ = (played anc events more (suc k) (state_after anc events s (suc k)) o).answers in
      subst (λ (x : Run). NumbersOf (event anc (state_after anc events s j) (events j)) x.answers j) (sym (plays more k out))
      (⊎_elim
      (λ (q : j ≡ k). subst (λ (i : ℕ). NumbersOf (event anc (state_after anc events s i) (events i)) end i) (sym q) (numbers_of t end k (three_stays o end k t.answer t.sent t.moved.count (λ i b c. played_keeps anc events more (suc k) (state_after anc events s (suc k)) o i (inl (omega arith))) (written-three out k t.answer t.sent t.moved.count (omega arith)))))
      (λ (q : j ≡ k → ⊥). numbers_from more (suc k) j o (omega arith) (omega arith) (omega arith))
      (eq_or_ne j k))

  -- The three numbers at place k are answer, sent and moved's count of `event` on the state after the first k events.
  pub numbers-played : (total k : ℕ) (out : List ℕ) → 3 * total ≤ length out → k < total → NumbersOf (event anc (state_after anc events s k) (events k)) (played anc events total 0 s out).answers k
  unfolding state_after
  numbers-played total k out r l = numbers_from total 0 k out (omega arith) (omega arith) (omega arith)

-- From a state of the group every state on the way is one.
pub after_reaches : (anc : ℕ → ℕ) (n : ℕ) (events : ℕ → Event) (s : State) → Reaches anc n s → (k : ℕ) → Reaches anc n (state_after anc events s k)
unfolding state_after
after_reaches anc n events s run zero = run
after_reaches anc n events s run (suc k) = go (state_after anc events s k) (after_reaches anc n events s run k) (eq_or_ne (event anc (state_after anc events s k) (events k)).answer 0)
  where
    go : (t : State) → Reaches anc n t → ((event anc t (events k)).answer ≡ 0) ⊎ ((event anc t (events k)).answer ≡ 0 → ⊥) → Reaches anc n (event anc t (events k)).state
    go t r (inl z) = next t (events k) r z
    go t r (inr d) = subst (Reaches anc n) (sym (refused_stays anc t (events k) d)) r
