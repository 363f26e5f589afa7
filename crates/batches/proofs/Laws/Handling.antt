-- A batch along its code: its own checks, then size and order once for all events. Assumes nothing.
use mathlib.Core.Path.{◌≡◌, refl, sym, ap, ◌∙◌}
use mathlib.Core.Bool.{Bool, true, false}
use mathlib.Core.List.{List}
use Prim.Native.Nat.{ℕ, ◌*◌, ◌/◌, ◌%◌, ◌≤◌, ◌<◌}
use lib.ListN.{length}
use borrow.Author.Tests.{eq-eqb, ne_eqb, lt-ltb, le-ltb}
use Rattle.tree.specs.Calls.{wrong_size}
use Rattle.state.specs.declared.State.{State}
use Rattle.order.specs.Order.{in_order}
use Rattle.group.specs.Events.{refused}
use Rattle.group.proofs.Laws.Events.{event_wrong_size, event_disordered}
use Rattle.playing.specs.Playing.{Run, event_in, played, spelt}
use Rattle.playing.proofs.Laws.Playing.{played-refused, played-answers, played-spelt}
use Rattle.batches.specs.Batches.{refused_batch, batch, refused_each}

-- ---- size and order, once

parts_of : (x : Run) (s : State) (o out : List ℕ) → x ≡ record { answer = 0; state = s; answers = out } → o ≡ out → (s ≡ x.state) × (o ≡ x.answers)
parts_of x s o out e f = rw (e, f) (refl, refl)

pub each_wrong_size : (anc : ℕ → ℕ) (numbers : List ℕ) (total : ℕ) (s : State) (out o : List ℕ) (t : Bool) → t ≡ wrong_size s.group.n → t ≡ true → o ≡ refused_each 1 total out
    → (s ≡ (played anc (event_in numbers) total 0 s out).state) × (o ≡ (played anc (event_in numbers) total 0 s out).answers)
each_wrong_size anc numbers total s out o t e f g =
    parts_of (played anc (event_in numbers) total 0 s out) s o (refused_each 1 total out) (played-refused anc (event_in numbers) 1 s (λ ev. sym (event_wrong_size anc s ev t (refused 1 s) e f refl)) total out) g

pub each_disordered : (anc : ℕ → ℕ) (numbers : List ℕ) (total : ℕ) (s : State) (out o : List ℕ) (t u : Bool) → t ≡ wrong_size s.group.n → t ≡ false → u ≡ in_order anc s → u ≡ false → o ≡ refused_each 2 total out
    → (s ≡ (played anc (event_in numbers) total 0 s out).state) × (o ≡ (played anc (event_in numbers) total 0 s out).answers)
each_disordered anc numbers total s out o t u e f g h i =
    parts_of (played anc (event_in numbers) total 0 s out) s o (refused_each 2 total out) (played-refused anc (event_in numbers) 2 s (λ ev. sym (event_disordered anc s ev t u (refused 2 s) e f g h refl)) total out) i

pub each-played : (anc : ℕ → ℕ) (numbers : List ℕ) (total : ℕ) (s r : State) (out o v : List ℕ) → 3 * total ≤ length out → o ≡ spelt (event_in numbers) total out
    → r ≡ (played anc (event_in o) total 0 s o).state → v ≡ (played anc (event_in o) total 0 s o).answers
    → (r ≡ (played anc (event_in numbers) total 0 s out).state) × (v ≡ (played anc (event_in numbers) total 0 s out).answers)
each-played anc numbers total s r out o v l e f g =
    let p : played anc (event_in o) total 0 s o ≡ played anc (event_in numbers) total 0 s out = ap (λ (x : List ℕ). played anc (event_in x) total 0 s x) e ∙ played-spelt anc (event_in numbers) total s out l in
    (f ∙ ap (λ (x : Run). x.state) p, g ∙ ap (λ (x : Run). x.answers) p)

-- ---- the batch's own checks

-- what the three parts of a batch's answer are
reply_of : (anc : ℕ → ℕ) (numbers out v : List ℕ) (s r : State) (a : ℕ) (x : Run) → batch anc numbers out s ≡ x → a ≡ x.answer → r ≡ x.state → v ≡ x.answers
    → (a ≡ (batch anc numbers out s).answer) × ((r ≡ (batch anc numbers out s).state) × (v ≡ (batch anc numbers out s).answers))
reply_of anc numbers out v s r a x e f g h = rw e (f, (g, h))

pub batch-uneven : (anc : ℕ → ℕ) (numbers out : List ℕ) (s : State) → (length numbers % 3 ≡ 0 → ⊥)
    → (40 ≡ (batch anc numbers out s).answer) × ((s ≡ (batch anc numbers out s).state) × (out ≡ (batch anc numbers out s).answers))
unfolding batch refused_batch
batch-uneven anc numbers out s d = reply_of anc numbers out out s s 40 (refused_batch 40 out s) (rw (ne_eqb (length numbers % 3) 0 d)) refl refl refl

pub batch_short : (anc : ℕ → ℕ) (numbers out : List ℕ) (s : State) → length numbers % 3 ≡ 0 → length out < 3 * (length numbers / 3)
    → (41 ≡ (batch anc numbers out s).answer) × ((s ≡ (batch anc numbers out s).state) × (out ≡ (batch anc numbers out s).answers))
unfolding batch refused_batch
batch_short anc numbers out s d l = reply_of anc numbers out out s s 41 (refused_batch 41 out s) (rw (eq-eqb (length numbers % 3) 0 d, lt-ltb (length out) (3 * (length numbers / 3)) l)) refl refl refl

pub batch_taken : (anc : ℕ → ℕ) (numbers out v : List ℕ) (s r : State) → length numbers % 3 ≡ 0 → 3 * (length numbers / 3) ≤ length out
    → r ≡ (played anc (event_in numbers) (length numbers / 3) 0 s out).state → v ≡ (played anc (event_in numbers) (length numbers / 3) 0 s out).answers
    → (0 ≡ (batch anc numbers out s).answer) × ((r ≡ (batch anc numbers out s).state) × (v ≡ (batch anc numbers out s).answers))
unfolding batch
batch_taken anc numbers out v s r d l e f =
    reply_of anc numbers out v s r 0 (played anc (event_in numbers) (length numbers / 3) 0 s out)
    (rw (eq-eqb (length numbers % 3) 0 d, le-ltb (length out) (3 * (length numbers / 3)) l)) (sym (played-answers anc (event_in numbers) (length numbers / 3) 0 s out)) e f
