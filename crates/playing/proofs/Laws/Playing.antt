-- Events one after the other: what the answers and the final state depend on, and what stays. Assumes nothing.
use mathlib.Core.Path.{◌≡◌, refl, sym, ap, ◌∙◌}
use mathlib.Core.List.{List}
use mathlib.Core.Logic.{◌⊎◌, inl, inr, ⊎_elim}
use Prim.Native.Nat.{ℕ, zero, suc, ◌+◌, ◌*◌, ◌≤◌, ◌<◌}
use native.Mathlib.Numerals.{add-one}
use native.Mathlib.Omega.{arith}
use lib.ListN.{length, get_or}
use lib.Seq.{ext_get_or}
use Rattle.sets.proofs.Laws.Bools.{lt-or-le}
use Rattle.tree.specs.Tree.{nobody}
use Rattle.events.specs.declared.Event.{Event}
use Rattle.events.specs.Events.{event_of}
use Rattle.state.specs.declared.State.{State}
use Rattle.order.specs.Between.{InOrder}
use Rattle.group.specs.Events.{Stepped, refused, event}
use Rattle.group.specs.Reaching.{SameForm}
use Rattle.group.proofs.Laws.Events.{refused_says}
use Rattle.group.proofs.Forms.{an_event_keeps_the_form}
use Rattle.group.proofs.Laws.Moving.{event_keeps_order}
use Rattle.playing.specs.Playing.{Run, written, told, event_in, played, spelt}
use Rattle.playing.proofs.Laws.Slices.{written-long, written_keeps, agree_written, spelt-long, spelt_keeps, spelt_reads}

told-long : (out : List ℕ) (k : ℕ) (r : Stepped) → length (told out k r) ≡ length out
unfolding told
told-long out k r = written-long out k r.answer r.sent r.moved.count

-- ---- event by event

pub played-none : (anc : ℕ → ℕ) (events : ℕ → Event) (k : ℕ) (s : State) (out : List ℕ) → played anc events zero k s out ≡ record { answer = 0; state = s; answers = out }
unfolding played
played-none anc events k s out = refl

pub played-tells : (anc : ℕ → ℕ) (events : ℕ → Event) (left k : ℕ) (s : State) (out : List ℕ) (r : Stepped) → event anc s (events k) ≡ r
    → played anc events (suc left) k s out ≡ played anc events left (k + 1) r.state (told out k r)
unfolding played
played-tells anc events left k s out r e = rw e

pub played-next : (anc : ℕ → ℕ) (events : ℕ → Event) (left k : ℕ) (s : State) (out : List ℕ) (r : Stepped) → event anc s (events k) ≡ r
    → played anc events (suc left) k s out ≡ played anc events left (k + 1) r.state (written out k r.answer r.sent r.moved.count)
unfolding told
played-next = played-tells

-- The final state has the form and the box size of the first.
pub played_keeps_the_form : (anc : ℕ → ℕ) (events : ℕ → Event) (left k : ℕ) (s : State) (out : List ℕ) → SameForm (played anc events left k s out).state s
unfolding played
played_keeps_the_form anc events zero k s out = (refl, refl)
played_keeps_the_form anc events (suc left) k s out =
    let r = event anc s (events k) in
    let e = played_keeps_the_form anc events left (k + 1) r.state (told out k r) in
    let f = an_event_keeps_the_form anc s (events k) in
    (e.0 ∙ f.0, e.1 ∙ f.1)

-- Events in two turns.
pub played_splits : (anc : ℕ → ℕ) (events : ℕ → Event) (i j k : ℕ) (s : State) (out : List ℕ)
    → played anc events (i + j) k s out ≡ played anc events j (k + i) (played anc events i k s out).state (played anc events i k s out).answers
played_splits anc events zero j k s out =
    let p : zero + j ≡ j = omega arith in
    let q : k + zero ≡ k = omega arith in
    rw (played-none anc events k s out, p, q)
played_splits anc events (suc i) j k s out =
    let u = event anc s (events k) in
    let p : suc i + j ≡ suc (i + j) = omega arith in
    let q : k + suc i ≡ k + 1 + i = omega arith in
    rw (p, q, played-next anc events (i + j) k s out u refl, played-next anc events i k s out u refl)
    (played_splits anc events i j (k + 1) u.state (written out k u.answer u.sent u.moved.count))

-- Where every event is refused alike, the state stays and each is told so.
module _ (anc : ℕ → ℕ) (events : ℕ → Event) (number : ℕ) (s : State) (alike : (ev : Event) → event anc s ev ≡ refused number s) where
  abbrev each : ℕ → List ℕ → List ℕ
  each k out = spelt (λ i. event_of number 0 0) k out

  refused_from : (left k : ℕ) (out : List ℕ) → played anc events left k s (each k out) ≡ record { answer = 0; state = s; answers = each (k + left) out }
  unfolding spelt
  refused_from zero k out = played-none anc events k s (each k out) ∙ ap {B = Run} (λ (i : ℕ). record { answer = 0; state = s; answers = each i out }) (let e : k ≡ k + 0 = omega arith in e)
  refused_from (suc left) k out =
      played-next anc events left k s (each k out) (record { answer = number; sent = 0; moved = nobody; state = s }) (alike (events k) ∙ refused_says number s)
      ∙ ap (λ (i : ℕ). played anc events left i s (each (suc k) out)) (add-one k)
      ∙ refused_from left (suc k) out
      ∙ ap {B = Run} (λ (i : ℕ). record { answer = 0; state = s; answers = each i out }) (let e : suc k + left ≡ k + suc left = omega arith in e)

  pub played-refused : (total : ℕ) (out : List ℕ) → played anc events total 0 s out ≡ record { answer = 0; state = s; answers = each total out }
  unfolding spelt
  played-refused total out = refused_from total 0 out ∙ ap {B = Run} (λ (i : ℕ). record { answer = 0; state = s; answers = each i out }) (let e : 0 + total ≡ total = omega arith in e)

-- ---- what stays

pub played-answers : (anc : ℕ → ℕ) (events : ℕ → Event) (left k : ℕ) (s : State) (out : List ℕ) → (played anc events left k s out).answer ≡ 0
unfolding played
played-answers anc events zero k s out = refl
played-answers anc events (suc left) k s out = played-answers anc events left (k + 1) (event anc s (events k)).state (told out k (event anc s (events k)))

pub played-long : (anc : ℕ → ℕ) (events : ℕ → Event) (left k : ℕ) (s : State) (out : List ℕ) → length (played anc events left k s out).answers ≡ length out
unfolding played
played-long anc events zero k s out = refl
played-long anc events (suc left) k s out = played-long anc events left (k + 1) (event anc s (events k)).state (told out k (event anc s (events k))) ∙ told-long out k (event anc s (events k))

-- A state in order stays so.
pub played_in_order : (anc : ℕ → ℕ) (events : ℕ → Event) (left k : ℕ) (s : State) (out : List ℕ) → InOrder anc s → InOrder anc (played anc events left k s out).state
unfolding played
played_in_order anc events zero k s out o = o
played_in_order anc events (suc left) k s out o = played_in_order anc events left (k + 1) (event anc s (events k)).state (told out k (event anc s (events k))) (event_keeps_order anc s (events k) o)

-- The places before the first and past the last event's stay as found.
pub played_keeps : (anc : ℕ → ℕ) (events : ℕ → Event) (left k : ℕ) (s : State) (out : List ℕ) (i : ℕ) → (i < 3 * k) ⊎ (3 * (k + left) ≤ i) → get_or (played anc events left k s out).answers i 0 ≡ get_or out i 0
unfolding played told
played_keeps anc events zero k s out i l = refl
played_keeps anc events (suc left) k s out i l =
    let r = event anc s (events k) in
    played_keeps anc events left (k + 1) r.state (told out k r) i (⊎_elim (λ (h : i < 3 * k). inl (omega arith)) (λ (h : 3 * (k + suc left) ≤ i). inr (omega arith)) l)
    ∙ written_keeps out k r.answer r.sent r.moved.count i (⊎_elim (λ (h : i < 3 * k). inl h) (λ (h : 3 * (k + suc left) ≤ i). inr (omega arith)) l)

-- The same events at the places played have the same end.
pub played_alike : (anc : ℕ → ℕ) (e f : ℕ → Event) (left k : ℕ) (s : State) (out : List ℕ) → ((i : ℕ) → i < k + left → e i ≡ f i) → played anc e left k s out ≡ played anc f left k s out
unfolding played
played_alike anc e f zero k s out h = refl
played_alike anc e f (suc left) k s out h =
    played_alike anc e f left (k + 1) (event anc s (e k)).state (told out k (event anc s (e k))) (λ i l. h i (omega arith))
    ∙ ap (λ (x : Event). played anc f left (k + 1) (event anc s x).state (told out k (event anc s x))) (h k (omega arith))

-- The final state never reads the slice.
pub states_agree : (anc : ℕ → ℕ) (events : ℕ → Event) (left k : ℕ) (s : State) (a b : List ℕ) → (played anc events left k s a).state ≡ (played anc events left k s b).state
unfolding played
states_agree anc events zero k s a b = refl
states_agree anc events (suc left) k s a b = let r = event anc s (events k) in states_agree anc events left (k + 1) r.state (told a k r) (told b k r)

-- Every event's three places are written, whatever stood there: two slices that agree on the others end the same.
pub played_over : (anc : ℕ → ℕ) (events : ℕ → Event) (left k : ℕ) (s : State) (a b : List ℕ) → length a ≡ length b → 3 * (k + left) ≤ length a
    → ((i : ℕ) → (i < 3 * k) ⊎ (3 * (k + left) ≤ i) → get_or a i 0 ≡ get_or b i 0) → played anc events left k s a ≡ played anc events left k s b
unfolding played told
played_over anc events zero k s a b e r h =
    ap {B = Run} (λ (x : List ℕ). record { answer = 0; state = s; answers = x })
    (ext_get_or 0 a b e (λ i l. h i (⊎_elim (λ (x : i < 3 * k). inl x) (λ (x : 3 * k ≤ i). inr (omega arith)) (lt-or-le i (3 * k)))))
played_over anc events (suc left) k s a b e r h =
    let t = event anc s (events k) in
    let la : length (told a k t) ≡ length a = told-long a k t in
    let lb : length (told b k t) ≡ length b = told-long b k t in
    played_over anc events left (k + 1) t.state (told a k t) (told b k t) (la ∙ e ∙ sym lb) (omega arith)
    (λ i l. agree_written a b k t.answer t.sent t.moved.count i (omega arith) (omega arith)
    (λ m. h i (⊎_elim (λ (x : i < 3 * k). inl x) (λ (x : 3 * k + 3 ≤ i). inr (⊎_elim (λ (y : i < 3 * (k + 1)). absurd (omega arith)) (λ (y : 3 * (k + 1 + left) ≤ i). omega arith) l)) m)))

-- What is told of an event does not depend on what the slice held, nor on its length.
pub answers_agree : (anc : ℕ → ℕ) (events : ℕ → Event) (left k : ℕ) (s : State) (a b : List ℕ) → 3 * (k + left) ≤ length a → 3 * (k + left) ≤ length b
    → ((j : ℕ) → j < 3 * k → get_or a j 0 ≡ get_or b j 0) → (j : ℕ) → j < 3 * (k + left) → get_or (played anc events left k s a).answers j 0 ≡ get_or (played anc events left k s b).answers j 0
unfolding played told
answers_agree anc events zero k s a b q r h = λ j l. h j (omega arith)
answers_agree anc events (suc left) k s a b q r h =
    let t = event anc s (events k) in
    let la : length (told a k t) ≡ length a = told-long a k t in
    let lb : length (told b k t) ≡ length b = told-long b k t in
    let z = answers_agree anc events left (k + 1) t.state (told a k t) (told b k t) (omega arith) (omega arith)
    (λ j l. agree_written a b k t.answer t.sent t.moved.count j (omega arith) (omega arith)
    (λ m. h j (⊎_elim (λ (x : j < 3 * k). x) (λ (x : 3 * k + 3 ≤ j). absurd (omega arith)) m))) in
    λ j l. z j (omega arith)

-- So events that are spelt out in the slice itself are played like those at their source.
pub played-spelt : (anc : ℕ → ℕ) (events : ℕ → Event) (t : ℕ) (s : State) (out : List ℕ) → 3 * t ≤ length out
    → played anc (event_in (spelt events t out)) t 0 s (spelt events t out) ≡ played anc events t 0 s out
played-spelt anc events t s out r =
    let e : length (spelt events t out) ≡ length out = spelt-long events t out in
    played_alike anc (event_in (spelt events t out)) events t 0 s (spelt events t out) (λ i l. spelt_reads events t out i r (omega arith))
    ∙ played_over anc events t 0 s (spelt events t out) out e (omega arith)
    (λ i l. ⊎_elim (λ (x : i < 3 * 0). absurd (omega arith)) (λ (x : 3 * (0 + t) ≤ i). spelt_keeps events t out i (omega arith)) l)
