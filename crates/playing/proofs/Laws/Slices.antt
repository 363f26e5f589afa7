-- Three numbers at a place: which places change, and what is read back. Assumes nothing.
use mathlib.Core.Path.{◌≡◌, refl, sym, ap, ◌∙◌}
use mathlib.Core.List.{List}
use mathlib.Core.Logic.{◌⊎◌, inl, inr, ⊎_elim}
use Prim.Native.Nat.{ℕ, zero, suc, ◌+◌, ◌*◌, ◌≤◌, ◌<◌}
use native.Mathlib.Omega.{arith}
use lib.ListN.{length, get_or, set, length-set}
use lib.Seq.{get_or-set_same, get_or-set_other}
use Rattle.sets.proofs.Laws.Bools.{eq_or_ne, lt-or-le}
use Rattle.events.specs.declared.Event.{Event}
use Rattle.events.specs.Events.{event_of}
use Rattle.playing.specs.Playing.{written, event_in, spelt}

pub written-long : (out : List ℕ) (k x y z : ℕ) → length (written out k x y z) ≡ length out
unfolding written
written-long out k x y z = length-set (set (set out (3 * k) x) (3 * k + 1) y) (3 * k + 2) z ∙ length-set (set out (3 * k) x) (3 * k + 1) y ∙ length-set out (3 * k) x

-- Every other place keeps its number.
pub written_keeps : (out : List ℕ) (k x y z i : ℕ) → (i < 3 * k) ⊎ (3 * k + 3 ≤ i) → get_or (written out k x y z) i 0 ≡ get_or out i 0
unfolding written
written_keeps out k x y z i l =
    get_or-set_other (set (set out (3 * k) x) (3 * k + 1) y) (3 * k + 2) i z 0 (λ e. ⊎_elim (λ (h : i < 3 * k). omega arith) (λ (h : 3 * k + 3 ≤ i). omega arith) l)
    ∙ get_or-set_other (set out (3 * k) x) (3 * k + 1) i y 0 (λ e. ⊎_elim (λ (h : i < 3 * k). omega arith) (λ (h : 3 * k + 3 ≤ i). omega arith) l)
    ∙ get_or-set_other out (3 * k) i x 0 (λ e. ⊎_elim (λ (h : i < 3 * k). omega arith) (λ (h : 3 * k + 3 ≤ i). omega arith) l)

-- The three places of k have the three numbers.
pub record Three (out : List ℕ) (k x y z : ℕ) : Type 0 where
  pub first : get_or out (3 * k) 0 ≡ x
  pub second : get_or out (3 * k + 1) 0 ≡ y
  pub third : get_or out (3 * k + 2) 0 ≡ z

pub written-three : (out : List ℕ) (k x y z : ℕ) → 3 * k + 3 ≤ length out → Three (written out k x y z) k x y z
unfolding written
written-three out k x y z l =
    let one = set out (3 * k) x in
    let two = set one (3 * k + 1) y in
    let la : length one ≡ length out = length-set out (3 * k) x in
    let lb : length two ≡ length one = length-set one (3 * k + 1) y in
    record {
      first = get_or-set_other two (3 * k + 2) (3 * k) z 0 (λ e. omega arith) ∙ get_or-set_other one (3 * k + 1) (3 * k) y 0 (λ e. omega arith) ∙ get_or-set_same out (3 * k) x 0 (omega arith);
      second = get_or-set_other two (3 * k + 2) (3 * k + 1) z 0 (λ e. omega arith) ∙ get_or-set_same one (3 * k + 1) y 0 (omega arith);
      third = get_or-set_same two (3 * k + 2) z 0 (omega arith);
    }

-- An event is read from its three numbers.
pub reads_three : (numbers : List ℕ) (k x y z : ℕ) → Three numbers k x y z → event_in numbers k ≡ event_of x y z
unfolding event_in
reads_three numbers k x y z t = rw (t.first, t.second, t.third)

-- They stay where the numbers at the places do.
pub three_stays : (a b : List ℕ) (k x y z : ℕ) → ((i : ℕ) → 3 * k ≤ i → i < 3 * k + 3 → get_or b i 0 ≡ get_or a i 0) → Three a k x y z → Three b k x y z
three_stays a b k x y z h t = record { first = h (3 * k) (omega arith) (omega arith) ∙ t.first; second = h (3 * k + 1) (omega arith) (omega arith) ∙ t.second; third = h (3 * k + 2) (omega arith) (omega arith) ∙ t.third }

-- What is written at a place, whatever stood there.
agree_set : (a b : List ℕ) (i v j : ℕ) → i < length a → i < length b → ((j ≡ i → ⊥) → get_or a j 0 ≡ get_or b j 0) → get_or (set a i v) j 0 ≡ get_or (set b i v) j 0
agree_set a b i v j l m h = ⊎_elim here there (eq_or_ne j i)
  where
    here : j ≡ i → get_or (set a i v) j 0 ≡ get_or (set b i v) j 0
    here e = rw e (get_or-set_same a i v 0 l ∙ sym (get_or-set_same b i v 0 m))

    there : (j ≡ i → ⊥) → get_or (set a i v) j 0 ≡ get_or (set b i v) j 0
    there d = get_or-set_other a i j v 0 d ∙ h d ∙ sym (get_or-set_other b i j v 0 d)

pub agree_written : (a b : List ℕ) (k x y z j : ℕ) → 3 * k + 3 ≤ length a → 3 * k + 3 ≤ length b → ((j < 3 * k) ⊎ (3 * k + 3 ≤ j) → get_or a j 0 ≡ get_or b j 0) → get_or (written a k x y z) j 0 ≡ get_or (written b k x y z) j 0
unfolding written
agree_written a b k x y z j l m h =
    let a1 = set a (3 * k) x in
    let b1 = set b (3 * k) x in
    let a2 = set a1 (3 * k + 1) y in
    let b2 = set b1 (3 * k + 1) y in
    let la : length a1 ≡ length a = length-set a (3 * k) x in
    let lb : length b1 ≡ length b = length-set b (3 * k) x in
    let la2 : length a2 ≡ length a1 = length-set a1 (3 * k + 1) y in
    let lb2 : length b2 ≡ length b1 = length-set b1 (3 * k + 1) y in
    agree_set a2 b2 (3 * k + 2) z j (omega arith) (omega arith)
    (λ d. agree_set a1 b1 (3 * k + 1) y j (omega arith) (omega arith)
    (λ e. agree_set a b (3 * k) x j (omega arith) (omega arith)
    (λ f. ⊎_elim (λ (i : j < 3 * k). h (inl i)) (λ (i : 3 * k ≤ j). h (inr (omega arith))) (lt-or-le j (3 * k)))))

-- ---- events spelt out

pub spelt-long : (events : ℕ → Event) (k : ℕ) (out : List ℕ) → length (spelt events k out) ≡ length out
unfolding spelt
spelt-long events zero out = refl
spelt-long events (suc k) out = written-long (spelt events k out) k (events k).kind (events k).a (events k).b ∙ spelt-long events k out

-- so there is as much room
pub spelt-room : (events : ℕ → Event) (t : ℕ) (out o : List ℕ) → o ≡ spelt events t out → 3 * t ≤ length out → 3 * t ≤ length o
spelt-room events t out o e r = let l : length o ≡ length out = ap length e ∙ spelt-long events t out in omega arith

-- The places past them stay as found.
pub spelt_keeps : (events : ℕ → Event) (k : ℕ) (out : List ℕ) (i : ℕ) → 3 * k ≤ i → get_or (spelt events k out) i 0 ≡ get_or out i 0
unfolding spelt
spelt_keeps events zero out i l = refl
spelt_keeps events (suc k) out i l =
    written_keeps (spelt events k out) k (events k).kind (events k).a (events k).b i (inr (omega arith)) ∙ spelt_keeps events k out i (omega arith)

spelt-three : (events : ℕ → Event) (t : ℕ) (out : List ℕ) (k : ℕ) → 3 * t ≤ length out → k < t → Three (spelt events t out) k (events k).kind (events k).a (events k).b
unfolding spelt
spelt-three events zero out k l h = absurd (omega arith)
spelt-three events (suc t) out k l h = ⊎_elim (λ (m : k < t). before m (spelt-three events t out k (omega arith) m)) here (lt-or-le k t)
  where
    o : List ℕ
    o = spelt events t out

    long : length o ≡ length out
    long = spelt-long events t out

    before : k < t → Three o k (events k).kind (events k).a (events k).b → Three (written o t (events t).kind (events t).a (events t).b) k (events k).kind (events k).a (events k).b
    before m x =
        three_stays o (written o t (events t).kind (events t).a (events t).b) k (events k).kind (events k).a (events k).b
        (λ i p q. written_keeps o t (events t).kind (events t).a (events t).b i (inl (omega arith))) x

    here : t ≤ k → Three (written o t (events t).kind (events t).a (events t).b) k (events k).kind (events k).a (events k).b
    here m =
        let e : k ≡ t = omega arith in
        rw e (written-three o t (events t).kind (events t).a (events t).b (omega (arith, long)))

-- and an event is read back from its place.
pub spelt_reads : (events : ℕ → Event) (t : ℕ) (out : List ℕ) (k : ℕ) → 3 * t ≤ length out → k < t → event_in (spelt events t out) k ≡ events k
spelt_reads events t out k l h = reads_three (spelt events t out) k (events k).kind (events k).a (events k).b (spelt-three events t out k l h)

-- Where two runs of numbers agree on the three places, they hold the same event.
pub reads_alike : (a b : List ℕ) (k : ℕ) → ((i : ℕ) → 3 * k ≤ i → i < 3 * k + 3 → get_or a i 0 ≡ get_or b i 0) → event_in a k ≡ event_in b k
unfolding event_in
reads_alike a b k h = rw (h (3 * k) (omega arith) (omega arith), h (3 * k + 1) (omega arith) (omega arith), h (3 * k + 2) (omega arith) (omega arith))
