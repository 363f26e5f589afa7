-- Events played on parts of two slices are events played on the slices: the same final state, and the same numbers from the part's start on.
-- Assumes nothing.
use mathlib.Core.Path.{◌≡◌, refl, sym, ap, ◌∙◌}
use mathlib.Core.List.{List}
use mathlib.Core.Logic.{◌⊎◌, inl, inr, ⊎_elim}
use Prim.Native.Nat.{ℕ, zero, suc, ◌+◌, ◌*◌, ◌-◌, ◌/◌, ◌%◌, ◌≤◌, ◌<◌}
use native.Mathlib.Omega.{arith}
use lib.ListN.{length, get_or, take, drop, length-drop}
use lib.Seq.{ext_get_or, get_or-take, get_or-drop, length-take-le}
use borrow.Rule.Slice.PartMut.{mid_of, put_mid, mid_len, put_same, Post-is}
use Rattle.sets.proofs.Laws.Bools.{lt-or-le}
use Rattle.events.specs.declared.Event.{Event}
use Rattle.state.specs.declared.State.{State}
use Rattle.group.specs.Events.{event}
use Rattle.playing.specs.Playing.{Run, written, event_in, played}
use Rattle.playing.proofs.Laws.Slices.{Three, written-long, written_keeps, written-three, reads_three}
use Rattle.playing.proofs.Laws.Playing.{played-none, played-next, played-long, played_keeps}
use Rattle.batches.specs.Batches.{batch}
use Rattle.batches.proofs.Laws.Handling.{batch_taken}

-- ---- numbers at places

-- The number at a place of a part.
mid_at : (a n : ℕ) (numbers : List ℕ) (i j : ℕ) → i < n → a + i ≡ j → get_or (mid_of a n numbers) i 0 ≡ get_or numbers j 0
mid_at a n numbers i j l e = get_or-take n (drop a numbers) i 0 l ∙ get_or-drop a numbers i 0 ∙ ap (λ (x : ℕ). get_or numbers x 0) e

-- Two slices with the same three numbers, at places i and m.
three-same : (a b : List ℕ) (i m x y z j t : ℕ) → Three a i x y z → Three b m x y z → 3 * i ≤ j → j < 3 * i + 3 → t + 3 * i ≡ 3 * m + j → get_or a j 0 ≡ get_or b t 0
three-same a b i m x y z j t p q l h e =
    ⊎_elim (λ (f : j < 3 * i + 1). at_first (omega arith)) (λ (f : 3 * i + 1 ≤ j). ⊎_elim (λ (g : j < 3 * i + 2). at_second (omega arith)) (λ (g : 3 * i + 2 ≤ j). at_third (omega arith)) (lt-or-le j (3 * i + 2))) (lt-or-le j (3 * i + 1))
  where
    at_first : j ≡ 3 * i → get_or a j 0 ≡ get_or b t 0
    at_first f = let g : t ≡ 3 * m = omega arith in rw (f, g) (p.first ∙ sym q.first)

    at_second : j ≡ 3 * i + 1 → get_or a j 0 ≡ get_or b t 0
    at_second f = let g : t ≡ 3 * m + 1 = omega arith in rw (f, g) (p.second ∙ sym q.second)

    at_third : j ≡ 3 * i + 2 → get_or a j 0 ≡ get_or b t 0
    at_third f = let g : t ≡ 3 * m + 2 = omega arith in rw (f, g) (p.third ∙ sym q.third)

-- An event of a part.
mid_reads : (k n : ℕ) (numbers : List ℕ) (i : ℕ) → 3 * i + 3 ≤ n → event_in (mid_of (3 * k) n numbers) i ≡ event_in numbers (k + i)
mid_reads k n numbers i l =
    let x = get_or numbers (3 * (k + i)) 0 in
    let y = get_or numbers (3 * (k + i) + 1) 0 in
    let z = get_or numbers (3 * (k + i) + 2) 0 in
    let t : Three (mid_of (3 * k) n numbers) i x y z = record {
      first = mid_at (3 * k) n numbers (3 * i) (3 * (k + i)) (omega arith) (omega arith);
      second = mid_at (3 * k) n numbers (3 * i + 1) (3 * (k + i) + 1) (omega arith) (omega arith);
      third = mid_at (3 * k) n numbers (3 * i + 2) (3 * (k + i) + 2) (omega arith) (omega arith);
    } in
    reads_three (mid_of (3 * k) n numbers) i x y z t ∙ sym (reads_three numbers (k + i) x y z (record { first = refl; second = refl; third = refl }))

-- The same three numbers written into both.
written_same : (a b : List ℕ) (k i x y z j : ℕ) → 3 * i + 3 ≤ length a → 3 * (k + i) + 3 ≤ length b → get_or a j 0 ≡ get_or b (3 * k + j) 0
    → get_or (written a i x y z) j 0 ≡ get_or (written b (k + i) x y z) (3 * k + j) 0
written_same a b k i x y z j p q e = ⊎_elim (λ (l : j < 3 * i). beside (inl l) (inl (omega arith))) (λ (l : 3 * i ≤ j). ⊎_elim (λ (h : j < 3 * i + 3). here l h) (λ (h : 3 * i + 3 ≤ j). beside (inr h) (inr (omega arith))) (lt-or-le j (3 * i + 3))) (lt-or-le j (3 * i))
  where
    beside : (j < 3 * i) ⊎ (3 * i + 3 ≤ j) → (3 * k + j < 3 * (k + i)) ⊎ (3 * (k + i) + 3 ≤ 3 * k + j) → get_or (written a i x y z) j 0 ≡ get_or (written b (k + i) x y z) (3 * k + j) 0
    beside l m = written_keeps a i x y z j l ∙ e ∙ sym (written_keeps b (k + i) x y z (3 * k + j) m)

    here : 3 * i ≤ j → j < 3 * i + 3 → get_or (written a i x y z) j 0 ≡ get_or (written b (k + i) x y z) (3 * k + j) 0
    here l h = three-same (written a i x y z) (written b (k + i) x y z) i (k + i) x y z j (3 * k + j) (written-three a i x y z p) (written-three b (k + i) x y z q) l h (omega arith)

-- ---- events played

-- A run on a part of n numbers that starts at place k, and the run on the whole.
record PartOf (k n : ℕ) (part whole : Run) : Type 0 where
  same-state : part.state ≡ whole.state
  same_numbers : (j : ℕ) → j < n → get_or part.answers j 0 ≡ get_or whole.answers (3 * k + j) 0

part_of : (anc : ℕ → ℕ) (e f : ℕ → Event) (k n left i : ℕ) (s : State) (a b : List ℕ) → ((j : ℕ) → j < i + left → e j ≡ f (k + j)) → 3 * (i + left) ≤ length a → 3 * (k + i + left) ≤ length b
    → ((j : ℕ) → j < n → get_or a j 0 ≡ get_or b (3 * k + j) 0) → PartOf k n (played anc e left i s a) (played anc f left (k + i) s b)
part_of anc e f k n zero i s a b h p q same = rw (played-none anc e i s a, played-none anc f (k + i) s b) (record { same-state = refl; same_numbers = same })
part_of anc e f k n (suc left) i s a b h p q same =
    let u = event anc s (e i) in
    let v = written a i u.answer u.sent u.moved.count in
    let w = written b (k + i) u.answer u.sent u.moved.count in
    let la : length v ≡ length a = written-long a i u.answer u.sent u.moved.count in
    let lb : length w ≡ length b = written-long b (k + i) u.answer u.sent u.moved.count in
    let g : k + i + 1 ≡ k + (i + 1) = omega arith in
    rw (played-next anc e left i s a u refl, played-next anc f left (k + i) s b u (ap (event anc s) (sym (h i (omega arith)))), g)
    (part_of anc e f k n left (i + 1) u.state v w (λ j l. h j (omega arith)) (omega arith) (omega arith)
    (λ j l. written_same a b k i u.answer u.sent u.moved.count j (omega arith) (omega arith) (same j l)))

-- ---- the part put back

-- A list that has ys from a to e, and elsewhere what xs has.
put_back : (a e : ℕ) (xs ys zs : List ℕ) → a ≤ e → e ≤ length xs → length ys ≡ e - a → length zs ≡ length xs → ((i : ℕ) → (i < a) ⊎ (e ≤ i) → get_or xs i 0 ≡ get_or zs i 0) → ((j : ℕ) → j < e - a → get_or ys j 0 ≡ get_or zs (a + j) 0)
    → put_mid a (e - a) xs ys ≡ zs
put_back a e xs ys zs l h ly lz outside inside = rw (before, middle, after) (put_same a (e - a) zs)
  where
    before : take a xs ≡ take a zs
    before =
        let lx : length (take a xs) ≡ a = length-take-le a xs (omega arith) in
        ext_get_or 0 (take a xs) (take a zs) (lx ∙ sym (length-take-le a zs (omega arith)))
        (λ i m. let n : i < a = omega arith in get_or-take a xs i 0 n ∙ outside i (inl n) ∙ sym (get_or-take a zs i 0 n))

    middle : ys ≡ mid_of a (e - a) zs
    middle = ext_get_or 0 ys (mid_of a (e - a) zs) (ly ∙ sym (mid_len a e zs (omega arith))) (λ j m. inside j (omega arith) ∙ sym (mid_at a (e - a) zs j (a + j) (omega arith) refl))

    after : drop (e - a) (drop a xs) ≡ drop (e - a) (drop a zs)
    after =
        Post-is a e xs l
        ∙ ext_get_or 0 (drop e xs) (drop e zs) (length-drop e xs ∙ ap (λ (n : ℕ). n - e) (sym lz) ∙ sym (length-drop e zs)) (λ i m. get_or-drop e xs i 0 ∙ outside (e + i) (inr (omega arith)) ∙ sym (get_or-drop e zs i 0))
        ∙ sym (Post-is a e zs l)

-- ---- a batch on parts

-- A batch of c events is these events played.
batch_plays : (anc : ℕ → ℕ) (numbers out : List ℕ) (s : State) (c : ℕ) → length numbers ≡ 3 * c → 3 * c ≤ length out
    → ((batch anc numbers out s).state ≡ (played anc (event_in numbers) c 0 s out).state) × ((batch anc numbers out s).answers ≡ (played anc (event_in numbers) c 0 s out).answers)
batch_plays anc numbers out s c e r =
    let even : length numbers % 3 ≡ 0 = omega arith in
    let many : length numbers / 3 ≡ c = omega arith in
    let x = batch_taken anc numbers out (played anc (event_in numbers) (length numbers / 3) 0 s out).answers s (played anc (event_in numbers) (length numbers / 3) 0 s out).state even (omega arith) refl refl in
    (sym x.1.0 ∙ ap (λ (i : ℕ). (played anc (event_in numbers) i 0 s out).state) many, sym x.1.1 ∙ ap (λ (i : ℕ). (played anc (event_in numbers) i 0 s out).answers) many)

-- The events from place k to place e, on the two slices' parts.
module _ (anc : ℕ → ℕ) (numbers out : List ℕ) (k e : ℕ) (s : State) (l : k ≤ e) (h : 3 * e ≤ length numbers) (g : 3 * e ≤ length out) where
  abbrev theirs : List ℕ
  theirs = mid_of (3 * k) (3 * e - 3 * k) numbers

  abbrev places : List ℕ
  places = mid_of (3 * k) (3 * e - 3 * k) out

  abbrev run : Run
  run = played anc (event_in numbers) (e - k) k s out

  places-long : length places ≡ 3 * e - 3 * k
  places-long = mid_len (3 * k) (3 * e) out g

  plays : ((batch anc theirs places s).state ≡ (played anc (event_in theirs) (e - k) 0 s places).state) × ((batch anc theirs places s).answers ≡ (played anc (event_in theirs) (e - k) 0 s places).answers)
  plays =
      let m : length theirs ≡ 3 * (e - k) = mid_len (3 * k) (3 * e) numbers h ∙ (let z : 3 * e - 3 * k ≡ 3 * (e - k) = omega arith in z) in
      batch_plays anc theirs places s (e - k) m (omega (arith, places-long))

  part : PartOf k (3 * e - 3 * k) (played anc (event_in theirs) (e - k) 0 s places) run
  part =
      let z : k + 0 ≡ k = omega arith in
      rw z at (part_of anc (event_in theirs) (event_in numbers) k (3 * e - 3 * k) (e - k) 0 s places out (λ j m. mid_reads k (3 * e - 3 * k) numbers j (omega arith)) (omega (arith, places-long)) (omega arith) (λ j m. mid_at (3 * k) (3 * e - 3 * k) out j (3 * k + j) m refl))

  -- Their batch, put back, is these events played on the slices.
  pub part-played : (r : State) (v : List ℕ) → r ≡ (batch anc theirs places s).state → v ≡ (batch anc theirs places s).answers → (r ≡ run.state) × (put_mid (3 * k) (3 * e - 3 * k) out v ≡ run.answers)
  part-played r v er ev =
      let same : v ≡ (played anc (event_in theirs) (e - k) 0 s places).answers = ev ∙ plays.1 in
      let long : length v ≡ 3 * e - 3 * k = ap length same ∙ played-long anc (event_in theirs) (e - k) 0 s places ∙ places-long in (
        er ∙ plays.0 ∙ part.same-state,
        put_back (3 * k) (3 * e) out v run.answers (omega arith) g long (played-long anc (event_in numbers) (e - k) k s out)
            (λ i m. sym (played_keeps anc (event_in numbers) (e - k) k s out i (⊎_elim (λ (x : i < 3 * k). inl x) (λ (x : 3 * e ≤ i). inr (omega arith)) m)))
            (λ j m. ap (λ (x : List ℕ). get_or x j 0) same ∙ part.same_numbers j m),
      )
