-- What a good header promises. Assumes nothing.
use Rattle.std.proofs.Common.{◌≡◌, refl, sym, ap, Bool, true, false, cond, List, ℕ, ◌+◌, ◌*◌, ◌-◌, ◌%◌, ◌≤◌, ◌<◌, Result, Ok, Err, arith}
use lib.Dec.{eqb, ltb}
use lib.ListN.{length, get_or, take}
use lib.Seq.{length-take-le, get_or-take}
use borrow.Author.Tests.{eqb-true, ltb-false, lt-ltb, le-ltb, not-false}
use Rattle.answers.specs.declared.Refusal.{Refusal}
use Rattle.answers.specs.declared.Refusal.TheVariants.{BadSize, NoHeader, WrongMark, WrongVersion, Broken, TooLong}
use Rattle.tree.specs.Calls.{wrong_size}
use Rattle.files.specs.declared.Header.{Header}
use Rattle.files.specs.Files.{longest, byte_at, short_at, wrong_mark, wrong_version, broken, events_in, header}

-- What a good header promises.
pub record Opened (file : List ℕ) (h : Header) : Type 0 where
  pub size : wrong_size h.n ≡ false
  pub whole : 6 + 9 * h.events ≤ length file
  pub short : length file ≤ 36870
  pub size_is : h.n ≡ byte_at file 5
  pub events_are : h.events ≡ events_in file

-- A test that a good header has passed.
passed : (t : Bool) (e : Refusal) (rest : Result Header Refusal) (h : Header) → cond t (Err e) rest ≡ Ok h → (t ≡ false) × (rest ≡ Ok h)
passed true e rest h q = absurd (cc)
passed false e rest h q = (refl, q)

same : (h k : Header) → let r : Result Header Refusal = Ok h in r ≡ Ok k → h ≡ k
same h k e = cc

pub good_opened : (file : List ℕ) (h : Header) → header file ≡ Ok h → Opened file h
unfolding header broken events_in
good_opened file h e =
    let a = passed (ltb (length file) 6) NoHeader _ h e in
    let b = passed (wrong_mark file) WrongMark _ h a.1 in
    let c = passed (wrong_version file) WrongVersion _ h b.1 in
    let d = passed (wrong_size (byte_at file 5)) BadSize _ h c.1 in
    let f = passed (ltb longest (length file)) TooLong _ h d.1 in
    let g = passed (broken file) Broken _ h f.1 in
    let q = same _ _ g.1 in
    let z : (length file - 6) % 9 ≡ 0 = eqb-true ((length file - 6) % 9) 0 (not-false (eqb ((length file - 6) % 9) 0) g.0) in
    let l : 6 ≤ length file = ltb-false (length file) 6 a.0 in
    let s : h.n ≡ byte_at file 5 = sym (ap (λ (x : Header). x.n) q) in
    let t : h.events ≡ events_in file = sym (ap (λ (x : Header). x.events) q) in
    record { size = rw s d.0; whole = omega arith; short = ltb-false 36870 (length file) f.0; size_is = s; events_are = t }

-- ---- a file that is too long

-- It is refused,
pub long_bad : (file : List ℕ) → longest < length file → (e : Refusal) × (header file ≡ Err e)
long_bad file l = from (header file) refl
  where
    from : (r : Result Header Refusal) → header file ≡ r → (e : Refusal) × (header file ≡ Err e)
    from (Ok h) e = let s = (good_opened file h e).short in absurd (omega arith)
    from (Err e) q = (e, q)

-- a matter of its first six bytes; so one byte more than the longest file has shows it.
long_same : (f g : List ℕ) → longest < length f → longest < length g → ((i : ℕ) → i < 6 → get_or f i 0 ≡ get_or g i 0) → header f ≡ header g
unfolding header wrong_mark wrong_version short_at byte_at
long_same f g l m b =
    rw (
      b 0 (omega arith),
      b 1 (omega arith),
      b 2 (omega arith),
      b 3 (omega arith),
      b 4 (omega arith),
      b 5 (omega arith),
      le-ltb (length f) 6 (omega arith),
      le-ltb (length g) 6 (omega arith),
      lt-ltb longest (length f) l,
      lt-ltb longest (length g) m,
    )

pub long-start : (file : List ℕ) (n : ℕ) → longest < n → n ≤ length file → header (take n file) ≡ header file
long-start file n l m =
    let e : length (take n file) ≡ n = length-take-le n file m in
    long_same (take n file) file (omega arith) (omega arith) (λ i k. get_or-take n file i 0 (omega arith))
