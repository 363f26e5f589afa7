-- Messages as numbers: what an array of them holds, place by place, and the list's laws read off it. Assumes nothing.
use mathlib.Core.Path.{◌≡◌, refl, sym, ap, ap₂, subst, ◌∙◌}
use mathlib.Core.List.{List, [], ◌∷◌, ◌++◌}
use mathlib.Core.Logic.{⊎_elim}
use Prim.Native.Nat.{ℕ, zero, suc, ◌+◌, ◌*◌, ◌/◌, ◌%◌, ◌^◌, ◌≤◌, ◌<◌}
use native.Mathlib.Nat.{le_dest}
use native.Mathlib.Omega.{arith}
use native.Mathlib.Numerals.{add-one}
use lib.ListN.{length, get_or, set, take, replicate, length-set, length-replicate, get_or-eq_default}
use lib.Seq.{length-take-le, ext_get_or, get_or-set_same, get_or-set_other, get_or-take, take-suc-set}
use Rattle.sets.proofs.Laws.Bools.{lt-or-le, eq_or_ne}
use Rattle.tree.proofs.Laws.Rows.{row_is, row_cong, row_replicate, length-row, get_d_row}
use Rattle.rank.specs.declared.Message.{Message}
use Rattle.net.specs.Net.{zero_message, padded, message_of, messages_of, Small}
use Rattle.net.proofs.Laws.Net.{padded-take, Clear, clear_padded}

-- ---- what three numbers put at a place do to the list

pub messages-long : (x : List ℕ) → length (messages_of x) ≡ 128
unfolding messages_of
messages-long x = length-row (λ k. message_of (get_or x k 0) (get_or x (128 + k) 0) (get_or x (256 + k) 0)) 128

pub messages-at : (x : List ℕ) (i : ℕ) → i < 128 → message_of (get_or x i 0) (get_or x (128 + i) 0) (get_or x (256 + i) 0) ≡ get_or (messages_of x) i zero_message
unfolding messages_of
messages-at x i l = sym (get_d_row (λ k. message_of (get_or x k 0) (get_or x (128 + k) 0) (get_or x (256 + k) 0)) 128 i zero_message l)

-- the array with three numbers at a place
abbrev pub three : List ℕ → ℕ → ℕ → ℕ → ℕ → List ℕ
three x i a b c = set (set (set x i a) (128 + i) b) (256 + i) c

module _ (x : List ℕ) (i a b c : ℕ) (long : length x ≡ 384) (l : i < 128) where
  abbrev one : List ℕ
  one = set x i a

  abbrev two : List ℕ
  two = set (set x i a) (128 + i) b

  first-there : get_or (three x i a b c) i 0 ≡ a
  first-there = get_or-set_other two (256 + i) i c 0 (λ e. omega arith) ∙ get_or-set_other one (128 + i) i b 0 (λ e. omega arith) ∙ get_or-set_same x i a 0 (omega arith)

  second_there : get_or (three x i a b c) (128 + i) 0 ≡ b
  second_there = get_or-set_other two (256 + i) (128 + i) c 0 (λ e. omega arith) ∙ get_or-set_same one (128 + i) b 0 (omega (arith, length-set x i a))

  third_there : get_or (three x i a b c) (256 + i) 0 ≡ c
  third_there = get_or-set_same two (256 + i) c 0 (omega (arith, length-set one (128 + i) b, length-set x i a))

  elsewhere : (k : ℕ) → (k ≡ i → ⊥) → (k ≡ 128 + i → ⊥) → (k ≡ 256 + i → ⊥) → get_or (three x i a b c) k 0 ≡ get_or x k 0
  elsewhere k e f g = get_or-set_other two (256 + i) k c 0 g ∙ get_or-set_other one (128 + i) k b 0 f ∙ get_or-set_other x i k a 0 e

  pub messages-three : (m : Message) → message_of a b c ≡ m → messages_of (three x i a b c) ≡ set (messages_of x) i m
  unfolding messages_of
  messages-three m e =
      sym (row_is zero_message (λ k. message_of (get_or (three x i a b c) k 0) (get_or (three x i a b c) (128 + k) 0) (get_or (three x i a b c) (256 + k) 0)) 128 (set (messages_of x) i m)
      (length-set (messages_of x) i m ∙ messages-long x)
      (λ k h. ⊎_elim (here k) (there k h) (eq_or_ne k i)))
    where
      here : (k : ℕ) → k ≡ i → get_or (set (messages_of x) i m) k zero_message ≡ message_of (get_or (three x i a b c) k 0) (get_or (three x i a b c) (128 + k) 0) (get_or (three x i a b c) (256 + k) 0)
      here k d =
          let at : get_or (set (messages_of x) i m) i zero_message ≡ m = get_or-set_same (messages_of x) i m zero_message (omega (arith, messages-long x)) in
          rw d (rw (at, first-there, second_there, third_there) (sym e))

      there : (k : ℕ) → k < 128 → (k ≡ i → ⊥) → get_or (set (messages_of x) i m) k zero_message ≡ message_of (get_or (three x i a b c) k 0) (get_or (three x i a b c) (128 + k) 0) (get_or (three x i a b c) (256 + k) 0)
      there k h d =
          get_or-set_other (messages_of x) i k m zero_message d ∙ sym (messages-at x k h)
          ∙ rw (elsewhere k d (λ z. omega arith) (λ z. omega arith), elsewhere (128 + k) (λ z. omega arith) (λ z. d (omega arith)) (λ z. omega arith), elsewhere (256 + k) (λ z. omega arith) (λ z. omega arith) (λ z. d (omega arith)))

-- a number has the message that it was made of
pub number_is : (m : Message) (r : ℕ) → m.kind < 256 → m.from < 256 → m.to < 256 → m.triple.word < 4294967296 → r ≡ m.kind + 256 * m.from + 65536 * m.to + 16777216 * m.triple.word
    → message_of r m.triple.known m.triple.acknowledged ≡ m
unfolding message_of
number_is m r k f t w e = λ i. record { kind = kind_is i; from = from_is i; to = to_is i; triple = record { word = word_is i; known = m.triple.known; acknowledged = m.triple.acknowledged } }
  where
    kind_is : r % 256 ≡ m.kind
    kind_is = omega arith

    from_is : r / 256 % 256 ≡ m.from
    from_is = omega arith

    to_is : r / 65536 % 256 ≡ m.to
    to_is = omega arith

    word_is : r / 16777216 % 4294967296 ≡ m.triple.word
    word_is = omega arith

-- and it is small
pub number_small : (k f t w r : ℕ) → k < 256 → f < 256 → t < 256 → w < 4294967296 → r ≡ k + 256 * f + 65536 * t + 16777216 * w → r < 2 ^ 56
number_small k f t w r a b c d e = omega arith

-- ---- small numbers

-- a number below a bound is put somewhere, and what stands at k is below it
below_set : (x : List ℕ) (i v k bound : ℕ) → 0 < bound → v < bound → get_or x k 0 < bound → get_or (set x i v) k 0 < bound
below_set x i v k bound z l h = ⊎_elim here (λ (d : k ≡ i → ⊥). subst (λ (y : ℕ). y < bound) (sym (get_or-set_other x i k v 0 d)) h) (eq_or_ne k i)
  where
    here : k ≡ i → get_or (set x i v) k 0 < bound
    here e = ⊎_elim
        (λ (b : i < length x). subst (λ (y : ℕ). y < bound) (sym (ap (λ (j : ℕ). get_or (set x i v) j 0) e ∙ get_or-set_same x i v 0 b)) l)
        (λ (b : length x ≤ i). subst (λ (y : ℕ). y < bound) (sym (get_or-eq_default (set x i v) 0 (let c : length (set x i v) ≤ k = omega (arith, length-set x i v) in c))) z)
        (lt-or-le i (length x))

zeros_at : (m i : ℕ) → ◌≡◌ {A = ℕ} (get_or (replicate m 0) i 0) 0
zeros_at zero i = refl
zeros_at (suc m) zero = refl
zeros_at (suc m) (suc i) = zeros_at m i

pub small_zeros : Small (replicate 384 0)
small_zeros = record { long = length-replicate {A = ℕ} 384 0; first = λ i l. omega (arith, zeros_at 384 i); bound = λ i. omega (arith, zeros_at 384 i) }

pub small-three : (x : List ℕ) (i a b c : ℕ) → i < 128 → a < 2 ^ 56 → b < 2 ^ 64 → c < 2 ^ 64 → Small x → Small (three x i a b c)
small-three x i a b c l la lb lc h = record {
  long = length-set (set (set x i a) (128 + i) b) (256 + i) c ∙ length-set (set x i a) (128 + i) b ∙ length-set x i a ∙ h.long;
  first = λ k d. subst (λ (y : ℕ). y < 2 ^ 56) (sym (get_or-set_other (set (set x i a) (128 + i) b) (256 + i) k c 0 (λ e. omega arith) ∙ get_or-set_other (set x i a) (128 + i) k b 0 (λ e. omega arith))) (below_set x i a k (2 ^ 56) (omega arith) la (h.first k d));
  bound = λ k. below_set (set (set x i a) (128 + i) b) (256 + i) c k (2 ^ 64) (omega arith) lc (below_set (set x i a) (128 + i) b k (2 ^ 64) (omega arith) lb (below_set x i a k (2 ^ 64) (omega arith) (omega arith) (h.bound k)));
}

-- zeros hold no message
pub messages_zeros : messages_of (replicate 384 0) ≡ padded []
unfolding messages_of message_of padded
messages_zeros = sym (row_replicate 128 zero_message zero_message ∙ row_cong zero_message (λ k. zero_message) (λ i. message_of (get_or (replicate 384 0) i 0) (get_or (replicate 384 0) (128 + i) 0) (get_or (replicate 384 0) (256 + i) 0)) 128 (λ k l. rw (zeros_at 384 k, zeros_at 384 (128 + k), zeros_at 384 (256 + k))))

-- ---- along the code of `pull`: the second and third number are read once the ones before them are written

module _ (x : List ℕ) (i b c : ℕ) (l : i + 1 < 128) (e : b ≡ get_or (set x i (get_or x (i + 1) 0)) (128 + (i + 1)) 0) (f : c ≡ get_or (set (set x i (get_or x (i + 1) 0)) (128 + i) b) (256 + (i + 1)) 0) where
  pulled-second : b ≡ get_or x (128 + (i + 1)) 0
  pulled-second = e ∙ get_or-set_other x i (128 + (i + 1)) (get_or x (i + 1) 0) 0 (λ z. omega arith)

  pulled-third : c ≡ get_or x (256 + (i + 1)) 0
  pulled-third =
      f ∙ get_or-set_other (set x i (get_or x (i + 1) 0)) (128 + i) (256 + (i + 1)) b 0 (λ z. omega arith)
      ∙ get_or-set_other x i (256 + (i + 1)) (get_or x (i + 1) 0) 0 (λ z. omega arith)

  pub pull-three : length x ≡ 384 → messages_of (three x i (get_or x (i + 1) 0) b c) ≡ set (messages_of x) i (get_or (messages_of x) (i + 1) zero_message)
  pull-three long = messages-three x i (get_or x (i + 1) 0) b c long (omega arith) (get_or (messages_of x) (i + 1) zero_message) (rw (pulled-second, pulled-third) (messages-at x (i + 1) l))

  pub pull_small : Small x → Small (three x i (get_or x (i + 1) 0) b c)
  pull_small h = small-three x i (get_or x (i + 1) 0) b c (omega arith) (h.first (i + 1) l) (omega (arith, pulled-second, h.bound (128 + (i + 1)))) (omega (arith, pulled-third, h.bound (256 + (i + 1)))) h

-- small numbers with the same messages are the same
spread : (a : ℕ) → a < 2 ^ 56 → a ≡ a % 256 + 256 * (a / 256 % 256) + 65536 * (a / 65536 % 256) + 16777216 * (a / 16777216 % 4294967296)
spread a l =
    let e : a / 65536 ≡ a / 256 / 256 = omega arith in
    let f : a / 16777216 ≡ a / 65536 / 256 = omega arith in
    let g : a / 16777216 % 4294967296 ≡ a / 16777216 = omega arith in
    let h : a / 65536 ≡ a / 65536 % 256 + 256 * (a / 16777216) = omega arith in
    let i : a / 256 ≡ a / 256 % 256 + 256 * (a / 65536) = omega arith in
    let j : a ≡ a % 256 + 256 * (a / 256) = omega arith in
    omega arith

same_number : (a b k l m n : ℕ) → a < 2 ^ 56 → b < 2 ^ 56 → message_of a k l ≡ message_of b m n → (a ≡ b) × (k ≡ m) × (l ≡ n)
unfolding message_of
same_number a b k l m n la lb e = (
  spread a la ∙ ap (λ (t : Message). t.kind + 256 * t.from + 65536 * t.to + 16777216 * t.triple.word) e ∙ sym (spread b lb),
  ap (λ (t : Message). t.triple.known) e,
  ap (λ (t : Message). t.triple.acknowledged) e,
)

pub same_numbers : (x y : List ℕ) → Small x → Small y → messages_of x ≡ messages_of y → x ≡ y
same_numbers x y h k e = ext_get_or 0 x y (h.long ∙ sym k.long) (λ i l. ⊎_elim (λ (b : i < 128). (alike i b).0) (λ (b : 128 ≤ i). ⊎_elim (λ (c : i < 256). second i b c) (λ (c : 256 ≤ i). third i c (let lx : length x ≡ 384 = h.long in omega arith)) (lt-or-le i 256)) (lt-or-le i 128))
  where
    alike : (i : ℕ) → i < 128 → (get_or x i 0 ≡ get_or y i 0) × (get_or x (128 + i) 0 ≡ get_or y (128 + i) 0) × (get_or x (256 + i) 0 ≡ get_or y (256 + i) 0)
    alike i l = same_number (get_or x i 0) (get_or y i 0) (get_or x (128 + i) 0) (get_or x (256 + i) 0) (get_or y (128 + i) 0) (get_or y (256 + i) 0) (h.first i l) (k.first i l) (messages-at x i l ∙ ap (λ (t : List Message). get_or t i zero_message) e ∙ sym (messages-at y i l))

    second : (i : ℕ) → 128 ≤ i → i < 256 → get_or x i 0 ≡ get_or y i 0
    second i b c = let d = le_dest b in subst (λ (j : ℕ). get_or x j 0 ≡ get_or y j 0) d.1 (alike d.0 (omega (arith, d.1))).1

    third : (i : ℕ) → 256 ≤ i → i < 384 → get_or x i 0 ≡ get_or y i 0
    third i b c = let d = le_dest b in subst (λ (j : ℕ). get_or x j 0 ≡ get_or y j 0) d.1 (alike d.0 (omega (arith, d.1))).2

-- ---- the list that the numbers hold

pub flight-long : (x : List ℕ) (c : ℕ) → c ≤ 128 → length (take c (messages_of x)) ≡ c
flight-long x c l = length-take-le c (messages_of x) (omega (arith, messages-long x))

pub flight_at : (x : List ℕ) (c place : ℕ) → c ≤ 128 → place < c → message_of (get_or x place 0) (get_or x (128 + place) 0) (get_or x (256 + place) 0) ≡ get_or (take c (messages_of x)) place zero_message
flight_at x c place b l = messages-at x place (omega arith) ∙ sym (get_or-take c (messages_of x) place zero_message l)

pub flight_more : (x y : List ℕ) (c : ℕ) (m : Message) → c < 128 → messages_of y ≡ set (messages_of x) c m → take (c + 1) (messages_of y) ≡ take c (messages_of x) ++ (m ∷ [])
flight_more x y c m l e = ap₂ (λ (k : ℕ) (t : List Message). take k t) (add-one c) e ∙ take-suc-set (messages_of x) c m (omega (arith, messages-long x))

-- of an array with zeros past the messages of a list
pub flight_of : (x : List ℕ) (l : List Message) (c i : ℕ) → i ≡ c → c ≤ length l → messages_of x ≡ padded (take i l) → take c (messages_of x) ≡ take c l
flight_of x l c i j b e = ap (take c) (e ∙ ap (λ (k : ℕ). padded (take k l)) j) ∙ subst (λ (k : ℕ). take k (padded (take c l)) ≡ take c l) (length-take-le c l b) (padded-take (take c l))

pub flight_held : (x : List ℕ) (l : List Message) (c i : ℕ) → i ≡ c → c ≤ length l → messages_of x ≡ padded (take i l) → messages_of x ≡ padded (take c (messages_of x))
flight_held x l c i j b e = e ∙ ap padded (ap (λ (k : ℕ). take k l) j ∙ sym (flight_of x l c i j b e))

pub flight_clear : (x : List ℕ) (c : ℕ) → c ≤ 128 → messages_of x ≡ padded (take c (messages_of x)) → Clear c (messages_of x)
flight_clear x c b e = clear_padded (messages_of x) (take c (messages_of x)) c e (omega (arith, flight-long x c b))

-- and one list has one count and one such array
pub flight_same : (x y : List ℕ) (c d : ℕ) → c ≤ 128 → d ≤ 128 → Small x → Small y → messages_of x ≡ padded (take c (messages_of x)) → messages_of y ≡ padded (take d (messages_of y)) → take c (messages_of x) ≡ take d (messages_of y) → (x ≡ y) × (c ≡ d)
flight_same x y c d a b h k p q e = (same_numbers x y h k (p ∙ ap padded e ∙ sym q), sym (flight-long x c a) ∙ ap length e ∙ flight-long y d b)
