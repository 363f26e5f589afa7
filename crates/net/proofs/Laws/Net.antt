-- The 128 places along their code: one message taken out, and the messages of a send written from the first free place on.
-- Assumes nothing.
use mathlib.Core.Path.{◌≡◌, refl, sym, ap, ap₂, subst, ◌∙◌}
use mathlib.Core.List.{List, [], ◌∷◌, ◌++◌, append-nil}
use mathlib.Core.Logic.{⊎_elim}
use Prim.Native.Nat.{ℕ, zero, suc, ◌+◌, ◌-◌, ◌≤◌, ◌<◌, ◌^◌}
use native.Mathlib.Nat.{le_dest}
use native.Mathlib.Numerals.{add-one}
use native.Mathlib.Omega.{arith}
use lib.ListN.{length, get_or, set, take, drop, replicate, length-append, length-drop, length-replicate, get_or-replicate, get_or-append, get_or-eq_default}
use lib.Seq.{get_or-append-add, take-suc, set-append_seam, length-take-le, take_at, append_snoc, ext_get_or, get_or-take, get_or-set_same, get_or-set_other, take-set-le}
use Rattle.sets.specs.Sets.{has, only, minus, count}
use Rattle.sets.proofs.Laws.Bools.{lt-or-le, eq_or_ne}
use Rattle.sets.proofs.Laws.Searches.{Smallest, count-first}
use Rattle.rank.specs.declared.Send.{Send}
use Rattle.rank.specs.declared.Message.{Message}
use Rattle.rank.specs.Sends.{letter, letters, size}
use Rattle.rank.proofs.Laws.Letters.{letter_is, letters-first, letters-none}
use Rattle.net.specs.Net.{Joined, zero_message, padded, without, placed, joining}

-- ---- padding

zeros_at : (m k : ℕ) → get_or (replicate m zero_message) k zero_message ≡ zero_message
zeros_at m k = ⊎_elim (λ (l : k < m). get_or-replicate m k zero_message zero_message l) (λ (l : m ≤ k). get_or-eq_default (replicate m zero_message) zero_message (let b : length (replicate m zero_message) ≤ k = omega (arith, length-replicate m zero_message) in b)) (lt-or-le k m)

pub padded-long : (l : List Message) → length l ≤ 128 → length (padded l) ≡ 128
unfolding padded
padded-long l h = length-append l (replicate (128 - length l) zero_message) ∙ (let e : length l + length (replicate (128 - length l) zero_message) ≡ 128 = omega (arith, length-replicate (128 - length l) zero_message) in e)

pub padded_in : (l : List Message) (k : ℕ) → k < length l → get_or (padded l) k zero_message ≡ get_or l k zero_message
unfolding padded
padded_in l k h = get_or-append l (replicate (128 - length l) zero_message) zero_message k h

pub padded-past : (l : List Message) (k : ℕ) → length l ≤ k → get_or (padded l) k zero_message ≡ zero_message
unfolding padded
padded-past l k h = go (le_dest h)
  where
    go : (j : ℕ) × (length l + j ≡ k) → get_or (l ++ replicate (128 - length l) zero_message) k zero_message ≡ zero_message
    go (j, e) = ap (λ (x : ℕ). get_or (l ++ replicate (128 - length l) zero_message) x zero_message) (sym e) ∙ get_or-append-add l (replicate (128 - length l) zero_message) j zero_message ∙ zeros_at (128 - length l) j

-- and any place has the same in both
pub padded_at : (l : List Message) (k : ℕ) → get_or (padded l) k zero_message ≡ get_or l k zero_message
padded_at l k = ⊎_elim (λ (h : k < length l). padded_in l k h) (λ (h : length l ≤ k). padded-past l k h ∙ sym (get_or-eq_default l zero_message h)) (lt-or-le k (length l))

-- the list of a padded one is what stands before its end
pub padded-take : (l : List Message) → take (length l) (padded l) ≡ l
unfolding padded
padded-take l = take_at l (replicate (128 - length l) zero_message) (length l) refl

-- ---- nothing stands past a place

abbrev pub Clear : ℕ → List Message → Type 0
Clear c l = (k : ℕ) → c ≤ k → get_or l k zero_message ≡ zero_message

pub clear_padded : (l t : List Message) (c : ℕ) → l ≡ padded t → length t ≤ c → Clear c l
clear_padded l t c e h k b = ap (λ (x : List Message). get_or x k zero_message) e ∙ padded-past t k (omega arith)

pub padded_clear : (l : List Message) (c : ℕ) → length l ≡ 128 → c ≤ 128 → Clear c l → l ≡ padded (take c l)
padded_clear l c long b h =
    let lt : length (take c l) ≡ c = length-take-le c l (omega arith) in
    ext_get_or zero_message l (padded (take c l)) (long ∙ sym (padded-long (take c l) (omega arith)))
    (λ k m. ⊎_elim (λ (a : k < c). sym (padded_at (take c l) k ∙ get_or-take c l k zero_message a)) (λ (a : c ≤ k). h k a ∙ sym (padded-past (take c l) k (omega arith))) (lt-or-le k c))

-- a message put before the place, and none put at the last before it
pub clear_put : (l next : List Message) (c d i : ℕ) (m : Message) → Clear c l → c ≤ d → i < d → next ≡ set l i m → Clear d next
clear_put l next c d i m h b a e k g = ap (λ (x : List Message). get_or x k zero_message) e ∙ get_or-set_other l i k m zero_message (λ z. omega arith) ∙ h k (omega arith)

pub clear_out : (l next : List Message) (c i : ℕ) (m : Message) → Clear c l → c ≡ i + 1 → i < length l → m ≡ zero_message → next ≡ set l i m → Clear i next
clear_out l next c i m h b a z e k g = ap (λ (x : List Message). get_or x k zero_message) e ∙ ⊎_elim here (λ (d : k ≡ i → ⊥). get_or-set_other l i k m zero_message d ∙ h k (omega arith)) (eq_or_ne k i)
  where
    here : k ≡ i → get_or (set l i m) k zero_message ≡ zero_message
    here d = ap (λ (j : ℕ). get_or (set l i m) j zero_message) d ∙ get_or-set_same l i m zero_message a ∙ z

-- ---- one message taken out

pub length_without : (net : List Message) (c place : ℕ) → length net ≡ 128 → c ≤ 128 → place < c → length (without place (take c net)) ≡ c - 1
unfolding without
length_without net c place long b l =
    let ll : length (take c net) ≡ c = length-take-le c net (omega arith) in
    length-append (take place (take c net)) (drop (suc place) (take c net))
    ∙ (let e : length (take place (take c net)) + length (drop (suc place) (take c net)) ≡ c - 1 = omega (arith, length-take-le place (take c net) (omega arith), length-drop (suc place) (take c net)) in e)

-- the place that its message leaves closes one further on
closing : (c i : ℕ) (l : List Message) (d : Message) → suc i < c → suc i < length l → without (suc i) (take c (set l i (get_or l (suc i) d))) ≡ without i (take c l)
unfolding without
closing c i [] d h k = absurd (omega arith)
closing c zero (x ∷ []) d h k = absurd (omega arith)
closing zero i l d h k = absurd (omega arith)
closing (suc zero) i l d h k = absurd (omega arith)
closing (suc (suc c)) zero (x ∷ y ∷ l) d h k = refl
closing (suc c) (suc i) (x ∷ l) d h k = ap (λ (t : List Message). x ∷ t) (closing c i l d (omega arith) (omega arith))

-- and the last place just goes
closed : (c : ℕ) (l : List Message) → suc c ≤ length l → without c (take (suc c) l) ≡ take c l
unfolding without
closed c [] h = absurd (omega arith)
closed zero (x ∷ l) h = refl
closed (suc c) (x ∷ l) h = ap (λ (t : List Message). x ∷ t) (closed c l (omega arith))

pub closing_on : (c i j : ℕ) (l next want : List Message) → i + 1 < c → c ≤ length l → j ≡ i + 1 → next ≡ set l i (get_or l (i + 1) zero_message) → without i (take c l) ≡ want → without j (take c next) ≡ want
closing_on c i j l next want a b e f g =
    ap₂ (λ (k : ℕ) (t : List Message). without k (take c t)) (e ∙ add-one i) (f ∙ ap (λ (k : ℕ). set l i (get_or l k zero_message)) (add-one i)) ∙ closing c i l zero_message (omega arith) (omega arith) ∙ g

pub closing_done : (c i : ℕ) (l want : List Message) → i < c → c ≤ i + 1 → c ≤ length l → without i (take c l) ≡ want → take (c - 1) l ≡ want
closing_done c i l want a b h g =
    let p : suc i ≡ c = omega arith in
    let q : c - 1 ≡ i = omega arith in
    ap (λ (k : ℕ). take k l) q ∙ sym (closed i l (omega arith)) ∙ ap (λ (k : ℕ). without i (take k l)) p ∙ g

-- what is put at the last place or past it is no matter to those before it
pub before_put : (c i : ℕ) (l next : List Message) (m : Message) → c ≤ i + 1 → next ≡ set l i m → take (c - 1) next ≡ take (c - 1) l
before_put c i l next m h e = ap (take (c - 1)) e ∙ take-set-le (c - 1) l i m (omega arith)

-- ---- the messages of a send written at the end

-- the send that is left when only these receivers are
pub toward : Send → ℕ → Send
toward s left = record { kind = s.kind; triple = s.triple; to = left }

pub record Posting (l₀ : List Message) (me : ℕ) (s : Send) (l : List Message) (left : ℕ) : Type 0 where
  pub rest : l ++ letters me (toward s left) ≡ l₀ ++ letters me s
  pub room : length l + count (has left) 64 ≤ 128
  pub word : left < 2 ^ 64

pub posting_begin : (l : List Message) (me : ℕ) (s : Send) → length l + size s ≤ 128 → s.to < 2 ^ 64 → Posting l me s l s.to
unfolding toward
posting_begin l me s r w = record { rest = refl; room = r; word = w }

-- what is still to come begins with the message to that member
letters-next : (me : ℕ) (s : Send) (left q : ℕ) → Smallest (has left) 64 q → letters me (toward s left) ≡ letter me s q ∷ letters me (toward s (minus left (only q)))
unfolding toward
letters-next me s left q m = letters-first me s left q m

pub posting_on : (l₀ : List Message) (me : ℕ) (s : Send) (l next : List Message) (left q o left' : ℕ) → Posting l₀ me s l left → Smallest (has left) 64 q
    → next ≡ l ++ ((record { kind = s.kind; from = me; to = q; triple = s.triple }) ∷ []) → o ≡ only q → left' ≡ minus left o → left' < 2 ^ 64 → Posting l₀ me s next left'
posting_on l₀ me s l next left q o left' p m en eo el w =
    let sz : count (has left) 64 ≡ suc (count (has (minus left (only q))) 64) = count-first left 64 q m in
    let to : left' ≡ minus left (only q) = el ∙ ap (minus left) eo in
    let new : next ≡ l ++ (letter me s q ∷ []) = en ∙ ap (λ (x : Message). l ++ (x ∷ [])) (sym (letter_is me s q)) in
    record {
      rest = ap₂ (λ (a : List Message) (b : ℕ). a ++ letters me (toward s b)) new to ∙ append_snoc l (letter me s q) (letters me (toward s (minus left (only q)))) ∙ ap (λ (x : List Message). l ++ x) (sym (letters-next me s left q m)) ∙ p.rest;
      room = subst (λ (x : ℕ). length next + count (has x) 64 ≤ 128) (sym to) (omega (arith, p.room, ap length new, length-append l (letter me s q ∷ [])));
      word = w;
    }

pub posting_fewer : (left q o left' : ℕ) → Smallest (has left) 64 q → o ≡ only q → left' ≡ minus left o → count (has left') 64 < count (has left) 64
posting_fewer left q o left' m eo el = subst (λ (x : ℕ). count (has x) 64 < count (has left) 64) (sym (el ∙ ap (minus left) eo)) (omega (arith, count-first left 64 q m))

pub posting_room : (l₀ : List Message) (me : ℕ) (s : Send) (l : List Message) (left q : ℕ) → Posting l₀ me s l left → Smallest (has left) 64 q → length l < 128
posting_room l₀ me s l left q p m = omega (arith, p.room, count-first left 64 q m)

pub posting_done : (l₀ : List Message) (me : ℕ) (s : Send) (l : List Message) (left : ℕ) → Posting l₀ me s l left → left ≡ 0 → placed l ≡ joining l₀ me s
unfolding joining toward
posting_done l₀ me s l left p e = ap placed (sym (append-nil l) ∙ ap (λ (x : List Message). l ++ x) (sym (letters-none me (toward s left) e)) ∙ p.rest)

-- a list is known by its places and its length
pub placed_same : (a b : List Message) → placed a ≡ placed b → a ≡ b
placed_same a b e = sym (padded-take a) ∙ ap₂ (λ (x : ℕ) (y : List Message). take x y) (ap (λ (x : Joined). x.count) e) (ap (λ (x : Joined). x.net) e) ∙ padded-take b

-- one message more in the first free place
pub padded_more : (l : List Message) (m : Message) → length l < 128 → set (padded l) (length l) m ≡ padded (l ++ (m ∷ []))
unfolding padded
padded_more l m h =
    let one : 128 - length l ≡ suc (128 - length (l ++ (m ∷ []))) = omega (arith, length-append l (m ∷ [])) in
    ap (λ (k : ℕ). set (l ++ replicate k zero_message) (length l) m) one
    ∙ set-append_seam l zero_message (replicate (128 - length (l ++ (m ∷ []))) zero_message) m
    ∙ sym (append_snoc l m (replicate (128 - length (l ++ (m ∷ []))) zero_message))

-- a list filled up to a place, and one place further
pub padded_on : (l : List Message) (i : ℕ) (found : List Message) (m : Message) → length l ≤ 128 → i < length l → found ≡ padded (take i l) → m ≡ get_or l i zero_message → set found i m ≡ padded (take (i + 1) l)
padded_on l i found m h b e f =
    let at : i ≡ length (take i l) = sym (length-take-le i l (omega arith)) in
    ap₂ (λ (t : List Message) (k : ℕ). set t k m) e at ∙ padded_more (take i l) m (omega arith)
    ∙ ap padded (ap (λ (x : Message). take i l ++ (x ∷ [])) f ∙ sym (take-suc l i zero_message b) ∙ ap (λ (k : ℕ). take k l) (sym (add-one i)))
