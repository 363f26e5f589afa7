-- Some message of a list: in two lists in a row, with one taken out, and among those of a send. Assumes nothing.
use mathlib.Core.Path.{◌≡◌, sym, ap, subst, ◌∙◌}
use mathlib.Core.Bool.{true}
use mathlib.Core.List.{List, ◌++◌}
use mathlib.Core.Logic.{◌⊎◌, inl, inr, ⊎_elim}
use Prim.Native.Nat.{ℕ, suc, ◌+◌, ◌≤◌, ◌<◌}
use native.Mathlib.Nat.{le_dest}
use native.Mathlib.Omega.{arith}
use lib.ListN.{length, get_or, take, drop, length-append, length-take, length-drop, get_or-append}
use lib.Seq.{get_or-append-add, get_or-take, get_or-drop}
use Rattle.sets.specs.Sets.{has, listed}
use Rattle.sets.proofs.Laws.Bools.{lt-or-le, eq_or_ne}
use Rattle.sets.proofs.Laws.Searches.{length-listed, listed_passes, listed_has}
use Rattle.rank.specs.declared.Send.{Send}
use Rattle.rank.specs.declared.Message.{Message}
use Rattle.rank.specs.declared.Triple.{Triple}
use Rattle.rank.specs.Sends.{letter, letters}
use Rattle.rank.proofs.Laws.Letters.{letter_is, length-letters, letter_at}
use Rattle.net.specs.Net.{zero_message, without}
use Rattle.net.proofs.Laws.Lists.{any_default}

-- ---- the messages of a list

-- some message of the list is so
pub record Among (P : Message → Type 0) (l : List Message) : Type 0 where
  pub place : ℕ
  pub inside : place < length l
  pub so : P (get_or l place zero_message)

module _ (P : Message → Type 0) where
  pub among_left : (l k : List Message) → Among P l → Among P (l ++ k)
  among_left l k m = record { place = m.place; inside = omega (arith, length-append l k, m.inside); so = subst P (sym (get_or-append l k zero_message m.place m.inside)) m.so }

  pub among_right : (l k : List Message) → Among P k → Among P (l ++ k)
  among_right l k m = record { place = length l + m.place; inside = omega (arith, length-append l k, m.inside); so = subst P (sym (get_or-append-add l k m.place zero_message)) m.so }

  pub among_cases : (l k : List Message) → Among P (l ++ k) → Among P l ⊎ Among P k
  among_cases l k m = ⊎_elim here there (lt-or-le m.place (length l))
    where
      here : m.place < length l → Among P l ⊎ Among P k
      here h = inl (record { place = m.place; inside = h; so = subst P (get_or-append l k zero_message m.place h) m.so })

      there : length l ≤ m.place → Among P l ⊎ Among P k
      there h =
          let j = le_dest h in
          inr (record { place = j.0; inside = omega (arith, length-append l k, j.1, m.inside); so = subst P (ap (λ (y : ℕ). get_or (l ++ k) y zero_message) (sym j.1) ∙ get_or-append-add l k j.0 zero_message) m.so })

  among_take : (c : ℕ) (l : List Message) → Among P (take c l) → Among P l
  among_take c l m =
      let e : length (take c l) ≡ Prim.Native.Nat.min c (length l) = length-take c l in
      let h : m.place < length (take c l) = m.inside in
      record { place = m.place; inside = omega arith; so = subst P (get_or-take c l m.place zero_message (omega arith)) m.so }

  among_drop : (c : ℕ) (l : List Message) → Among P (drop c l) → Among P l
  among_drop c l m = record { place = c + m.place; inside = omega (arith, length-drop c l, m.inside); so = subst P (get_or-drop c l m.place zero_message) m.so }

  -- with one message taken out, no other is new, and only that one is gone
  pub without_among : (place : ℕ) (l : List Message) → Among P (without place l) → Among P l
  unfolding without
  without_among place l m = ⊎_elim (among_take place l) (among_drop (suc place) l) (among_cases (take place l) (drop (suc place) l) m)

  pub among_without : (place : ℕ) (l : List Message) → Among P l → Among P (without place l) ⊎ P (get_or l place zero_message)
  unfolding without
  among_without place l m = ⊎_elim before (λ (h : place ≤ m.place). ⊎_elim at (after h) (eq_or_ne m.place place)) (lt-or-le m.place place)
    where
      before : m.place < place → Among P (take place l ++ drop (suc place) l) ⊎ P (get_or l place zero_message)
      before h =
          let e : length (take place l) ≡ Prim.Native.Nat.min place (length l) = length-take place l in
          let b : m.place < length l = m.inside in
          inl (among_left (take place l) (drop (suc place) l) (record { place = m.place; inside = omega arith; so = subst P (sym (get_or-take place l m.place zero_message h)) m.so }))

      at : m.place ≡ place → Among P (take place l ++ drop (suc place) l) ⊎ P (get_or l place zero_message)
      at h = inr (subst (λ (i : ℕ). P (get_or l i zero_message)) h m.so)

      after : place ≤ m.place → (m.place ≡ place → ⊥) → Among P (take place l ++ drop (suc place) l) ⊎ P (get_or l place zero_message)
      after h d =
          let k : suc place ≤ m.place = omega arith in
          let j = le_dest k in
          inl (among_right (take place l) (drop (suc place) l) (record { place = j.0; inside = omega (arith, length-drop (suc place) l, j.1, m.inside); so = subst P (sym (get_or-drop (suc place) l j.0 zero_message ∙ ap (λ (y : ℕ). get_or l y zero_message) j.1)) m.so }))

  -- the messages of a send: one for each rank that it goes to
  pub letters_among : (me : ℕ) (f : Send) → Among P (letters me f) → (q : ℕ) × (has f.to q ≡ true) × P (record { kind = f.kind; from = me; to = q; triple = f.triple })
  letters_among me f m =
      let b : m.place < length (listed (has f.to) 64) = subst (λ (x : ℕ). m.place < x) (length-letters me f ∙ sym (length-listed (has f.to) 64)) m.inside in
      (get_or (listed (has f.to) 64) m.place 0, (listed_passes (has f.to) 64 m.place 0 b).1, subst P (any_default (letters me f) m.place zero_message (letter me f 0) m.inside ∙ letter_at me f m.place ∙ letter_is me f (get_or (listed (has f.to) 64) m.place 0)) m.so)

  pub among_letters : (me : ℕ) (f : Send) (q : ℕ) → q < 64 → has f.to q ≡ true → P (record { kind = f.kind; from = me; to = q; triple = f.triple }) → Among P (letters me f)
  among_letters me f q l t h = go (listed_has (has f.to) 64 0 q l t)
    where
      go : (i : ℕ) × (i < length (listed (has f.to) 64)) × (get_or (listed (has f.to) 64) i 0 ≡ q) → Among P (letters me f)
      go (i, b, e) =
          let c : i < length (letters me f) = subst (λ (x : ℕ). i < x) (sym (length-letters me f ∙ sym (length-listed (has f.to) 64))) b in
          record { place = i; inside = c; so = subst P (sym (any_default (letters me f) i zero_message (letter me f 0) c ∙ letter_at me f i ∙ ap (letter me f) e ∙ letter_is me f q)) h }

-- a message of this kind from b to x, and one with this triple
abbrev pub Named : ℕ → ℕ → ℕ → Message → Type 0
Named k b x m = (m.kind ≡ k) × (m.from ≡ b) × (m.to ≡ x)

abbrev pub Bearing : ℕ → ℕ → ℕ → Triple → Message → Type 0
Bearing k b x w m = Named k b x m × (m.triple ≡ w)
