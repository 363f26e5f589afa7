-- Lists whose messages are all in order: parts of one, two in a row, and what a rank posts. Assumes nothing.
use mathlib.Core.Path.{◌≡◌, refl, sym, ap, subst, ◌∙◌}
use mathlib.Core.Bool.{true, false}
use mathlib.Core.List.{List, [], ◌∷◌, ◌++◌}
use mathlib.Core.Logic.{⊎_elim}
use Prim.Native.Nat.{ℕ, zero, suc, ◌+◌, ◌≤◌, ◌<◌}
use native.Mathlib.Nat.{le_dest}
use native.Mathlib.Omega.{arith}
use lib.ListN.{length, get_or, take, drop, length-append, length-take, length-drop, get_or-append}
use lib.Seq.{get_or-append-add, get_or-take, get_or-drop}
use Rattle.sets.specs.Sets.{has, listed}
use Rattle.sets.proofs.Laws.Bools.{lt-or-le, clash}
use Rattle.sets.proofs.Laws.Searches.{listed_passes, length-listed}
use Rattle.rank.specs.declared.Send.{Send}
use Rattle.rank.specs.declared.Message.{Message}
use Rattle.rank.specs.Sends.{letter, letters}
use Rattle.rank.proofs.Facts.{Posted}
use Rattle.rank.proofs.Laws.Letters.{letter_is, length-letters, letter_at}
use Rattle.net.specs.Net.{without}
use Rattle.net.proofs.Facts.{MessageInOrder}

-- every message of the list is in order; what stands past its end does not matter
abbrev pub AllInOrder : ℕ → ℕ → List Message → Type 0
AllInOrder n dead l = (d : Message) (i : ℕ) → i < length l → MessageInOrder n dead (get_or l i d)

-- more deaths leave a message in order
pub message_more : (n dead dead' : ℕ) (m : Message) → ((k : ℕ) → has dead k ≡ true → has dead' k ≡ true) → MessageInOrder n dead m → MessageInOrder n dead' m
message_more n dead dead' m h l = record { from_in = l.from_in; to_in = l.to_in; differ = l.differ; kind-low = l.kind-low; kind-high = l.kind-high; triple_in = l.triple_in; ask_empty = l.ask_empty; ask_dead = λ e k b. h k (l.ask_dead e k b) }

pub any_default : (l : List Message) (i : ℕ) (d e : Message) → i < length l → get_or l i d ≡ get_or l i e
any_default [] i d e h = absurd (omega arith)
any_default (x ∷ l) zero d e h = refl
any_default (x ∷ l) (suc i) d e h = any_default l i d e (omega arith)

module _ (n dead : ℕ) where
  pub all_append : (l k : List Message) → AllInOrder n dead l → AllInOrder n dead k → AllInOrder n dead (l ++ k)
  all_append l k a b d i h = ⊎_elim here there (lt-or-le i (length l))
    where
      here : i < length l → MessageInOrder n dead (get_or (l ++ k) i d)
      here x = subst (MessageInOrder n dead) (sym (get_or-append l k d i x)) (a d i x)

      there : length l ≤ i → MessageInOrder n dead (get_or (l ++ k) i d)
      there x =
          let j = le_dest x in
          subst (MessageInOrder n dead) (sym (ap (λ (y : ℕ). get_or (l ++ k) y d) (sym j.1) ∙ get_or-append-add l k j.0 d)) (b d j.0 (omega (arith, length-append l k, j.1)))

  all_take : (c : ℕ) (l : List Message) → AllInOrder n dead l → AllInOrder n dead (take c l)
  all_take c l a d i h =
      let e : length (take c l) ≡ Prim.Native.Nat.min c (length l) = length-take c l in
      subst (MessageInOrder n dead) (sym (get_or-take c l i d (omega arith))) (a d i (omega arith))

  all_drop : (c : ℕ) (l : List Message) → AllInOrder n dead l → AllInOrder n dead (drop c l)
  all_drop c l a d i h = subst (MessageInOrder n dead) (sym (get_or-drop c l i d)) (a d (c + i) (omega (arith, length-drop c l)))

  pub all_without : (place : ℕ) (l : List Message) → AllInOrder n dead l → AllInOrder n dead (without place l)
  unfolding without
  all_without place l a = all_append (take place l) (drop (suc place) l) (all_take place l a) (all_drop (suc place) l a)

  -- what a rank posts
  letter_in_order : (me marks : ℕ) (s : Send) (q : ℕ) → me < n → Posted n me marks s → ((k : ℕ) → has marks k ≡ true → has dead k ≡ true) → has s.to q ≡ true → MessageInOrder n dead (letter me s q)
  letter_in_order me marks s q own p h t = subst (MessageInOrder n dead) (sym (letter_is me s q)) (record {
    from_in = own;
    to_in = p.to_in.inside q t;
    differ = λ e. clash (has s.to q) t (subst (λ (x : ℕ). has s.to x ≡ false) e p.to_in.without);
    kind-low = (p.kind-known q t).0;
    kind-high = (p.kind-known q t).1;
    triple_in = p.triple_in;
    ask_empty = p.ask_empty;
    ask_dead = λ e k b. h k (p.ask-root e k b);
  })

  pub all-letters : (me marks : ℕ) (s : Send) → me < n → Posted n me marks s → ((k : ℕ) → has marks k ≡ true → has dead k ≡ true) → AllInOrder n dead (letters me s)
  all-letters me marks s own p h d i l =
      let b : i < length (listed (has s.to) 64) = subst (λ (x : ℕ). i < x) (length-letters me s ∙ sym (length-listed (has s.to) 64)) l in
      let t : has s.to (get_or (listed (has s.to) 64) i 0) ≡ true = (listed_passes (has s.to) 64 i 0 b).1 in
      subst (MessageInOrder n dead) (sym (any_default (letters me s) i d (letter me s 0) l ∙ letter_at me s i)) (letter_in_order me marks s (get_or (listed (has s.to) 64) i 0) own p h t)
