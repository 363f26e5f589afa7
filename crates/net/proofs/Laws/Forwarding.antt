-- The list of an event along its code: a message leaves, two sends join. Assumes nothing.
use mathlib.Core.Path.{◌≡◌, refl, ap, ◌∙◌}
use mathlib.Core.Bool.{Bool, true, false, cond}
use mathlib.Core.List.{List, ◌++◌}
use Prim.Native.Nat.{ℕ, suc, ◌+◌, ◌-◌, ◌≤◌, ◌<◌}
use native.Mathlib.Omega.{arith}
use lib.ListN.{length, take, drop, length-append, length-drop}
use lib.Seq.{length-take-le}
use Rattle.rank.specs.declared.Send.{Send}
use Rattle.rank.specs.declared.Message.{Message}
use Rattle.rank.specs.Sends.{letters, size}
use Rattle.rank.proofs.Laws.Letters.{length-letters}
use Rattle.net.specs.Net.{placed, without, joining}
use Rattle.net.proofs.Laws.Net.{placed_same}

-- the list once a message has left, if one leaves
abbrev pub spared : Bool → ℕ → List Message → List Message
spared leaves place l = cond leaves (without place l) l

-- a send that has joined
pub joined_is : (l next : List Message) (me : ℕ) (s : Send) → placed next ≡ joining l me s → next ≡ l ++ letters me s
unfolding joining
joined_is l next me s e = placed_same next (l ++ letters me s) e

-- the lengths along the code
pub spared_count : (l : List Message) (place : ℕ) (leaves : Bool) → (leaves ≡ true → place < length l) → length (spared leaves place l) ≡ length l - cond leaves 1 0
unfolding without
spared_count l place true h =
    length-append (take place l) (drop (suc place) l)
    ∙ (let k : place < length l = h refl in let e : length (take place l) + length (drop (suc place) l) ≡ length l - 1 = omega (arith, length-take-le place l (omega arith), length-drop (suc place) l) in e)
spared_count l place false h = let z : length l ≡ length l - 0 = omega arith in z

-- there is room for both sends once the message has left
pub room_both : (c place x y : ℕ) (leaves : Bool) → (leaves ≡ true → place < c) → c + x + y - cond leaves 1 0 ≤ 128 → c - cond leaves 1 0 + x + y ≤ 128
room_both c place x y true h b = omega (arith, h refl)
room_both c place x y false h b = omega arith

pub joined_count : (l next : List Message) (me : ℕ) (s : Send) → next ≡ l ++ letters me s → length next ≡ length l + size s
joined_count l next me s e = ap length e ∙ length-append l (letters me s) ∙ ap (λ (k : ℕ). length l + k) (length-letters me s)
