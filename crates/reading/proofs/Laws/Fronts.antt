-- What is made of a front that was read, where it is made of no more than a buffer's length. Assumes nothing.
use Rattle.std.proofs.Common.{◌≡◌, ℕ, ◌<◌, ◌≤◌, List, [], ◌++◌, Option, None, Some, IfSome, arith, length, take, sym, ap, ◌∙◌, subst, append-nil}
use mathlib.Core.Logic.{⊎_elim}
use Rattle.std.proofs.lemmas.Bool.{cases_lt}
use Rattle.std.proofs.lemmas.List.{take_all, take-append-le}
use Rattle.std.specs.Io.KnownBytes.{Appends, Consumes, IsAtEnd}

-- What is made of the front that was read is what is made of the whole.
whole : (made : List ℕ → List ℕ) (room : ℕ) (buffer file rest : List ℕ) (got : ℕ) → ((l : List ℕ) → made (take room l) ≡ made l) → length buffer ≡ room → got ≤ length buffer
    → file ≡ take got buffer ++ rest → (got < length buffer → rest ≡ []) → made (take got buffer) ≡ made file
whole made room buffer file rest got start long within front end = ⊎_elim short full (cases_lt got (length buffer))
  where
    short : got < length buffer → made (take got buffer) ≡ made file
    short l = ap made (sym (append-nil (take got buffer)) ∙ ap (λ (r : List ℕ). take got buffer ++ r) (sym (end l)) ∙ sym front)

    full : length buffer ≤ got → made (take got buffer) ≡ made file
    full l =
        let all : take got buffer ≡ buffer = take_all got buffer l in
        let first : take room file ≡ take got buffer =
        ap (take room) (front ∙ ap (λ (f : List ℕ). f ++ rest) all) ∙ take-append-le room buffer rest (omega (arith, long)) ∙ take_all room buffer (omega (arith, long)) ∙ sym all in
        ap made (sym first) ∙ start file

-- Of a reader and a writer whose bytes are known: what is written of the front that was read is what is made of all that the reader had.
pub whole_written : (made : List ℕ → List ℕ) (room : ℕ) (a b w v : Option (List ℕ)) (buffer said : List ℕ) (got : ℕ) → ((l : List ℕ) → made (take room l) ≡ made l) → length buffer ≡ room
    → got ≤ length buffer → Consumes a b (take got buffer) → (got < length buffer → IsAtEnd b) → said ≡ made (take got buffer) → Appends w v said → IfSome a (λ file. Appends w v (made file))
whole_written made room None b w v buffer said got start long within lost end s p = tt
whole_written made room (Some file) None w v buffer said got start long within lost end s p = absurd lost
whole_written made room (Some file) (Some rest) w v buffer said got start long within lost end s p =
    subst (Appends w v) (s ∙ whole made room buffer file rest got start long within lost end) p
