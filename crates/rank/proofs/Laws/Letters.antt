-- The list of messages that a rule sends: as long as its sets have members, each to a member of its set, in ascending order of receiver.
-- Assumes nothing.
use mathlib.Core.Path.{◌≡◌, refl, sym, ap, subst, ◌∙◌}
use mathlib.Core.List.{[], ◌∷◌, map}
use Prim.Native.Nat.{ℕ, ◌<◌}
use lib.ListN.{length, get_or, length-map, get_or-map}
use Rattle.sets.specs.Sets.{has, only, minus, count, listed}
use Rattle.sets.proofs.Laws.Members.{has-zero}
use Rattle.sets.proofs.Laws.Searches.{Smallest, length-listed, listed-none, listed_ascends, listed-first}
use Rattle.rank.specs.declared.Send.{Send}
use Rattle.rank.specs.declared.Message.{Message}
use Rattle.rank.specs.Sends.{silent, letter, letters}

-- a message in fields
pub letter_is : (me : ℕ) (s : Send) (q : ℕ) → ◌≡◌ {A = Message} (letter me s q) (record { kind = s.kind; from = me; to = q; triple = s.triple })
unfolding letter
letter_is me s q = refl

pub length-letters : (me : ℕ) (s : Send) → length (letters me s) ≡ count (has s.to) 64
unfolding letters
length-letters me s = length-map (listed (has s.to) 64) (letter me s) ∙ length-listed (has s.to) 64

-- the message at a place of the list
pub letter_at : (me : ℕ) (s : Send) (i : ℕ) → get_or (letters me s) i (letter me s 0) ≡ letter me s (get_or (listed (has s.to) 64) i 0)
unfolding letters
letter_at me s i = get_or-map (letter me s) (listed (has s.to) 64) i 0

-- a send to several ranks goes in ascending order of receiver
pub letters_ascend : (me : ℕ) (s : Send) (i j : ℕ) → i < j → j < length (letters me s) → (get_or (letters me s) i (letter me s 0)).to < (get_or (letters me s) j (letter me s 0)).to
unfolding letter
letters_ascend me s i j l h =
    rw (letter_at me s i, letter_at me s j)
    (listed_ascends (has s.to) 64 i j 0 l (subst (λ (x : ℕ). j < x) (length-letters me s ∙ sym (length-listed (has s.to) 64)) h))

-- a send to a set begins with the message to its smallest member, and goes on as the same send to the others; one to nobody is no message
pub letters-first : (me : ℕ) (s : Send) (left q : ℕ) → Smallest (has left) 64 q
    → letters me (record { kind = s.kind; triple = s.triple; to = left }) ≡ letter me s q ∷ letters me (record { kind = s.kind; triple = s.triple; to = minus left (only q) })
unfolding letters letter
letters-first me s left q m = ap (map (letter me s)) (listed-first left 64 q m)

pub letters-none : (me : ℕ) (s : Send) → s.to ≡ 0 → letters me s ≡ []
unfolding letters
letters-none me s e = ap (λ (w : ℕ). map (letter me s) (listed (has w) 64)) e ∙ ap (map (letter me s)) (listed-none (has 0) 64 (λ k l. has-zero k))

pub letters-silent : (me : ℕ) → letters me silent ≡ []
unfolding silent
letters-silent me = letters-none me silent refl
