-- Closed tests: what a refused mark and a refused climb answer, value by value, the edges of both calls, and what the marks of an ASK move.
use Rattle.std.specs.Prelude.{ℕ, ◌-◌, ◌^◌, Bool, not, ◌&&◌, List, [], ◌∷◌, eqb, replicate}
use Rattle.sets.specs.Sets.{has, union, meet, below, count, every}
use Rattle.tree.specs.Tree.{flat, fresh, digits}
use Rattle.tree.specs.Forms.{flat_form}
use Rattle.tree.specs.Calls.{same, moved_below}
use Rattle.calls.specs.Calls.{Marked, marked, climbed}
use Rattle.calls.specs.Examples.{tallies, tells}

-- A mark answers this number, marks and table, and nobody moved.
unfoldable pub answers : Marked → ℕ → ℕ → List ℕ → Bool
answers r number marks table = eqb r.answer number && eqb r.marks marks && same r.table table && tallies r.moved 0 0

-- No view's table.
unfoldable pub damaged : List ℕ
damaged = replicate 64 7

-- In a view of n ranks, the marks of an ASK from q: no rank moves twice, so the sum is the set's size; and none that moved is marked after.
unfoldable pub nobody_twice : ℕ → ℕ → ℕ → Bool
nobody_twice n marks q = eqb (moved_below flat n marks q).count (count (has (moved_below flat n marks q).ranks) 64)

unfoldable pub nobody_marked : ℕ → ℕ → ℕ → Bool
nobody_marked n marks q = eqb (meet (moved_below flat n marks q).ranks (union marks (below q))) 0

-- It is so in every view of n ranks, for every ASK that one of them can take: its sender is below its receiver.
unfoldable pub in_every_view : (ℕ → ℕ → ℕ → Bool) → ℕ → Bool
in_every_view f n = every (λ marks. every (f n marks) (n - 1)) (2 ^ n)

unfoldable pub cases : List Bool
cases =
    -- a mark refused with 1: sizes 0 and 65; 2 and 4 apply as well, and the lowest is given
    answers (marked 0 flat_form 1 5 damaged 0) 1 5 damaged
    ∷ answers (marked 65 flat_form 1 5 damaged 65) 1 5 damaged
    -- with 2: marks outside the group; a table that isn't the fresh one
    ∷ answers (marked 2 flat_form 1 4 (fresh flat 2 4) 0) 2 4 (fresh flat 2 4)
    ∷ answers (marked 2 flat_form 1 1 damaged 0) 2 1 damaged
    -- wrong by 2 and by 4: 2
    ∷ answers (marked 2 flat_form 1 1 damaged 2) 2 1 damaged
    ∷ answers (marked 2 flat_form 1 4 (fresh flat 2 4) 2) 2 4 (fresh flat 2 4)
    -- with 4
    ∷ answers (marked 2 flat_form 1 1 (fresh flat 2 1) 2) 4 1 (fresh flat 2 1)
    -- a marked rank again; even the last unmarked rank
    ∷ answers (marked 2 flat_form 1 1 (fresh flat 2 1) 0) 0 1 (fresh flat 2 1)
    ∷ answers (marked 2 flat_form 1 1 (fresh flat 2 1) 1) 0 3 (fresh flat 2 3)
    -- an ASK from 3 to one of five ranks that knows no death: 1, then 2 and 3, then 3 and 4 move, the sum is 5 and the set has 4; in a smaller
    -- group no ASK moves a rank twice
    ∷ tallies (moved_below flat 5 0 3) 0b11110 5 ∷ not (nobody_twice 5 0 3) ∷ every (in_every_view nobody_twice) 5
    -- an ASK from 2 to one of four: rank 1 moves at the first mark and is marked by the second; in a smaller group no ASK does that
    ∷ tallies (moved_below flat 4 0 2) 0b1110 3 ∷ not (nobody_marked 4 0 2) ∷ every (in_every_view nobody_marked) 4
    -- a climb refused with 1 or 4: rank 255 and 0 links; 1 before 4, and 4 before 6
    ∷ tells (climbed 0 flat_form 1 0 0 9) 1 255 0
    ∷ tells (climbed 65 flat_form 1 0 65 9) 1 255 0
    ∷ tells (climbed 2 flat_form 1 0 2 9) 4 255 0
    ∷ tells (climbed 2 flat_form 1 4 2 9) 4 255 0
    -- with 6: the rank asked and 0 links
    ∷ tells (climbed 2 flat_form 1 2 1 9) 6 1 0
    -- with 12: the rank reached and the allowance
    ∷ tells (climbed 8 flat_form 1 0 7 0) 12 7 0
    ∷ tells (climbed 8 flat_form 1 2 7 1) 12 3 1
    -- the root by itself; marks at n and above are ignored
    ∷ tells (climbed 8 flat_form 1 0 0 0) 0 0 0
    ∷ tells (climbed 8 flat_form 1 256 7 3) 0 0 3
    -- binary digits
    ∷ eqb (digits 0) 0 ∷ eqb (digits 1) 1 ∷ eqb (digits 2) 2 ∷ eqb (digits 3) 2 ∷ eqb (digits 4) 3 ∷ eqb (digits 63) 6
    ∷ []
