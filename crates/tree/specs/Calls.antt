-- What mending answers, over any ancestor sets, and the tests of sizes and tables; document 01, "The tree".
use Rattle.std.specs.Prelude.{ℕ, zero, suc, ◌+◌, Bool, true, false, ◌&&◌, ◌||◌, List, [], ◌∷◌, eqb, ltb}
use Rattle.sets.specs.Sets.{add, union, below}
use Rattle.tree.specs.Tree.{fresh, moved, nobody}
use Rattle.tree.specs.declared.Moved.{Moved}
use Rattle.tree.specs.declared.Mended.{Mended}

-- A view with q marked, its table, equal to the fresh one, and moved.
unfoldable pub mended : (ℕ → ℕ) → ℕ → ℕ → ℕ → Mended
mended anc n marks q = record { marks = add marks q; table = fresh anc n (add marks q); moved = moved anc n marks q }

-- Moved by one marking and then another: the union of the sets, and the sum of the counts.
unfoldable pub and_then : Moved → Moved → Moved
and_then a b = record { ranks = union a.ranks b.ranks; count = a.count + b.count }

-- Marking every rank below q, ascending: moved is the union and the sum over the marks.
unfoldable pub moved_below : (ℕ → ℕ) → ℕ → ℕ → ℕ → Moved
moved_below anc n marks zero = nobody
moved_below anc n marks (suc k) = and_then (moved_below anc n marks k) (moved anc n (union marks (below k)) k)

unfoldable pub mended_below : (ℕ → ℕ) → ℕ → ℕ → ℕ → Mended
mended_below anc n marks q =
    record { marks = union marks (below q); table = fresh anc n (union marks (below q)); moved = moved_below anc n marks q }

-- A size, of a group or of a box, is not 1 to 64.
unfoldable pub wrong_size : ℕ → Bool
wrong_size n = eqb n 0 || ltb 64 n

-- Two tables are the same, entry by entry.
unfoldable pub same : List ℕ → List ℕ → Bool
same [] [] = true
same [] (y ∷ t) = false
same (x ∷ s) [] = false
same (x ∷ s) (y ∷ t) = eqb x y && same s t
