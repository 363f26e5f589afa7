-- The tree. A view is the set of ranks marked dead, in a group of n ranks numbered 0 to n - 1.
-- Ancestors are said over any `above`, the rank next above each, and all else over any ancestor sets `anc`, a word for each rank;
-- the flat tree is one instance, and Forms has two more.
use Rattle.std.specs.Prelude.{ℕ, zero, suc, ◌/◌, ◌^◌, ◌<◌, ◌≡◌, Bool, false, cond, not, ◌&&◌, List, [], ◌∷◌, ◌++◌, eqb, ltb, length, get_or}
use Rattle.sets.specs.Sets.{none, has, add, set_of, count, largest, smallest}
use Rattle.tree.specs.declared.Moved.{Moved}

-- A tree says which rank stands next above each rank but 0, and it is a smaller one. The ancestors of p are the rank above p and that
-- one's ancestors; rank 0 has none. The first number bounds the steps up; p itself is enough, as each ends at a smaller rank.
unfoldable pub lineage : (ℕ → ℕ) → ℕ → ℕ → ℕ
lineage above zero p = 0
lineage above (suc d) zero = 0
lineage above (suc d) (suc p) = add (lineage above d (above (suc p))) (above (suc p))

unfoldable pub ancestors : (ℕ → ℕ) → ℕ → ℕ
ancestors above p = lineage above p p

-- The flat tree: the rank above p is half of p. So the ancestors of p are floor(p/2^i) for i from 1, up to and including 0;
-- rank 0 has none.
unfoldable pub half : ℕ → ℕ
half p = p / 2

unfoldable pub flat : ℕ → ℕ
flat = ancestors half

-- The parent of p, marked or not: the largest unmarked ancestor, if there is one; else the smallest unmarked rank below p,
-- if there is one; else none, written 255.
unfoldable pub parent : (ℕ → ℕ) → ℕ → ℕ → ℕ
parent anc marks p = largest (λ a. has (anc p) a && not (has marks a)) p (smallest (λ a. not (has marks a)) p none)

-- The children of p are the unmarked ranks whose parent is p.
unfoldable pub children : (ℕ → ℕ) → ℕ → ℕ → ℕ → ℕ
children anc n marks p = set_of (λ c. not (has marks c) && eqb (parent anc marks c) p) n

-- A table of n entries, the value of f at each place.
unfoldable pub row : {A : Type 0} → (ℕ → A) → ℕ → List A
row f zero = []
row f (suc n) = row f n ++ (f n ∷ [])

-- Each rank holds the whole table for its own view: 64 parent numbers; entries at n and above hold 255.
unfoldable pub entry : (ℕ → ℕ) → ℕ → ℕ → ℕ → ℕ
entry anc n marks p = cond (ltb p n) (parent anc marks p) none

unfoldable pub fresh : (ℕ → ℕ) → ℕ → ℕ → List ℕ
fresh anc n marks = row (entry anc n marks) 64

-- "Moved" counts the unmarked ranks whose entry changed, after the mark. Entries of marked ranks that pointed at the newly
-- marked one move too but are not counted.
unfoldable pub moves : (ℕ → ℕ) → ℕ → ℕ → ℕ → Bool
moves anc marks q p = not (has (add marks q) p) && not (eqb (parent anc (add marks q) p) (parent anc marks p))

-- Request 2026-01: it is the set of these ranks, and the count is the set's size. Where nobody moved, it is the empty set and 0.
unfoldable pub sized : ℕ → Moved
sized w = record { ranks = w; count = count (has w) 64 }

abbrev pub nobody : Moved
nobody = record { ranks = 0; count = 0 }

unfoldable pub moved : (ℕ → ℕ) → ℕ → ℕ → ℕ → Moved
moved anc n marks q = sized (set_of (moves anc marks q) n)

-- What theorems say of that set: p is a rank of the group that is unmarked after the mark of q, and its entry ended at q.
unfoldable pub ended_at : ℕ → ℕ → ℕ → List ℕ → ℕ → Bool
ended_at n q after before p = ltb p n && not (has after p) && eqb (get_or before p 0) q

-- The path from p to its root: the ranks above p, link by link. The first number bounds the links; p's own number is enough,
-- as each parent is smaller.
unfoldable pub upwards : (ℕ → ℕ) → ℕ → ℕ → ℕ → List ℕ
upwards anc marks zero p = []
upwards anc marks (suc d) p =
    let rest = parent anc marks p ∷ upwards anc marks d (parent anc marks p) in
    cond (eqb (parent anc marks p) none) [] rest

unfoldable pub path : (ℕ → ℕ) → ℕ → ℕ → List ℕ
path anc marks p = upwards anc marks p p

-- How many links lead from p to its root, and the rank that is reached after k of them.
unfoldable pub links : (ℕ → ℕ) → ℕ → ℕ → ℕ
links anc marks p = length (path anc marks p)

unfoldable pub reached : (ℕ → ℕ) → ℕ → ℕ → ℕ → ℕ
reached anc marks p k = get_or (p ∷ path anc marks p) k none

-- How many ancestors p has; all are below p.
abbrev pub ancestor_count : (ℕ → ℕ) → ℕ → ℕ
ancestor_count anc p = count (has (anc p)) p

-- A root of a view of n ranks: one of them that is unmarked and has no parent.
pub record IsRoot (anc : ℕ → ℕ) (n marks r : ℕ) : Type 0 where
  pub inside : r < n
  pub unmarked : has marks r ≡ false
  pub parentless : parent anc marks r ≡ none

-- The number of binary digits of p, rank 0 counting as none: the least d with p below 2 ^ d.
unfoldable pub digits : ℕ → ℕ
digits p = smallest (λ d. ltb p (2 ^ d)) (suc p) p
