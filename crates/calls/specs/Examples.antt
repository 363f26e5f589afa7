-- Closed tests: document 01, "Examples on both sides", those of the tree that are to be proved, as one list.
use Rattle.std.specs.Prelude.{ℕ, Bool, ◌&&◌, List, [], ◌∷◌, ◌++◌, eqb, replicate}
use Rattle.tree.specs.Tree.{flat, fresh}
use Rattle.tree.specs.Forms.{flat_form}
use Rattle.tree.specs.Calls.{same}
use Rattle.calls.specs.Calls.{Marked, Told, marked, climbed}
use Rattle.tree.specs.declared.Moved.{Moved}

-- A view of 8 ranks has these parents, and 255 from 8 on.
unfoldable pub parents8 : List ℕ → List ℕ → Bool
parents8 table parents = same table (parents ++ replicate 56 255)

-- Moved is this set of ranks, counted so.
unfoldable pub tallies : Moved → ℕ → ℕ → Bool
tallies m ranks count = eqb m.ranks ranks && eqb m.count count

-- A mark is accepted, and gives these parents and moved.
unfoldable pub gives : Marked → List ℕ → ℕ → ℕ → Bool
gives r parents ranks count = eqb r.answer 0 && parents8 r.table parents && tallies r.moved ranks count

unfoldable pub tells : Told → ℕ → ℕ → ℕ → Bool
tells t number rank links = eqb t.number number && eqb t.rank rank && eqb t.climbed links

-- rank 1 marked; then, from no marks again, 0, then 1, then 2, then 2 again
unfoldable pub after1 : Marked
after1 = marked 8 flat_form 1 0 (fresh flat 8 0) 1

unfoldable pub after0 : Marked
after0 = marked 8 flat_form 1 0 (fresh flat 8 0) 0

unfoldable pub after01 : Marked
after01 = marked 8 flat_form 1 after0.marks after0.table 1

unfoldable pub after012 : Marked
after012 = marked 8 flat_form 1 after01.marks after01.table 2

unfoldable pub again : Marked
again = marked 8 flat_form 1 after012.marks after012.table 2

unfoldable pub examples : List Bool
examples =
    -- 1. n=8, no marks: parents 255,0,1,1,2,2,3,3.
    parents8 (fresh flat 8 0) (255 ∷ 0 ∷ 1 ∷ 1 ∷ 2 ∷ 2 ∷ 3 ∷ 3 ∷ [])
    -- 2. Then mark 1: 2 and 3 go to 0, moved 2.
    ∷ gives after1 (255 ∷ 0 ∷ 0 ∷ 0 ∷ 2 ∷ 2 ∷ 3 ∷ 3 ∷ []) 0b1100 2
    -- 3. n=8, mark 0: 1 gets 255, moved 1.
    ∷ gives after0 (255 ∷ 255 ∷ 1 ∷ 1 ∷ 2 ∷ 2 ∷ 3 ∷ 3 ∷ []) 0b10 1
    -- 4. Then 1: 2 gets 255, 3 gets 2, moved 2.
    ∷ gives after01 (255 ∷ 255 ∷ 255 ∷ 2 ∷ 2 ∷ 2 ∷ 3 ∷ 3 ∷ []) 0b1100 2
    -- 5. Then 2: 3 gets 255; 4, 5, 6, 7 have parent 3; moved 3.
    ∷ gives after012 (255 ∷ 255 ∷ 255 ∷ 255 ∷ 3 ∷ 3 ∷ 3 ∷ 3 ∷ []) 0b111000 3
    -- 6. Mark 2 again: moved 0.
    ∷ gives again (255 ∷ 255 ∷ 255 ∷ 255 ∷ 3 ∷ 3 ∷ 3 ∷ 3 ∷ []) 0 0
    -- 7. n=64, no marks, climb from 63: root 0, 6 links; allowance 5: refusal 12, rank 1, 5 links.
    ∷ tells (climbed 64 flat_form 1 0 63 6) 0 0 6
    ∷ tells (climbed 64 flat_form 1 0 63 5) 12 1 5
    ∷ []
