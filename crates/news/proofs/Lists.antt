-- The ranks of a list join a set one after another: the set that comes of it is a matter of the list's members. Assumes nothing.
use mathlib.Core.Path.{◌≡◌, refl, sym, ap, ◌∙◌}
use mathlib.Core.Bool.{Bool, true, ◌||◌}
use mathlib.Core.List.{List, [], ◌∷◌, ◌++◌, append_assoc, foldl, foldl-append}
use Prim.Native.Nat.{ℕ, zero, suc}
use lib.Dec.{eqb}
use Rattle.sets.specs.Sets.{has, add, union, below, listed}
use Rattle.sets.proofs.Laws.Bools.{or_assoc, or_false_r}
use Rattle.sets.proofs.Laws.Members.{ext, has-zero, has-add, has-union, union-below-suc, union-below-zero}
use Rattle.sets.proofs.Laws.Searches.{listed-zero, listed-put}
use Rattle.news.specs.News.{is_in, MembersAre, News, tells_of, all_told}

-- the members of what has come of it
has-added : (l : List ℕ) (w k : ℕ) → has (foldl add w l) k ≡ has w k || is_in k l
unfolding is_in
has-added [] w k = sym (or_false_r (has w k))
has-added (q ∷ l) w k = has-added l (add w q) k ∙ ap (λ (b : Bool). b || is_in k l) (has-add w q k) ∙ or_assoc (has w k) (eqb k q) (is_in k l)

-- a list whose members are a set adds that set
pub added-set : (w set : ℕ) (l : List ℕ) → MembersAre l set → foldl add w l ≡ union w set
added-set w set l m = ext (foldl add w l) (union w set) (λ k. has-added l w k ∙ ap (λ (b : Bool). has w k || b) (m k) ∙ sym (has-union w set k))

-- every list has its set
pub added-members : (l : List ℕ) → MembersAre l (foldl add 0 l)
added-members l k = sym (has-added l 0 k ∙ ap (λ (b : Bool). b || is_in k l) (has-zero k))

-- all below q, ascending
pub added-below : (w q : ℕ) → foldl add w (listed (λ k. true) q) ≡ union w (below q)
added-below w zero = ap (foldl add w) (listed-zero (λ k. true)) ∙ sym (union-below-zero w)
added-below w (suc q) =
    ap (foldl add w) (listed-put (λ k. true) q refl) ∙ foldl-append add w (listed (λ k. true) q) (q ∷ [])
    ∙ ap (λ (x : ℕ). add x q) (added-below w q) ∙ union-below-suc w q

-- what later news tells of comes after
pub told_append : (l m : List News) → all_told (l ++ m) ≡ all_told l ++ all_told m
unfolding all_told
told_append [] m = refl
told_append (e ∷ l) m = ap (λ (x : List ℕ). tells_of e ++ x) (told_append l m) ∙ sym (append_assoc (tells_of e) (all_told l) (all_told m))
