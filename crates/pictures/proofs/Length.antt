-- No picture has more than 876 bytes, which is what all 64 ranks take. Where one of the first ten ranks is unmarked, a parent has no more digits than
-- half the rank; else ten ranks have no lines at all. Assumes nothing.
use mathlib.Core.Path.{◌≡◌, refl, sym, ap, ◌∙◌}
use mathlib.Core.Bool.{Bool, true, false, cond, not}
use mathlib.Core.List.{List, [], ◌∷◌, ◌++◌}
use mathlib.Core.Logic.{⊎_elim}
use Prim.Native.Nat.{ℕ, zero, suc, ◌+◌, ◌/◌, ◌≤◌, ◌<◌}
use native.Mathlib.Omega.{arith}
use lib.Dec.{eqb, ltb}
use lib.ListN.{length, length-append}
use borrow.Author.Tests.{lt-ltb, le-ltb, eqb-true, ne_eqb, not-true, not-false}
use Rattle.sets.specs.Sets.{none, has, smallest}
use Rattle.sets.proofs.Laws.Bools.{clash, or_cases, lt-or-le}
use Rattle.sets.proofs.Laws.Members.{has-add}
use Rattle.sets.proofs.Laws.Searches.{LeastOf, least, smallest-cases}
use Rattle.tree.specs.Tree.{flat, parent}
use Rattle.tree.specs.Relations.{Above}
use Rattle.tree.proofs.Laws.Calls.{size-le}
use Rattle.tree.proofs.Laws.Flat.{flat-suc, flat_ancestry}
use Rattle.tree.proofs.Laws.Parents.{Parent, nearest, lowest, nobody, parent-cases, parent-lt, no_parent_all}
use Rattle.text.specs.Text.{decimal, lines}
use Rattle.text.proofs.Laws.Digits.{decimal_short}
use Rattle.text.proofs.Laws.Lines.{length-lines-none, length_lines_more}
use Rattle.dot.specs.Dot.{opening_line, node_line, edge_line}
use Rattle.dot.proofs.Laws.Lines.{opening_is, NodeLine, unlisted, plain, boxed, node_cases, EdgeLine, unlinked, linked, edge-cases}
use Rattle.pictures.specs.Pictures.{picture}
use Rattle.pictures.specs.Writing.{writing}
use Rattle.pictures.specs.Reading.{IsView}
use Rattle.pictures.proofs.RoundTrip.{a_view_is_written}

-- How many digits a rank has.
unfoldable digits : ℕ → ℕ
digits p = cond (ltb p 10) 1 2

unfoldable sum : (ℕ → ℕ) → ℕ → ℕ
sum g zero = 0
sum g (suc k) = sum g k + g k

sum_le : (g : ℕ → ℕ) (n m : ℕ) → n ≤ m → sum g n ≤ sum g m
unfolding sum
sum_le g n zero l = let e : n ≡ 0 = omega arith in rw e (omega arith)
sum_le g n (suc m) l = ⊎_elim (λ (b : n < suc m). omega (arith, sum_le g n m (omega arith))) (λ (b : suc m ≤ n). let e : n ≡ suc m = omega arith in rw e (omega arith)) (lt-or-le n (suc m))

-- ---- the node lines: the root's has twelve bytes more, and no rank below it has one

-- All ranks below k are marked, so none has a line.
no_nodes : (marks k : ℕ) → ((p : ℕ) → p < k → has marks p ≡ true) → length (lines (node_line marks) k) ≡ 0
no_nodes marks zero h = length-lines-none (node_line marks)
no_nodes marks (suc k) h =
    let rest : length (lines (node_line marks) k) ≡ 0 = no_nodes marks k (λ p l. h p (omega arith)) in
    omega (arith, length_lines_more (node_line marks) k, no_line (node_line marks k) (node_cases marks k))
  where
    no_line : (x : List ℕ) → NodeLine marks k x → length x ≡ 0
    no_line x (unlisted e) = refl
    no_line x (plain rest e l) = absurd (clash (has marks k) (h k (omega arith)) e)
    no_line x (boxed rest e l r) = absurd (clash (has marks k) (h k (omega arith)) e)

nodes_length : (marks : ℕ) (g : ℕ → ℕ) → ((p : ℕ) → p < 64 → has marks p ≡ false → 2 + digits p ≤ g p) → (k : ℕ) → k ≤ 64 → length (lines (node_line marks) k) ≤ sum g k + 12
unfolding digits sum
nodes_length marks g short zero b = omega (arith, length-lines-none (node_line marks))
nodes_length marks g short (suc k) b = go (node_line marks k) (node_cases marks k) (length_lines_more (node_line marks) k) (nodes_length marks g short k (omega arith))
  where
    go : (x : List ℕ) → NodeLine marks k x → length (lines (node_line marks) (suc k)) ≡ length (lines (node_line marks) k) + length x → length (lines (node_line marks) k) ≤ sum g k + 12
        → length (lines (node_line marks) (suc k)) ≤ sum g k + g k + 12
    go x (unlisted e) m i = omega arith
    go x (plain rest e l) m i = omega (arith, length-append (decimal k) (59 ∷ rest), decimal_short k (omega arith), short k (omega arith) e)
    go x (boxed rest e l r) m i = omega (arith, length-append (decimal k) (32 ∷ rest), decimal_short k (omega arith), short k (omega arith) e, no_nodes marks k (no_parent_all flat marks k (omega arith) r))

-- ---- the edge lines

edges_length : (marks : ℕ) (g : ℕ → ℕ) → ((p : ℕ) → p < 64 → has marks p ≡ false → (parent flat marks p ≡ none → ⊥) → 6 + digits p + digits (parent flat marks p) ≤ g p)
    → (k : ℕ) → k ≤ 64 → length (lines (edge_line marks) k) ≤ sum g k
unfolding digits sum
edges_length marks g short zero b = omega (arith, length-lines-none (edge_line marks))
edges_length marks g short (suc k) b = go (edge_line marks k) (edge-cases marks k) (length_lines_more (edge_line marks) k) (edges_length marks g short k (omega arith))
  where
    go : (x : List ℕ) → EdgeLine marks k x → length (lines (edge_line marks) (suc k)) ≡ length (lines (edge_line marks) k) + length x → length (lines (edge_line marks) k) ≤ sum g k
        → length (lines (edge_line marks) (suc k)) ≤ sum g k + g k
    go x unlinked m i = omega arith
    go x (linked rest e d l) m i =
        let below : parent flat marks k < k = parent-lt flat marks k d in
        omega (arith, length-append (decimal k) (32 ∷ rest), decimal_short k (omega arith), decimal_short (parent flat marks k) (omega arith), short k (omega arith) e d)

-- ---- a parent has few digits where one of the first ten ranks is unmarked

one : (t : Bool) → 1 ≤ cond t 1 2
one true = omega arith
one false = omega arith

digits-two : (p : ℕ) → digits p ≤ 2
unfolding digits
digits-two p = go (ltb p 10)
  where
    go : (t : Bool) → cond t 1 2 ≤ 2
    go true = omega arith
    go false = omega arith

digits-one : (a b : ℕ) → a < 10 → digits a ≤ digits b
unfolding digits
digits-one a b l = rw (lt-ltb a 10 l) (one (ltb b 10))

digits_le : (a b : ℕ) → a ≤ b → digits a ≤ digits b
unfolding digits
digits_le a b l = ⊎_elim (λ s. digits-one a b s) (λ s. rw (le-ltb a 10 s, le-ltb b 10 (omega arith)) (omega arith)) (lt-or-le a 10)

-- An ancestor of p is at most half of p.
above_half : (p a : ℕ) → 0 < p → Above flat p a → a ≤ p / 2
above_half p a l h = ⊎_elim (λ u. let s : a < p / 2 = flat_ancestry.smaller (p / 2) a u in omega arith) (λ u. let e : a ≡ p / 2 = eqb-true a (p / 2) u in omega arith)
    (or_cases (has (flat (p / 2)) a) (eqb a (p / 2)) (sym (has-add (flat (p / 2)) (p / 2) a) ∙ (ap (λ (w : ℕ). has w a) (sym (flat-suc p l)) ∙ h)))

parent-digits : (marks r p q : ℕ) → r < 10 → has marks r ≡ false → q < p → Parent flat marks p q → (q ≡ none → ⊥) → digits q ≤ digits (p / 2)
parent-digits marks r p q b f s (nearest l u e k) d = digits_le q (p / 2) (above_half p q (omega arith) u)
parent-digits marks r p q b f s (lowest l e k u) d = ⊎_elim (λ t. absurd (clash (has marks r) (k r t) f)) (λ t. digits-one q (p / 2) (omega arith)) (lt-or-le r q)
parent-digits marks r p q b f s (nobody k) d = absurd (d refl)

-- ---- all lines together

opening_short : (n : ℕ) → n ≤ 64 → length (opening_line n) ≤ 14
unfolding digits
opening_short n b = rw (opening_is n) (omega (arith, length-append (decimal n) (32 ∷ 123 ∷ 10 ∷ []), decimal_short n (omega arith), digits-two n))

parts : (n marks nodes edges : ℕ) → n ≤ 64 → length (lines (node_line marks) n) ≤ nodes → length (lines (edge_line marks) n) ≤ edges → length (picture n marks) ≤ 16 + nodes + edges
unfolding picture
parts n marks nodes edges b x y =
    omega (
      arith,
      opening_short n b,
      length-append (opening_line n) (lines (node_line marks) n ++ (lines (edge_line marks) n ++ (125 ∷ 10 ∷ []))),
      length-append (lines (node_line marks) n) (lines (edge_line marks) n ++ (125 ∷ 10 ∷ [])),
      length-append (lines (edge_line marks) n) (125 ∷ 10 ∷ []),
    )

-- Where rank r of the first ten is unmarked, no line is longer than in the whole group's picture.
whole_edge : ℕ → ℕ
whole_edge p = cond (eqb p 0) 0 (6 + digits p + digits (p / 2))

with-one : (n marks r : ℕ) → n ≤ 64 → r < 10 → has marks r ≡ false → length (picture n marks) ≤ 876
unfolding digits sum whole_edge
with-one n marks r b l f =
    let nodes = nodes_length marks (λ p. 2 + digits p) (λ p m e. omega arith) n b in
    let edges = edges_length marks whole_edge short n b in
    omega (arith, parts n marks (sum (λ p. 2 + digits p) n + 12) (sum whole_edge n) b nodes edges, sum_le (λ p. 2 + digits p) n 64 b, sum_le whole_edge n 64 b)
  where
    short : (p : ℕ) → p < 64 → has marks p ≡ false → (parent flat marks p ≡ none → ⊥) → 6 + digits p + digits (parent flat marks p) ≤ whole_edge p
    short p m e d =
        let below : parent flat marks p < p = parent-lt flat marks p d in
        let few : digits (parent flat marks p) ≤ digits (p / 2) = parent-digits marks r p (parent flat marks p) l f below (parent-cases flat marks p) d in
        rw (ne_eqb p 0 (λ z. omega arith)) (omega arith)

-- Where all of the first ten are marked, ten ranks have no lines, and no other line has more than two digits to a number.
late : ℕ → ℕ → ℕ
late bytes p = cond (ltb p 10) 0 bytes

without_ten : (n marks : ℕ) → n ≤ 64 → ((k : ℕ) → k < 10 → has marks k ≡ true) → length (picture n marks) ≤ 876
unfolding digits sum late
without_ten n marks b h =
    let nodes = nodes_length marks (late 4) node n b in
    let edges = edges_length marks (late 10) edge n b in
    omega (arith, parts n marks (sum (late 4) n + 12) (sum (late 10) n) b nodes edges, sum_le (late 4) n 64 b, sum_le (late 10) n 64 b)
  where
    past : (p : ℕ) → has marks p ≡ false → 10 ≤ p
    past p e = ⊎_elim (λ s. absurd (clash (has marks p) (h p s) e)) (λ s. s) (lt-or-le p 10)

    node : (p : ℕ) → p < 64 → has marks p ≡ false → 2 + digits p ≤ late 4 p
    node p m e = rw (le-ltb p 10 (past p e)) (omega (arith, digits-two p))

    edge : (p : ℕ) → p < 64 → has marks p ≡ false → (parent flat marks p ≡ none → ⊥) → 6 + digits p + digits (parent flat marks p) ≤ late 10 p
    edge p m e d = rw (le-ltb p 10 (past p e)) (omega (arith, digits-two p, digits-two (parent flat marks p)))

pub a_picture_has_at_most_876_bytes : (n marks : ℕ) → n ≤ 64 → length (picture n marks) ≤ 876
a_picture_has_at_most_876_bytes n marks b = go (smallest (λ k. not (has marks k)) 10 none) (smallest-cases (λ k. not (has marks k)) 10 none)
  where
    go : (r : ℕ) → LeastOf (λ k. not (has marks k)) 10 none r → length (picture n marks) ≤ 876
    go r (least s) = with-one n marks r b s.within (not-true (has marks r) s.passes)
    go r (LeastOf.empty f) = without_ten n marks b (λ k l. not-false (has marks k) (f k l))

-- So a buffer of 876 bytes takes every view.
pub room_for_every_view : (n marks : ℕ) (text : List ℕ) → IsView n marks → 876 ≤ length text → (writing n marks text).answer ≡ 0
room_for_every_view n marks text v l =
    a_view_is_written n marks text v (omega (arith, a_picture_has_at_most_876_bytes n marks (size-le n false (sym v.sized) refl)))
