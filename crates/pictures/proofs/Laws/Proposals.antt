-- What the reader proposes for a picture is its view. The lines after those of the ranks below p begin with an unmarked rank or with `}`, so a
-- marked p is not read where it would stand, and an unmarked one is. Assumes nothing.
use mathlib.Core.Path.{◌≡◌, sym, ap, ◌∙◌}
use mathlib.Core.Bool.{true, false, cond}
use mathlib.Core.List.{List, [], ◌∷◌, ◌++◌, append_assoc}
use Prim.Native.Nat.{ℕ, zero, suc, ◌+◌, ◌^◌, ◌≤◌, ◌<◌}
use native.Mathlib.Omega.{arith}
use lib.Dec.{eqb}
use lib.ListN.{length, length-append}
use Rattle.sets.specs.Sets.{has, add, set_of}
use Rattle.sets.proofs.Laws.Bools.{clash}
use Rattle.sets.proofs.Laws.Members.{set_of-zero, set_of-put, set_of_skip, set_of-members}
use Rattle.text.specs.Text.{decimal, lines}
use Rattle.text.proofs.Laws.Lines.{from, lines_from}
use Rattle.text.proofs.Laws.Lines as text-lines
use Rattle.dot.specs.Dot.{opening_line, node_line, edge_line}
use Rattle.dot.proofs.Laws.Lines.{opening_is, NodeLine, unlisted, plain, boxed, node_cases, EdgeLine, unlinked, linked, edge-cases}
use Rattle.proposing.specs.Proposing.{is_digit, number_in, width, after_node, marks_from, size_in, marks_in}
use Rattle.proposing.proofs.Laws.Steps.{from_take, from_skip, from_none}
use Rattle.proposing.proofs.Laws.Numbers.{space_ends, semicolon_ends, brace_ends, width_is, number_read, number-unread, after_read, size_in_lem, marks_in_lem}
use Rattle.pictures.specs.Pictures.{picture}

-- ---- what comes next begins with an unmarked rank, or closes the digraph

data Next (marks : ℕ) : List ℕ → Type 0 where
  closes : (rest : List ℕ) → Next marks (125 ∷ rest)
  names : (q c : ℕ) (rest : List ℕ) → q < 64 → has marks q ≡ false → is_digit c ≡ false → Next marks (decimal q ++ (c ∷ rest))

next-named : (marks q c : ℕ) (rest l : List ℕ) → q < 64 → has marks q ≡ false → is_digit c ≡ false → Next marks ((decimal q ++ (c ∷ rest)) ++ l)
next-named marks q c rest l b e d = rw append_assoc (names q c (rest ++ l) b e d)

next_node : (marks q : ℕ) (x l : List ℕ) → q < 64 → NodeLine marks q x → Next marks l → Next marks (x ++ l)
next_node marks q x l b (unlisted e) h = h
next_node marks q x l b (plain rest e k) h = next-named marks q 59 rest l b e semicolon_ends
next_node marks q x l b (boxed rest e k r) h = next-named marks q 32 rest l b e space_ends

next_edge : (marks q : ℕ) (x l : List ℕ) → q < 64 → EdgeLine marks q x → Next marks l → Next marks (x ++ l)
next_edge marks q x l b unlinked h = h
next_edge marks q x l b (linked rest e r k) h = next-named marks q 32 rest l b e space_ends

next_from : (marks : ℕ) (f : ℕ → List ℕ) → ((q : ℕ) (l : List ℕ) → q < 64 → Next marks l → Next marks (f q ++ l)) → (k p : ℕ) (l : List ℕ) → p + k ≤ 64 → Next marks l → Next marks (from f p k ++ l)
next_from marks f each zero p l b h = rw (text-lines.from_none f p) h
next_from marks f each (suc k) p l b h =
    rw (text-lines.from_more f p k, append_assoc (f p) (from f (p + 1) k) l)
    (each p (from f (p + 1) k ++ l) (omega arith) (next_from marks f each k (p + 1) l (omega arith) h))

next_nodes : (marks k p : ℕ) (l : List ℕ) → p + k ≤ 64 → Next marks l → Next marks (from (node_line marks) p k ++ l)
next_nodes marks = next_from marks (node_line marks) (λ q l b. next_node marks q (node_line marks q) l b (node_cases marks q))

next_edges : (marks k p : ℕ) (l : List ℕ) → p + k ≤ 64 → Next marks l → Next marks (from (edge_line marks) p k ++ l)
next_edges marks = next_from marks (edge_line marks) (λ q l b. next_edge marks q (edge_line marks q) l b (edge-cases marks q))

-- A marked rank is not read there.
next-other : (marks p : ℕ) (pre l : List ℕ) → p < 64 → has marks p ≡ true → Next marks l → number_in (pre ++ l) (length pre) ≡ p → ⊥
next-other marks p pre l b e (closes rest) i = omega (arith, number-unread pre 125 rest brace_ends)
next-other marks p pre l b e (names q c rest m f d) i =
    let same : q ≡ p = sym (number_read pre q c rest (omega arith) d) ∙ i in
    clash (has marks p) e (ap (has marks) (sym same) ∙ f)

-- ---- the marks are read, rank after rank

-- An unmarked rank is read where its line stands, and its line is passed.
named : (p c : ℕ) (text pre rest after : List ℕ) (at : ℕ) → p < 64 → is_digit c ≡ false → suc (length rest) ≡ cond (eqb c 59) 2 14 → text ≡ pre ++ ((decimal p ++ (c ∷ rest)) ++ after) → at ≡ length pre
    → (number_in text at ≡ p) × (after_node text at p ≡ length (pre ++ (decimal p ++ (c ∷ rest))))
named p c text pre rest after at b d k e a =
    let t : text ≡ pre ++ (decimal p ++ (c ∷ (rest ++ after))) = e ∙ ap (λ (x : List ℕ). pre ++ x) (append_assoc (decimal p) (c ∷ rest) after) in
    let n : number_in (pre ++ (decimal p ++ (c ∷ (rest ++ after)))) (length pre) ≡ p = number_read pre p c (rest ++ after) (omega arith) d in
    let m = after_read pre p c (rest ++ after) (omega arith) in
    let l : length pre + length (decimal p) + cond (eqb c 59) 2 14 ≡ length (pre ++ (decimal p ++ (c ∷ rest))) = rw (sym k) (omega (arith, length-append pre (decimal p ++ (c ∷ rest)), length-append (decimal p) (c ∷ rest))) in
    (rw (t, a) n, rw (t, a) (m ∙ l))

-- Rank p is behind: what stands before the rest of the text, the place after it, and the marks with p's.
record Passed (marks k p : ℕ) (text after : List ℕ) (at w : ℕ) : Type 0 where
  before : List ℕ
  place : ℕ
  found : ℕ
  goes_on : marks_from text (suc k) p at w ≡ marks_from text k (p + 1) place found
  stands : text ≡ before ++ after
  place_is : place ≡ length before
  found_is : found ≡ set_of (has marks) (p + 1)

passed_marked : (marks k p : ℕ) (text pre after : List ℕ) (at w : ℕ) → p < 64 → Next marks after → text ≡ pre ++ after → at ≡ length pre → w ≡ set_of (has marks) p → has marks p ≡ true → Passed marks k p text after at w
passed_marked marks k p text pre after at w b h t a s m = record {
  before = pre;
  place = at;
  found = add w p;
  goes_on = from_skip text k p at w (λ i. next-other marks p pre after b m h (ap (λ (y : List ℕ). number_in y (length pre)) (sym t) ∙ (ap (number_in text) (sym a) ∙ i)));
  stands = t;
  place_is = a;
  found_is = set_of-put (has marks) p w s m;
}

passed_named : (marks k p c : ℕ) (text pre rest after : List ℕ) (at w : ℕ) → p < 64 → is_digit c ≡ false → suc (length rest) ≡ cond (eqb c 59) 2 14 → text ≡ pre ++ ((decimal p ++ (c ∷ rest)) ++ after) → at ≡ length pre
    → w ≡ set_of (has marks) p → has marks p ≡ false → Passed marks k p text after at w
passed_named marks k p c text pre rest after at w b d l t a s m =
    let r = named p c text pre rest after at b d l t a in
    record {
      before = pre ++ (decimal p ++ (c ∷ rest));
      place = after_node text at p;
      found = w;
      goes_on = from_take text k p at w r.0;
      stands = t ∙ sym (append_assoc pre (decimal p ++ (c ∷ rest)) after);
      place_is = r.1;
      found_is = set_of_skip (has marks) p w s m;
    }

passed : (marks k p : ℕ) (text pre x after : List ℕ) (at w : ℕ) → p < 64 → Next marks after → NodeLine marks p x → text ≡ pre ++ (x ++ after) → at ≡ length pre → w ≡ set_of (has marks) p → Passed marks k p text after at w
passed marks k p text pre x after at w b h (unlisted m) t a s = passed_marked marks k p text pre after at w b h t a s m
passed marks k p text pre x after at w b h (plain rest m l) t a s = passed_named marks k p 59 text pre rest after at w b semicolon_ends (ap suc l) t a s m
passed marks k p text pre x after at w b h (boxed rest m l r) t a s = passed_named marks k p 32 text pre rest after at w b space_ends (ap suc l) t a s m

marks-read : (marks k p : ℕ) (text pre tail : List ℕ) (at w : ℕ) → p + k ≤ 64 → Next marks tail → text ≡ pre ++ (from (node_line marks) p k ++ tail) → at ≡ length pre → w ≡ set_of (has marks) p
    → marks_from text k p at w ≡ set_of (has marks) (p + k)
marks-read marks zero p text pre tail at w b h e a s = let z : p ≡ p + 0 = omega arith in from_none text p at w ∙ (s ∙ ap (set_of (has marks)) z)
marks-read marks (suc k) p text pre tail at w b h e a s =
    let line = node_line marks p in
    let after = from (node_line marks) (p + 1) k ++ tail in
    let t : text ≡ pre ++ (line ++ after) = e ∙ rw (text-lines.from_more (node_line marks) p k, append_assoc (node_line marks p) (from (node_line marks) (p + 1) k) tail) in
    let r = passed marks k p text pre line after at w (omega arith) (next_nodes marks k (p + 1) tail (omega arith) h) (node_cases marks p) t a s in
    let on : p + 1 + k ≡ p + suc k = omega arith in
    r.goes_on ∙ (marks-read marks k (p + 1) text r.before tail r.place r.found (omega arith) h r.stands r.place_is r.found_is ∙ ap (set_of (has marks)) on)

-- ---- a picture's proposal is its view

closing : (marks n : ℕ) → n ≤ 64 → Next marks (lines (edge_line marks) n ++ (125 ∷ 10 ∷ []))
closing marks n b = rw (lines_from (edge_line marks) n) (next_edges marks n 0 (125 ∷ 10 ∷ []) (omega arith) (closes (10 ∷ [])))

pub size_proposed : (n marks : ℕ) → n ≤ 64 → size_in (picture n marks) ≡ n
unfolding picture
size_proposed n marks b =
    let rest = lines (node_line marks) n ++ (lines (edge_line marks) n ++ (125 ∷ 10 ∷ [])) in
    size_in_lem (opening_line n ++ rest)
    ∙ rw (opening_is n, append_assoc (decimal n) (32 ∷ 123 ∷ 10 ∷ []) rest)
    (number_read (100 ∷ 105 ∷ 103 ∷ 114 ∷ 97 ∷ 112 ∷ 104 ∷ 32 ∷ 118 ∷ []) n 32 (123 ∷ 10 ∷ rest) (omega arith) space_ends)

opening_length : (n : ℕ) → n ≤ 64 → 12 + width n ≡ length (opening_line n)
opening_length n b = rw (opening_is n, width_is n (omega arith)) (omega (arith, length-append (decimal n) (32 ∷ 123 ∷ 10 ∷ [])))

pub marks_proposed : (n marks : ℕ) → n ≤ 64 → marks < 2 ^ n → marks_in (picture n marks) n ≡ marks
unfolding picture
marks_proposed n marks b w =
    let tail = lines (edge_line marks) n ++ (125 ∷ 10 ∷ []) in
    let text = opening_line n ++ (lines (node_line marks) n ++ tail) in
    let e : text ≡ opening_line n ++ (from (node_line marks) 0 n ++ tail) = rw (lines_from (node_line marks) n) in
    let z : 0 + n ≡ n = omega arith in
    marks_in_lem text n
    ∙ (marks-read marks n 0 text (opening_line n) tail (12 + width n) 0 (omega arith) (closing marks n b) e (opening_length n b) (sym (set_of-zero (has marks)))
    ∙ (ap (set_of (has marks)) z ∙ set_of-members marks n w))
