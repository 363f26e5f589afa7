-- The lines of a picture along their code, and the room that they take. Assumes nothing.
use mathlib.Core.Path.{◌≡◌, refl, sym, ap, ◌∙◌}
use mathlib.Core.Bool.{Bool, true, false, cond, not, ◌||◌}
use mathlib.Core.List.{List, [], ◌∷◌, ◌++◌}
use Prim.Native.Nat.{ℕ, ◌+◌, ◌≤◌}
use native.Mathlib.Omega.{arith}
use lib.Dec.{eqb}
use lib.ListN.{length, length-append}
use borrow.Author.Tests.{eq-eqb, ne_eqb, eqb-true, eqb-false, not-true, not-false}
use Rattle.std.specs.Prelude.{Option, None, Some}
use Rattle.std.specs.Option.{is_some}
use Rattle.sets.specs.Sets.{none, found, has}
use Rattle.sets.proofs.Laws.Found.{nobody_found, is_found}
use Rattle.tree.specs.Tree.{flat, parent}
use Rattle.tree.specs.Forms.{tree_of, flat_form}
use Rattle.tree.proofs.Laws.Forms.{flat_form_lem}
use Rattle.text.specs.Text.{decimal}
use Rattle.text.specs.Pages.{Puts}
use Rattle.text.specs.declared.Page.{Page}
use Rattle.text.proofs.Laws.Writing.{puts_nothing, puts_then}
use Rattle.text.proofs.Laws.Digits.{length-decimal}
use Rattle.dot.specs.Dot.{opening_line, shape, node_line, edge, edge_line}

-- ---- how long a line may be

pub length_opening : (n : ℕ) → length (opening_line n) ≤ 22
unfolding opening_line
length_opening n = omega (arith, length-append (decimal n) (32 ∷ 123 ∷ 10 ∷ []), length-decimal n)

node_short : (p : ℕ) (b c : Bool) (box : List ℕ) → length box ≤ 12 → length (cond b [] (decimal p ++ (cond c box [] ++ (59 ∷ 10 ∷ [])))) ≤ 24
node_short p true c box l = omega arith
node_short p false true box l = omega (arith, length-append (decimal p) (box ++ (59 ∷ 10 ∷ [])), length-append box (59 ∷ 10 ∷ []), length-decimal p)
node_short p false false box l = omega (arith, length-append (decimal p) (59 ∷ 10 ∷ []), length-decimal p)

pub length_node : (marks p : ℕ) → length (node_line marks p) ≤ 24
unfolding node_line shape
length_node marks p = node_short p (has marks p) (eqb (parent flat marks p) none) _ (omega arith)

length-edge : (p up : ℕ) → length (edge p up) ≤ 26
unfolding edge
length-edge p up =
    omega (
      arith,
      length-append (decimal p) ((32 ∷ 45 ∷ 62 ∷ 32 ∷ []) ++ (decimal up ++ (59 ∷ 10 ∷ []))),
      length-append (decimal up) (59 ∷ 10 ∷ []),
      length-decimal p,
      length-decimal up,
    )

pub length-edge-line : (marks p : ℕ) → length (edge_line marks p) ≤ 26
unfolding edge_line
length-edge-line marks p = go (has marks p || eqb (parent flat marks p) none)
  where
    go : (b : Bool) → length (cond b [] (edge p (parent flat marks p))) ≤ 26
    go true = omega arith
    go false = length-edge p (parent flat marks p)

-- ---- lines along their code

pub node_marked : (page : Page) (marks p : ℕ) (b : Bool) → b ≡ has marks p → b ≡ true → Puts page (node_line marks p) page
unfolding node_line
node_marked page marks p b e t = rw (sym e ∙ t) (puts_nothing page)

-- the code asks for the flat form, with box size 1
flat-parent : (marks p : ℕ) (up : Option ℕ) → up ≡ found (parent (tree_of flat_form 1) marks p) → up ≡ found (parent flat marks p)
flat-parent marks p up e = e ∙ ap (λ (anc : ℕ → ℕ). found (parent anc marks p)) (flat_form_lem 1)

no_parent : (marks p : ℕ) → None ≡ found (parent (tree_of flat_form 1) marks p) → eqb (parent flat marks p) none ≡ true
no_parent marks p e = eq-eqb (parent flat marks p) none (nobody_found (parent flat marks p) (flat-parent marks p None e))

a_parent : (marks p up : ℕ) → Some up ≡ found (parent (tree_of flat_form 1) marks p) → (up ≡ parent flat marks p) × (eqb (parent flat marks p) none ≡ false)
a_parent marks p up e = let h = is_found (parent flat marks p) up (flat-parent marks p (Some up) e) in (h.0, ne_eqb (parent flat marks p) none h.1)

-- a rank without a parent is the root
shown : (k : ℕ) (b : Bool) → is_some (cond b None (Some k)) ≡ not b
shown k true = refl
shown k false = refl

is_root : (k : ℕ) (up : Option ℕ) (d : Bool) → up ≡ found k → is_some up ≡ not d → d ≡ true → eqb k none ≡ true
is_root k up d e h t = not-false (eqb k none) (sym (shown k (eqb k none)) ∙ (ap is_some (sym e) ∙ (h ∙ ap not t)))

is_no_root : (k : ℕ) (up : Option ℕ) (d : Bool) → up ≡ found k → is_some up ≡ not d → d ≡ false → eqb k none ≡ false
is_no_root k up d e h t = not-true (eqb k none) (sym (shown k (eqb k none)) ∙ (ap is_some (sym e) ∙ (h ∙ ap not t)))

pub node_root : (page q r : Page) (marks p : ℕ) (b d : Bool) (up : Option ℕ) → b ≡ has marks p → b ≡ false → up ≡ found (parent (tree_of flat_form 1) marks p) → is_some up ≡ not d → d ≡ true
    → Puts page (decimal p) q → Puts q (32 ∷ 91 ∷ 115 ∷ 104 ∷ 97 ∷ 112 ∷ 101 ∷ 61 ∷ 98 ∷ 111 ∷ 120 ∷ 93 ∷ 59 ∷ 10 ∷ []) r → Puts page (node_line marks p) r
unfolding node_line shape
node_root page q r marks p b d up e f g h t v w = rw (sym e ∙ f, is_root (parent flat marks p) up d (flat-parent marks p up g) h t) (puts_then v w)

pub node_plain : (page q r : Page) (marks p : ℕ) (b d : Bool) (up : Option ℕ) → b ≡ has marks p → b ≡ false → up ≡ found (parent (tree_of flat_form 1) marks p) → is_some up ≡ not d → d ≡ false
    → Puts page (decimal p) q → Puts q (59 ∷ 10 ∷ []) r → Puts page (node_line marks p) r
unfolding node_line shape
node_plain page q r marks p b d up e f g h t v w = rw (sym e ∙ f, is_no_root (parent flat marks p) up d (flat-parent marks p up g) h t) (puts_then v w)

pub edge_marked : (page : Page) (marks p : ℕ) (b : Bool) → b ≡ has marks p → b ≡ true → Puts page (edge_line marks p) page
unfolding edge_line
edge_marked page marks p b e t = rw (sym e ∙ t) (puts_nothing page)

pub edge_none : (page : Page) (marks p : ℕ) (b : Bool) → b ≡ has marks p → b ≡ false → None ≡ found (parent (tree_of flat_form 1) marks p) → Puts page (edge_line marks p) page
unfolding edge_line
edge_none page marks p b e f g = rw (sym e ∙ f, no_parent marks p g) (puts_nothing page)

pub edge_some : (page q : Page) (marks p up : ℕ) (b : Bool) → b ≡ has marks p → b ≡ false → Some up ≡ found (parent (tree_of flat_form 1) marks p) → Puts page (edge p up) q → Puts page (edge_line marks p) q
unfolding edge_line
edge_some page q marks p up b e f g w = let h = a_parent marks p up g in rw (sym e ∙ f, h.1, sym h.0) w

-- ---- how a line begins

-- The first line: nine letters, the size, and three bytes.
pub opening_is : (n : ℕ) → opening_line n ≡ (100 ∷ 105 ∷ 103 ∷ 114 ∷ 97 ∷ 112 ∷ 104 ∷ 32 ∷ 118 ∷ []) ++ (decimal n ++ (32 ∷ 123 ∷ 10 ∷ []))
unfolding opening_line
opening_is n = refl

-- A node line is empty for a marked rank. Else it begins with the rank and a byte that is no digit: `;` where two bytes follow the number, a space
-- where fourteen do.
pub data NodeLine (marks p : ℕ) : List ℕ → Type 0 where
  unlisted : has marks p ≡ true → NodeLine marks p []
  plain : (rest : List ℕ) → has marks p ≡ false → length rest ≡ 1 → NodeLine marks p (decimal p ++ (59 ∷ rest))
  boxed : (rest : List ℕ) → has marks p ≡ false → length rest ≡ 13 → parent flat marks p ≡ none → NodeLine marks p (decimal p ++ (32 ∷ rest))

pub node_cases : (marks p : ℕ) → NodeLine marks p (node_line marks p)
unfolding node_line shape
node_cases marks p = go (has marks p) refl (eqb (parent flat marks p) none) refl
  where
    go : (b : Bool) → has marks p ≡ b → (c : Bool) → eqb (parent flat marks p) none ≡ c → NodeLine marks p (cond b [] (decimal p ++ (cond c (32 ∷ 91 ∷ 115 ∷ 104 ∷ 97 ∷ 112 ∷ 101 ∷ 61 ∷ 98 ∷ 111 ∷ 120 ∷ 93 ∷ []) [] ++ (59 ∷ 10 ∷ []))))
    go true e c f = unlisted e
    go false e true f = boxed _ e refl (eqb-true (parent flat marks p) none f)
    go false e false f = plain _ e refl

-- An edge line is empty, or begins with an unmarked rank and a space; the rest has the parent and five bytes.
pub data EdgeLine (marks p : ℕ) : List ℕ → Type 0 where
  unlinked : EdgeLine marks p []
  linked : (rest : List ℕ) → has marks p ≡ false → (parent flat marks p ≡ none → ⊥) → length rest ≡ length (decimal (parent flat marks p)) + 5 → EdgeLine marks p (decimal p ++ (32 ∷ rest))

pub edge-cases : (marks p : ℕ) → EdgeLine marks p (edge_line marks p)
unfolding edge_line edge
edge-cases marks p = go (has marks p) refl (eqb (parent flat marks p) none) refl
  where
    go : (b : Bool) → has marks p ≡ b → (c : Bool) → eqb (parent flat marks p) none ≡ c → EdgeLine marks p (cond (b || c) [] (decimal p ++ ((32 ∷ 45 ∷ 62 ∷ 32 ∷ []) ++ (decimal (parent flat marks p) ++ (59 ∷ 10 ∷ [])))))
    go true e c f = unlinked
    go false e true f = unlinked
    go false e false f = linked (45 ∷ 62 ∷ 32 ∷ (decimal (parent flat marks p) ++ (59 ∷ 10 ∷ []))) e (eqb-false (parent flat marks p) none f) (omega (arith, length-append (decimal (parent flat marks p)) (59 ∷ 10 ∷ [])))
