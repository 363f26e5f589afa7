-- The entry points, along their code: each refusal, in the order of the checks, is what the definition answers. Assumes nothing.
use mathlib.Core.Path.{◌≡◌, sym, ap, ◌∙◌}
use mathlib.Core.Bool.{Bool, true, false}
use mathlib.Core.List.{List}
use Prim.Native.Nat.{ℕ, ◌≤◌, ◌<◌}
use native.Mathlib.Omega.{arith}
use lib.Dec.{eqb}
use borrow.Author.Tests.{lt-ltb, le-ltb, eq-eqb, ne_eqb}
use Rattle.sets.specs.Sets.{has, add, meet, minus, below}
use Rattle.sets.proofs.Laws.Bools.{clash}
use Rattle.sets.proofs.Laws.Members.{meet_below}
use Rattle.std.proofs.Common.{Result, Ok, Err}
use Rattle.std.specs.Result.{IsErrAnd}
use Rattle.sets.specs.Sets.{found}
use Rattle.sets.proofs.Laws.Found.{found-some}
use Rattle.answers.specs.declared.Refusal.{Refusal}
use Rattle.answers.specs.declared.Refusal.TheVariants.{NotInOrder, BadRank}
use Rattle.answers.specs.Answers.{number}
use Rattle.answers.specs.Refusals.{accepted}
use Rattle.answers.proofs.Laws.Numbers.{number-not_0, number-one_to_one}
use Rattle.tree.specs.Tree.{fresh, links, reached}
use Rattle.tree.specs.Forms.{tree_of}
use Rattle.tree.specs.Calls.{mended, same}
use Rattle.tree.specs.declared.Mended.{Mended}
use Rattle.tree.proofs.Laws.Mending.{mended-marks, mended-fresh, mended-moved}
use Rattle.calls.specs.Calls.{Marked, misshapen, wrong_view, mark_refused, mark_told, marked, Told, told, named, climbing, climbed}
use Rattle.calls.specs.declared.NotMarked.{NotMarked}
use Rattle.calls.specs.declared.NotClimbed.TheVariants.{Refused, FromMarked}
use Rattle.calls.proofs.Laws.Shapes.{Shapely, shape_right}

-- what a `?` passes on
pub passed_on : {A E : Type 0} (r : Result A E) (e : E) → IsErrAnd r (λ x. x ≡ e) → r ≡ Err e
passed_on (Ok _) e h = absurd h
passed_on {E = E} (Err x) e h = ap (λ (y : E). Err y) h

-- ---- mark

-- a refusal of the view with this table
abbrev pub refused : Refusal → ℕ → List ℕ → NotMarked
refused e marks t = record { refusal = e; marks = marks; table = t }

pub mark-misshapen : (n form span marks : ℕ) (t : List ℕ) (q : ℕ) (e : Refusal) (r : NotMarked) → number e ≡ misshapen n form span → r ≡ refused e marks t → mark_told (Err r) ≡ marked n form span marks t q
unfolding mark_told marked
mark-misshapen n form span marks t q e r i s = rw (s, sym i, number-not_0 e)

pub mark-outside : (n form span marks : ℕ) (t : List ℕ) (q u o : ℕ) (r : NotMarked) → misshapen n form span ≡ 0 → u ≡ below n → o ≡ minus marks u → (o ≡ 0 → ⊥) → r ≡ refused NotInOrder marks t
    → mark_told (Err r) ≡ marked n form span marks t q
unfolding mark_told marked wrong_view
mark-outside n form span marks t q u o r e g h d s =
    let z : eqb (minus marks (below n)) 0 ≡ false = ne_eqb (minus marks (below n)) 0 (λ x. d (h ∙ ap (minus marks) g ∙ x)) in
    rw (s, e, z)

pub mark_stale : (n form span marks : ℕ) (t : List ℕ) (q u o : ℕ) (w : List ℕ) (k : Bool) (r : NotMarked) → misshapen n form span ≡ 0 → u ≡ below n → o ≡ minus marks u → o ≡ 0 → w ≡ fresh (tree_of form span) n marks → k ≡ same t w → k ≡ false
    → r ≡ refused NotInOrder marks t → mark_told (Err r) ≡ marked n form span marks t q
unfolding mark_told marked wrong_view
mark_stale n form span marks t q u o w k r e g h d i j l s =
    let z : eqb (minus marks (below n)) 0 ≡ true = eq-eqb (minus marks (below n)) 0 (sym (h ∙ ap (minus marks) g) ∙ d) in
    let y : same t (fresh (tree_of form span) n marks) ≡ false = sym (j ∙ ap (same t) i) ∙ l in
    rw (s, e, z, y)

-- what has been found once 2 does not apply
fine : (n form span marks : ℕ) (t : List ℕ) (u o : ℕ) (w : List ℕ) (k : Bool) → u ≡ below n → o ≡ minus marks u → o ≡ 0 → w ≡ fresh (tree_of form span) n marks → k ≡ same t w → k ≡ true → wrong_view (tree_of form span) n marks t ≡ false
unfolding wrong_view
fine n form span marks t u o w k g h d i j l =
    let z : eqb (minus marks (below n)) 0 ≡ true = eq-eqb (minus marks (below n)) 0 (sym (h ∙ ap (minus marks) g) ∙ d) in
    let y : same t (fresh (tree_of form span) n marks) ≡ true = sym (j ∙ ap (same t) i) ∙ l in
    rw (z, y)

pub mark_wrong_rank : (n form span marks : ℕ) (t : List ℕ) (q u o : ℕ) (w : List ℕ) (k : Bool) (r : NotMarked) → misshapen n form span ≡ 0 → u ≡ below n → o ≡ minus marks u → o ≡ 0 → w ≡ fresh (tree_of form span) n marks → k ≡ same t w → k ≡ true → n ≤ q
    → r ≡ refused BadRank marks t → mark_told (Err r) ≡ marked n form span marks t q
unfolding mark_told marked
mark_wrong_rank n form span marks t q u o w k r e g h d i j l m s = rw (s, e, fine n form span marks t u o w k g h d i j l, le-ltb q n m)

pub mark-accepted : (n form span marks : ℕ) (t : List ℕ) (q u o : ℕ) (w : List ℕ) (k : Bool) (r : Mended) → misshapen n form span ≡ 0 → u ≡ below n → o ≡ minus marks u → o ≡ 0
    → w ≡ fresh (tree_of form span) n marks → k ≡ same t w → k ≡ true → q < n → r ≡ mended (tree_of form span) n marks q → mark_told (Ok r) ≡ marked n form span marks t q
unfolding mark_told marked
mark-accepted n form span marks t q u o w k r e g h d i j l m s =
    let a = mended-marks (tree_of form span) n marks q r s in
    let b : r.table ≡ fresh (tree_of form span) n (add marks q) = mended-fresh (tree_of form span) n marks q r s ∙ ap (fresh (tree_of form span) n) a in
    rw (e, fine n form span marks t u o w k g h d i j l, lt-ltb q n m, a, b, mended-moved (tree_of form span) n marks q r s)

-- a reply is determined by what is told
pub mark_told_determines : (a b : Result Mended NotMarked) → mark_told a ≡ mark_told b → a ≡ b
unfolding mark_told mark_refused
mark_told_determines (Ok m) (Ok o) e = ap (λ (x : Marked). Ok (record { marks = x.marks; table = x.table; moved = x.moved })) e
mark_told_determines (Ok m) (Err y) e = absurd (clash (eqb (number y.refusal) 0) (eq-eqb (number y.refusal) 0 (sym (ap (λ (x : Marked). x.answer) e))) (number-not_0 y.refusal))
mark_told_determines (Err x) (Ok o) e = absurd (clash (eqb (number x.refusal) 0) (eq-eqb (number x.refusal) 0 (ap (λ (x : Marked). x.answer) e)) (number-not_0 x.refusal))
mark_told_determines (Err x) (Err y) e =
    let r : x.refusal ≡ y.refusal = number-one_to_one x.refusal y.refusal (ap (λ (z : Marked). z.answer) e) in
    let m : x.marks ≡ y.marks = ap (λ (z : Marked). z.marks) e in
    let t : x.table ≡ y.table = ap (λ (z : Marked). z.table) e in
    ap (λ (z : NotMarked). Err z) (rw (r, m, t))

-- ---- climb

pub climb-misshapen : (n form span marks p a : ℕ) (e : Refusal) → number e ≡ misshapen n form span → told (Err (Refused e)) ≡ climbed n form span marks p a
unfolding told climbed
climb-misshapen n form span marks p a e i = rw (sym i, number-not_0 e)

pub climb_wrong_rank : (n form span marks p a : ℕ) → misshapen n form span ≡ 0 → n ≤ p → told (Err (Refused BadRank)) ≡ climbed n form span marks p a
unfolding told climbed
climb_wrong_rank n form span marks p a e l = rw (e, le-ltb p n l)

-- where no rank is named
pub named_refused : (e : Refusal) (t : Told) → told (Err (Refused e)) ≡ t → named (Err (Refused e)) ≡ found t.rank
unfolding told named
named_refused e t i = ap (λ (x : Told). found x.rank) i

pub climb_from_marked : (n form span marks p a u v : ℕ) (m : Bool) → misshapen n form span ≡ 0 → p < n → u ≡ below n → v ≡ meet marks u → m ≡ has v p → m ≡ true → told (Err (FromMarked p)) ≡ climbed n form span marks p a
unfolding told climbed
climb_from_marked n form span marks p a u v m e l g h i j =
    let y : has (meet marks (below n)) p ≡ true = sym (i ∙ ap (λ (x : ℕ). has x p) (h ∙ ap (meet marks) g)) ∙ j in
    rw (e, lt-ltb p n l, y)

pub named_marked : (r : ℕ) (t : Told) → told (Err (FromMarked r)) ≡ t → r < 64 → named (Err (FromMarked r)) ≡ found t.rank
unfolding told named
named_marked r t e l = found-some t.rank r (ap (λ (x : Told). x.rank) e) (omega arith)

pub climb-unmarked : (n form span marks p a u v : ℕ) (m : Bool) → misshapen n form span ≡ 0 → p < n → u ≡ below n → v ≡ meet marks u → m ≡ has v p → m ≡ false
    → climbing (tree_of form span) v p a ≡ climbed n form span marks p a
unfolding climbed
climb-unmarked n form span marks p a u v m e l g h i j =
    let w : v ≡ meet marks (below n) = h ∙ ap (meet marks) g in
    let y : has (meet marks (below n)) p ≡ false = sym (i ∙ ap (λ (x : ℕ). has x p) w) ∙ j in
    ap (λ (x : ℕ). climbing (tree_of form span) x p a) w ∙ rw (e, lt-ltb p n l, y)

-- A climb with allowance enough from an unmarked rank of a view: its whole path.
pub climb_whole : (n form span marks p a : ℕ) → Shapely n form span → ((k : ℕ) → has marks k ≡ true → k < n) → p < n → has marks p ≡ false → links (tree_of form span) marks p ≤ a
    → climbed n form span marks p a ≡ record { number = accepted; rank = reached (tree_of form span) marks p (links (tree_of form span) marks p); climbed = links (tree_of form span) marks p }
unfolding climbed climbing
climb_whole n form span marks p a s w l f e = rw (shape_right n form span s, lt-ltb p n l, meet_below marks n w, f, le-ltb a (links (tree_of form span) marks p) e)
