-- The rules along their code: what the row of a seat says, and what a new view and a part of a rule leave. Assumes nothing.
use mathlib.Core.Path.{◌≡◌, refl, sym, ap, ◌∙◌}
use mathlib.Core.Bool.{Bool, true, false, cond, not, ◌&&◌, ◌||◌}
use mathlib.Core.List.{List}
use Prim.Native.Nat.{ℕ, ◌<◌, ◌≤◌}
use native.Mathlib.Omega.{arith}
use lib.Dec.{eqb}
use lib.ListN.{get_or}
use Rattle.sets.specs.Sets.{none, has, only, add, union, meet, minus, set_of}
use Rattle.sets.proofs.Laws.Bools.{and_not_r}
use Rattle.sets.proofs.Laws.Members.{ext, has_meet, has-union, has-minus, minus_minus, minus-none}
use Rattle.tree.specs.declared.Moved.{Moved}
use Rattle.tree.specs.Tree as Tree
use Rattle.tree.specs.Tree.{parent, children}
use Rattle.tree.specs.Forms.{tree_of}
use Rattle.tree.specs.Calls.{mended}
use Rattle.tree.specs.declared.Mended.{Mended}
use Rattle.tree.proofs.Laws.Rows.{fresh_at}
use Rattle.tree.proofs.Laws.Mending.{mended-marks, mended-moved, mended-fresh, linked_children, entries-fresh, children-gained}
use Rattle.tree.proofs.Laws.Parents.{parent-lt}
use Rattle.tree.proofs.Laws.Children.{child_test, children-after}
use Rattle.rank.specs.declared.Rank.{Rank}
use Rattle.rank.specs.declared.Said.{Said}
use Rattle.rank.specs.declared.Seat.{Seat}
use Rattle.rank.specs.Records.{becoming, owing, parent_of, children_of, awaiting, hearing, viewing}
use Rattle.rank.specs.Sends.{silent, asks}
use Rattle.rank.specs.Words.{gathering, waiting}
use Rattle.rank.specs.Rules.{in_phase, saying, settled, asked, renewing, regathering, orphaned, inheriting, bereaved}
use Rattle.rank.specs.Between.{FreshRow, Awaits}
use Rattle.rank.proofs.Laws.Cases.{asked_by, orphaned_by, bereaved_by}
use Rattle.rank.proofs.Laws.Knowing.{settled-knows, asked-knows, bereaved-knows}

-- l are linked, m marked, h heard and o owed: of the linked, who was heard is looked for only where not owed
there_anyway : (l m h o : ℕ) → minus (union (union (minus (minus l m) h) (meet (minus h o) l)) o) m ≡ minus (union (minus l m) o) m
there_anyway l m h o = ext (minus (union (union (minus (minus l m) h) (meet (minus h o) l)) o) m) (minus (union (minus l m) o) m) (λ k. simp (has-minus, has-union, has_meet) (pick (has l k) (has m k) (has h k) (has o k)))
  where
    pick : (l m h o : Bool) → ((l && not m && not h) || (h && not o && l) || o) && not m ≡ ((l && not m) || o) && not m
    pick l true h o = and_not_r ((l && false && not h) || (h && not o && l) || o) false refl ∙ sym (and_not_r ((l && false) || o) false refl)
    pick true false true true = refl
    pick true false true false = refl
    pick true false false o = refl
    pick false false true true = refl
    pick false false true false = refl
    pick false false false o = refl

module _ (anc : ℕ → ℕ) where
  -- ---- the row is the table of the rank's own view

  pub row-parent : (n me : ℕ) (r : Rank) (row : List ℕ) → FreshRow anc n me r row → get_or row me 0 ≡ parent_of anc me r
  unfolding parent_of
  row-parent n me r row k = ap (λ (t : List ℕ). get_or t me 0) k.table ∙ fresh_at anc n r.marks me k.size k.own

  pub awaited_is : (n me marks heard c w : ℕ) → c ≡ children anc n marks me → w ≡ minus c heard → w ≡ awaiting anc n me marks heard
  unfolding awaiting
  awaited_is n me marks heard c w e f = f ∙ ap (λ (x : ℕ). minus x heard) e

-- the ancestor sets of a seat's tree
abbrev pub tree : Seat → ℕ → ℕ
tree s = tree_of s.form s.span

-- the rank's own entry is its parent
pub row_parent : (s : Seat) → get_or s.row s.me 0 ≡ parent_of (tree s) s.me s.rank
row_parent s = row-parent (tree s) s.n s.me s.rank s.row s.fresh_row

-- a parent that is not none is a rank
pub row_parent_lt : (s : Seat) → (get_or s.row s.me 0 ≡ none → ⊥) → get_or s.row s.me 0 < 64
unfolding parent_of
row_parent_lt s h =
    let e : get_or s.row s.me 0 ≡ parent (tree s) s.rank.marks s.me = row_parent s in
    let l : parent (tree s) s.rank.marks s.me < s.me = parent-lt (tree s) s.rank.marks s.me (λ x. h (e ∙ x)) in
    omega (arith, s.fresh_row.size, s.fresh_row.own)

-- who is not marked is a child where its entry in the row says so
pub row_child : (s : Seat) (q : ℕ) → q < s.n → has s.rank.marks q ≡ false → eqb (get_or s.row q 0) s.me ≡ has (children_of (tree s) s.n s.me s.rank) q
unfolding children_of
row_child s q l f =
    ap (λ (t : List ℕ). eqb (get_or t q 0) s.me) s.fresh_row.table
    ∙ ap (λ (x : ℕ). eqb x s.me) (fresh_at (tree s) s.n s.rank.marks q s.fresh_row.size l)
    ∙ sym (child_test (tree s) s.n s.rank.marks s.me q l f)

-- where nobody is heard, all children are awaited
pub awaited_afresh : (anc : ℕ → ℕ) (n me marks : ℕ) → awaiting anc n me marks 0 ≡ children anc n marks me
unfolding awaiting
awaited_afresh anc n me marks = minus-none (children anc n marks me)

-- those of a set that are linked to this rank, by its row
linked_is : (anc : ℕ → ℕ) (n me w marks : ℕ) (row : List ℕ) → n ≤ 64 → me < n → row ≡ Tree.fresh anc n marks → meet w (set_of (λ p. eqb (get_or row p 0) me) 64) ≡ meet w (set_of (λ p. eqb (parent anc marks p) me) n)
linked_is anc n me w marks row size own e = ap (meet w) (entries-fresh anc n marks me row size (omega (arith, size, own)) e)

-- whom a decision goes to: a child that is not awaited was heard, and is owed or found in the row
pub receivers : (s : Seat) → Awaits (tree s) s.n s.me s.rank
    → minus (union (union s.rank.awaited (meet (minus s.rank.heard s.rank.owed) (set_of (λ p. eqb (get_or s.row p 0) s.me) 64))) s.rank.owed) s.rank.marks
    ≡ minus (union (children_of (tree s) s.n s.me s.rank) s.rank.owed) s.rank.marks
unfolding awaiting children_of
receivers s a =
    let r : Rank = s.rank in
    let k : FreshRow (tree s) s.n s.me r s.row = s.fresh_row in
    rw (a, linked_is (tree s) s.n s.me (minus r.heard r.owed) r.marks s.row k.size k.own k.table, ← linked_children (tree s) s.n r.marks s.me)
    (there_anyway (set_of (λ p. eqb (parent (tree s) r.marks p) s.me) s.n) r.marks r.heard r.owed)

-- q joins heard: one fewer is awaited
pub fewer_awaited : (anc : ℕ → ℕ) (n me marks heard q : ℕ) → minus (awaiting anc n me marks heard) (only q) ≡ awaiting anc n me marks (add heard q)
unfolding awaiting
fewer_awaited anc n me marks heard q = minus_minus (children anc n marks me) heard q

-- a new view: who stayed has the parent it had, and who moved here is gained
pub awaited_next : (s : Seat) (m moved g : ℕ) (row : List ℕ) → row ≡ Tree.fresh (tree s) s.n m
    → ((p : ℕ) → has m p ≡ false → has s.rank.marks p ≡ false) → ((p : ℕ) → p < s.n → has m p ≡ false → has moved p ≡ false → parent (tree s) m p ≡ parent (tree s) s.rank.marks p)
    → g ≡ meet moved (set_of (λ p. eqb (get_or row p 0) s.me) 64)
    → minus (minus (union (minus (awaiting (tree s) s.n s.me s.rank.marks s.rank.heard) moved) g) s.rank.heard) m ≡ awaiting (tree s) s.n s.me m s.rank.heard
unfolding awaiting
awaited_next s m moved g row k a h e =
    rw (e, linked_is (tree s) s.n s.me moved m row s.fresh_row.size s.fresh_row.own k) (children-after (tree s) s.n s.rank.marks m moved s.me a h s.rank.heard)

-- the row that settle leaves
pub settled_row : (s : Seat) → s.row ≡ Tree.fresh (tree s) s.n (settled (tree s) s.n s.me s.rank).rank.marks
settled_row s = s.fresh_row.table ∙ ap (Tree.fresh (tree s) s.n) (sym (settled-knows (tree s) s.n s.me s.rank).marks_are)

-- ---- a seat whose rank has a new view, or has done a part of a rule

pub seen_seat : (s : Seat) (m : ℕ) (v : Rank) (row : List ℕ) → v ≡ viewing (tree s) s.n s.me m s.rank → row ≡ Tree.fresh (tree s) s.n m → FreshRow (tree s) s.n s.me v row
unfolding viewing
seen_seat s m v row e t = record { size = s.fresh_row.size; own = s.fresh_row.own; table = rw e t }

pub seen_awaits : (anc : ℕ → ℕ) (n me m : ℕ) (r v : Rank) → v ≡ viewing anc n me m r → Awaits anc n me v
unfolding viewing
seen_awaits anc n me m r v e = rw e

said_seat : (anc : ℕ → ℕ) (n me : ℕ) (v : Rank) (row : List ℕ) (s : Said) → FreshRow anc n me v row → s.rank.marks ≡ v.marks → FreshRow anc n me s.rank row
said_seat anc n me v row s k e = record { size = k.size; own = k.own; table = rw e k.table }

pub asked_seat : (anc : ℕ → ℕ) (n me q : ℕ) (v : Rank) (row : List ℕ) (s : Said) → FreshRow anc n me v row → s ≡ asked anc n me q v → FreshRow anc n me s.rank row
asked_seat anc n me q v row s k e = said_seat anc n me v row s k (ap (λ (x : Said). x.rank.marks) e ∙ (asked-knows anc n me q v).marks_are)

pub asked_awaits : (anc : ℕ → ℕ) (n me q : ℕ) (v : Rank) (s : Said) → Awaits anc n me v → s ≡ asked anc n me q v → Awaits anc n me s.rank
unfolding saying owing
asked_awaits anc n me q v s a e = rw e (asked_by anc n me (λ (x : Said). Awaits anc n me x.rank) q v (λ p. a) (λ p z. a) (λ p z. a))

-- who moved here at the mark of q is a child gained from it
gained_here : (s : Seat) (q : ℕ) (v : Rank) (m : Mended) (g : ℕ) → q < s.n → m ≡ mended (tree s) s.n s.rank.marks q → v ≡ viewing (tree s) s.n s.me m.marks s.rank
    → g ≡ meet m.moved.ranks (set_of (λ p. eqb (get_or m.table p 0) s.me) 64) → g ≡ meet (children_of (tree s) s.n s.me v) (children (tree s) s.n s.rank.marks q)
unfolding children_of viewing
gained_here s q v m g l em ev eg =
    let b : q < none = omega (arith, s.fresh_row.size) in
    let e : m.moved.ranks ≡ (Tree.moved (tree s) s.n s.rank.marks q).ranks = ap (λ (x : Moved). x.ranks) (mended-moved (tree s) s.n s.rank.marks q m em) in
    rw (eg, linked_is (tree s) s.n s.me m.moved.ranks m.marks m.table s.fresh_row.size s.fresh_row.own (mended-fresh (tree s) s.n s.rank.marks q m em), ev, e, mended-marks (tree s) s.n s.rank.marks q m em, children-gained (tree s) s.n s.rank.marks q s.me b)

-- what the death of q means, by the tests that were made before the mark
pub mourned : (s : Seat) (q : ℕ) (m : Mended) (g : ℕ) (v : Rank) (b c : Bool) (x : Said) → q < s.n → b ≡ in_phase waiting s.rank && eqb (parent_of (tree s) s.me s.rank) q
    → c ≡ in_phase gathering s.rank && eqb (parent_of (tree s) s.me s.rank) none && has (children_of (tree s) s.n s.me s.rank) q
    → m ≡ mended (tree s) s.n s.rank.marks q → g ≡ meet m.moved.ranks (set_of (λ p. eqb (get_or m.table p 0) s.me) 64) → v ≡ viewing (tree s) s.n s.me m.marks s.rank
    → x ≡ cond b (orphaned (tree s) s.n s.me v) (cond c (saying v (asks g)) (saying v silent)) → x ≡ bereaved (tree s) s.n s.me q s.rank v
unfolding bereaved inheriting
mourned s q m g v b c x l eb ec em eg ev ex = rw (ex, eb, ec, gained_here s q v m g l em ev eg)

pub bereaved_seat : (anc : ℕ → ℕ) (n me q : ℕ) (r v : Rank) (row : List ℕ) (s : Said) → FreshRow anc n me v row → s ≡ bereaved anc n me q r v → FreshRow anc n me s.rank row
bereaved_seat anc n me q r v row s k e = said_seat anc n me v row s k (ap (λ (x : Said). x.rank.marks) e ∙ (bereaved-knows anc n me q r v).marks_are)

pub bereaved_awaits : (anc : ℕ → ℕ) (n me q : ℕ) (r v : Rank) (s : Said) → Awaits anc n me v → s ≡ bereaved anc n me q r v → Awaits anc n me s.rank
unfolding regathering renewing saying becoming hearing inheriting
bereaved_awaits anc n me q r v s a e =
    let P : Said → Type 0 = λ x. Awaits anc n me x.rank in
    rw e (bereaved_by anc n me P q r v (λ p z. orphaned_by anc n me P v (λ z. refl) (λ z. a)) (λ p z h. a) (λ g h. a))

-- what the check tries at each goal of the code
pub ruleset along_the_code = (row_parent, row_parent_lt, row_child, awaited_afresh, fewer_awaited, settled_row)
