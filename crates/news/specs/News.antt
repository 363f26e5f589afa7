-- Request 2026-06: the order of bad news. The words of the claims, and the claims: which deaths are known decides the marks and the table; the order
-- in which they were told, and how often, does not. Over any ancestor sets; calls of `mark` in each form.
use Rattle.std.specs.Prelude.{ℕ, ◌≤◌, ◌<◌, ◌≡◌, Bool, true, false, cond, not, ◌&&◌, ◌||◌, eqb}
use mathlib.Core.List.{List, [], ◌∷◌, ◌++◌, foldl}
use Rattle.sets.specs.Sets.{has, union, below, listed}
use Rattle.answers.specs.Refusals.{accepted}
use Rattle.tree.specs.Tree.{fresh}
use Rattle.tree.specs.Forms.{nested_form, tree_of}
use Rattle.tree.specs.Calls.{mended, wrong_size}
use Rattle.calls.specs.Calls.{Marked, marked}
use Rattle.tree.specs.declared.Mended.{Mended}
use Rattle.rank.specs.declared.Acted.{Acted}
use Rattle.rank.specs.Words.{ask}
use Rattle.rank.specs.Rules.{taking_ask, noticing}
use Rattle.events.specs.declared.Event.{Event}
use Rattle.events.specs.Events.{delivers, notices}
use Rattle.state.specs.declared.State.{State}
use Rattle.state.specs.States.{rank_at, row_at, place_at}
use Rattle.group.specs.Reaching.{Reaches, begun, next}
use Rattle.agreement.specs.Progress.{Lives}

-- ---- views and lists

-- A view and its table, as a caller or a rank holds them.
pub record Held : Type 0 where
  pub marks : ℕ
  pub table : List ℕ

-- The same marks and the same table.
abbrev pub Same : Held → Held → Type 0
Same v w = (v.marks ≡ w.marks) × (v.table ≡ w.table)

-- These marks, and the table that is fresh for them.
abbrev pub Shows : (ℕ → ℕ) → ℕ → ℕ → Held → Type 0
Shows anc n marks v = (v.marks ≡ marks) × (v.table ≡ fresh anc n marks)

-- The members of the set are ranks of the group.
abbrev pub Inside : ℕ → ℕ → Type 0
Inside n set = (k : ℕ) → has set k ≡ true → k < n

-- The group is of 1 to 64 ranks, the marks are of ranks of it, the table is the fresh one.
pub record HeldInOrder (anc : ℕ → ℕ) (n : ℕ) (v : Held) : Type 0 where
  pub size : (0 < n) × (n ≤ 64)
  pub inside : Inside n v.marks
  pub table_is : v.table ≡ fresh anc n v.marks

-- Rank k is in the list.
unfoldable pub is_in : ℕ → List ℕ → Bool
is_in k [] = false
is_in k (q ∷ l) = eqb k q || is_in k l

-- The members of the list are the set: the list has them in any order, and may have one more than once.
abbrev pub MembersAre : List ℕ → ℕ → Type 0
MembersAre l set = (k : ℕ) → is_in k l ≡ has set k

-- ---- marking in any order

-- `step` marks one rank in a thing that holds a view and its table. `foldl step x l` marks the ranks of l one after another, from x on.
pub record InAnyOrder (anc : ℕ → ℕ) (n : ℕ) {A : Type 0} (step : A → ℕ → A) (held : A → Held) : Type 0 where
  -- Marking a then b gives the same marks and the same table as b then a.
  pub swapped : (x : A) (a b : ℕ) → Same (held (step (step x a) b)) (held (step (step x b) a))
  -- Marking twice equals once.
  pub again : (x : A) (q : ℕ) → Same (held (step (step x q) q)) (held (step x q))
  -- Marking a set is the marking of its members in any order.
  pub together : (x : A) → HeldInOrder anc n (held x) → (set : ℕ) → Inside n set → (l : List ℕ) → MembersAre l set → Shows anc n (union (held x).marks set) (held (foldl step x l))

-- By the definition of mending.
abbrev pub in_mended : Mended → Held
in_mended x = record { marks = x.marks; table = x.table }

abbrev pub MendingInAnyOrder : (ℕ → ℕ) → Type 0
MendingInAnyOrder anc = (n : ℕ) → InAnyOrder anc n (λ x q. mended anc n x.marks q) in_mended

-- By calls of `mark` in a form with a box size, each on the view and the table that the one before handed back, accepted or not.
abbrev pub calls : ℕ → ℕ → ℕ → Marked → ℕ → Marked
calls form span n x q = marked n form span x.marks x.table q

abbrev pub in_marked : Marked → Held
in_marked x = record { marks = x.marks; table = x.table }

-- A wrong form or box size refuses every call.
abbrev pub CallsInAnyOrder : ℕ → ℕ → Type 0
CallsInAnyOrder form span = form ≤ nested_form → wrong_size span ≡ false → (n : ℕ) → InAnyOrder (tree_of form span) n (calls form span n) in_marked

-- Two calls that are accepted in one order are accepted in the other.
abbrev pub AcceptedInAnyOrder : ℕ → ℕ → Type 0
AcceptedInAnyOrder form span = (n : ℕ) (x : Marked) (a b : ℕ) → (calls form span n x a).answer ≡ accepted → (calls form span n (calls form span n x a) b).answer ≡ accepted
    → ((calls form span n x b).answer ≡ accepted) × ((calls form span n (calls form span n x b) a).answer ≡ accepted)

-- ---- news to a rank

-- News of deaths comes by a notice of one, or by an ASK, which tells of every rank below its sender.
pub data News : Type 0 where
  by_notice : ℕ → News
  by_ask : ℕ → News

unfoldable pub tells_of : News → List ℕ
tells_of (by_notice q) = q ∷ []
tells_of (by_ask q) = listed (λ k. true) q

unfoldable pub all_told : List News → List ℕ
all_told [] = []
all_told (e ∷ l) = tells_of e ++ all_told l

-- The rank me, after what its last rule left of it, takes a piece of news; what it holds is in its record and its row.
unfoldable pub takes : (ℕ → ℕ) → ℕ → ℕ → Acted → News → Acted
takes anc n me x (by_notice q) = noticing anc n me q x.rank
takes anc n me x (by_ask q) = taking_ask anc n me q x.rank

abbrev pub in_acted : Acted → Held
in_acted x = record { marks = x.rank.marks; table = x.row }

-- By notices.
abbrev pub NoticesInAnyOrder : (ℕ → ℕ) → Type 0
NoticesInAnyOrder anc = (n me : ℕ) → InAnyOrder anc n (λ x q. takes anc n me x (by_notice q)) in_acted

-- By an ASK from q: the marking of all below q.
abbrev pub AskMarksAllBelow : (ℕ → ℕ) → Type 0
AskMarksAllBelow anc = (n me q : ℕ) (x : Acted) → Shows anc n (union x.rank.marks (below q)) (in_acted (takes anc n me x (by_ask q)))

-- By notices and ASKs mixed: the marking of all that they tell of.
abbrev pub NewsInAnyOrder : (ℕ → ℕ) → Type 0
NewsInAnyOrder anc = (n me : ℕ) (x : Acted) → x.row ≡ fresh anc n x.rank.marks → (news : List News) (set : ℕ) → MembersAre (all_told news) set
    → Shows anc n (union x.rank.marks set) (in_acted (foldl (takes anc n me) x news))

-- ---- in a run of a group

-- The message at place a is an ASK to rank i that its delivery has i take: i lives, and has not marked the sender.
unfoldable pub takes_ask : State → ℕ → ℕ → Bool
takes_ask s a i =
    eqb (place_at s a).kind ask && eqb (place_at s a).to i && not (has s.group.dead i || has (rank_at s i).marks (place_at s a).from)

-- The news that an event brings rank i.
unfoldable pub brings : State → Event → ℕ → List News
brings s ev i =
    cond (eqb ev.kind notices && eqb ev.a i) (by_notice ev.b ∷ [])
    (cond (eqb ev.kind delivers && takes_ask s ev.a i) (by_ask (place_at s ev.a).from ∷ [])
    [])

-- All news that a run brought it, in the order in which it came.
unfoldable pub news_to : (anc : ℕ → ℕ) (n : ℕ) (s : State) → Reaches anc n s → ℕ → List News
news_to anc n s (begun form span z) i = []
news_to anc n s (next s' ev run z) i = news_to anc n s' run i ++ brings s' ev i

-- In a reached state a rank has marked those that the run's news told it of, whatever came between, and its table is the fresh one.
abbrev pub RunsInAnyOrder : (ℕ → ℕ) → Type 0
RunsInAnyOrder anc = (n : ℕ) (s : State) (run : Reaches anc n s) (i : ℕ) → i < n
    → MembersAre (all_told (news_to anc n s run i)) (rank_at s i).marks × (row_at s i ≡ fresh anc n (rank_at s i).marks)

-- Two living ranks of a reached state that know the same deaths have the same table.
abbrev pub SameDeathsSameTable : (ℕ → ℕ) → Type 0
SameDeathsSameTable anc = (n : ℕ) (s : State) → Reaches anc n s → (i j : ℕ) → Lives n s i → Lives n s j → (rank_at s i).marks ≡ (rank_at s j).marks → row_at s i ≡ row_at s j
