-- The order of bad news is no matter: each claim of specs/News, under a name that says it. Over any ancestor sets, with nothing asked of them.
-- Assumes nothing.
use mathlib.Core.Path.{◌≡◌, refl, sym, ap, subst, ◌∙◌}
use mathlib.Core.List.{List, foldl}
use Prim.Native.Nat.{ℕ}
use Rattle.sets.specs.Sets.{add}
use Rattle.tree.specs.Tree.{flat, fresh}
use Rattle.tree.specs.Calls.{mended}
use Rattle.tree.specs.declared.Mended.{Mended}
use Rattle.tree.proofs.Laws.Mending.{mended-marks, mended-fresh}
use Rattle.state.specs.States.{rank_at, row_at}
use Rattle.group.proofs.Demands.{table_is_fresh}
use Rattle.files.specs.Files.{byte_at}
use Rattle.schedule.specs.Runs.{run}
use Rattle.schedule.proofs.Reaching.{run_reaches}
use Rattle.agreement.specs.Progress.{Lives}
use Rattle.news.specs.News.{Shows, MembersAre, in_mended, MendingInAnyOrder, CallsInAnyOrder, AcceptedInAnyOrder, in_acted, NoticesInAnyOrder, by_notice, all_told, takes, NewsInAnyOrder, AskMarksAllBelow, news_to, RunsInAnyOrder, SameDeathsSameTable}
use Rattle.news.proofs.Lists.{added-set, added-members}
use Rattle.news.proofs.Orders.{in_any_order}
use Rattle.news.proofs.Calling.{calls_any_order, calls-accepted, accepted_right}
use Rattle.news.proofs.Telling.{notice_shows, ask_shows, news_shows, knows_its_news}

-- Every list is one of a set's members, so no claim about lists is empty.
pub every_list_has_its_set : (l : List ℕ) → (set : ℕ) × MembersAre l set
every_list_has_its_set l = (foldl add 0 l, added-members l)

-- ---- marks

mending_shows : (anc : ℕ → ℕ) (n : ℕ) (x : Mended) (q : ℕ) → Shows anc n (add x.marks q) (in_mended (mended anc n x.marks q))
mending_shows anc n x q =
    let m = mended anc n x.marks q in
    let e = mended-marks anc n x.marks q m refl in
    (e, mended-fresh anc n x.marks q m refl ∙ ap (fresh anc n) e)

pub mending_in_any_order : (anc : ℕ → ℕ) → MendingInAnyOrder anc
mending_in_any_order anc n = in_any_order anc n (λ x q. mended anc n x.marks q) in_mended (mending_shows anc n)

-- Of calls, accepted or not; and two that are accepted in one order are accepted in the other.
pub calls_in_any_order : (form span : ℕ) → CallsInAnyOrder form span
calls_in_any_order form span known boxed n = calls_any_order form span n (known, boxed)

pub accepted_in_any_order : (form span : ℕ) → AcceptedInAnyOrder form span
accepted_in_any_order form span n x a b s = calls-accepted form span n (accepted_right form span n x a s) x a b s

-- ---- news to a rank

pub notices_in_any_order : (anc : ℕ → ℕ) → NoticesInAnyOrder anc
notices_in_any_order anc n me = in_any_order anc n (λ x q. takes anc n me x (by_notice q)) in_acted (notice_shows anc n me)

pub news_in_any_order : (anc : ℕ → ℕ) → NewsInAnyOrder anc
news_in_any_order anc n me x e news set m =
    subst (λ (w : ℕ). Shows anc n w (in_acted (foldl (takes anc n me) x news))) (added-set x.rank.marks set (all_told news) m)
    (news_shows anc n me news x e)

pub an_ask_marks_all_below : (anc : ℕ → ℕ) → AskMarksAllBelow anc
an_ask_marks_all_below = ask_shows

-- ---- runs

pub runs_in_any_order : (anc : ℕ → ℕ) → RunsInAnyOrder anc
runs_in_any_order anc n s r i l = (
  subst (MembersAre (all_told (news_to anc n s r i))) (sym (knows_its_news anc n i l s r)) (added-members (all_told (news_to anc n s r i))),
  table_is_fresh anc n s r i l,
)

-- Two living ranks of a reached state that know the same deaths have the same table.
pub the_same_deaths_the_same_table : (anc : ℕ → ℕ) → SameDeathsSameTable anc
the_same_deaths_the_same_table anc n s r i j li lj e = table_is_fresh anc n s r i li.0 ∙ ap (fresh anc n) e ∙ sym (table_is_fresh anc n s r j lj.0)

-- For readers of listings: at the end of an accepted schedule.
pub in_a_schedule_the_same_deaths_the_same_table : (file out : List ℕ) → (run file out).answer ≡ 0 → (i j : ℕ) → Lives (byte_at file 5) (run file out).state i → Lives (byte_at file 5) (run file out).state j
    → (rank_at (run file out).state i).marks ≡ (rank_at (run file out).state j).marks → row_at (run file out).state i ≡ row_at (run file out).state j
in_a_schedule_the_same_deaths_the_same_table file out z = the_same_deaths_the_same_table flat (byte_at file 5) (run file out).state (run_reaches file out z)
