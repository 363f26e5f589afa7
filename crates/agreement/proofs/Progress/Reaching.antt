-- Nobody hangs. A fresh group satisfies the invariant, every accepted event is a move and keeps it, and it leaves nobody behind. Over any
-- ancestor sets with their chain law; the flat tree is one instance. Assumes nothing.
use mathlib.Core.Path.{◌≡◌}
use mathlib.Core.List.{List}
use Prim.Native.Nat.{ℕ, ◌≤◌}
use native.Mathlib.Omega.{arith}
use Rattle.tree.specs.Tree.{flat}
use Rattle.tree.specs.Relations.{Ancestry, Chained}
use Rattle.tree.proofs.Laws.Flat.{flat_ancestry, flat_chained}
use Rattle.state.specs.declared.State.{State}
use Rattle.state.specs.Starting.{fresh_state}
use Rattle.group.specs.Reaching.{Reaches}
use Rattle.group.proofs.Scenes.{scene}
use Rattle.group.proofs.Laws.Reached.{reached-small, reached-member}
use Rattle.files.specs.Files.{byte_at}
use Rattle.schedule.specs.Runs.{run}
use Rattle.schedule.proofs.Reaching.{run_reaches}
use Rattle.agreement.specs.Progress.{Quiet, AllEntered, AllDeathsKnown, AllDecided, NobodyHangs}
use Rattle.agreement.proofs.Running.{quiet, all-outside, none_heard, reached_truthful, every-reached}
use Rattle.agreement.proofs.Progress.Invariant.{Progress}
use Rattle.agreement.proofs.Progress.Moving.{a_move_keeps}
use Rattle.agreement.proofs.Progress.Deciding.{all-decided}

-- ---- a fresh group

module _ (anc : ℕ → ℕ) (n form span : ℕ) (small : n ≤ 64) where
  fresh_stands : Progress anc n (scene (fresh_state anc n form span))
  fresh_stands = record {
    heard_old = λ p q l h. absurd (none_heard anc n form span small p q l h);
    report_old = λ q b h. absurd (quiet anc n form span small _ q b h);
    waiting_old = λ p l e. absurd (omega (arith, all-outside anc n form span small p l));
    new_calm = λ x w. (λ b l e. omega (arith, all-outside anc n form span small b l), λ b y h. quiet anc n form span small _ b y h);
    held = λ x a lx w e la. absurd (omega (arith, all-outside anc n form span small x lx.0));
    polled = λ a c la e z lc k. absurd (omega (arith, all-outside anc n form span small a la.0));
  }

-- ---- every reached state

-- The invariant holds in it.
reached_stands : (anc : ℕ → ℕ) → Ancestry anc → Chained anc → (n : ℕ) (s : State) → Reaches anc n s → Progress anc n (scene s)
reached_stands anc tree chain n = every-reached anc tree n (Progress anc n) (fresh_stands anc n) (λ E s s' small true' inv m. a_move_keeps anc tree chain n small s s' true' inv E m)

-- With no message in flight, all living ranks in and all deaths known, every living rank has decided.
pub nobody_hangs : (anc : ℕ → ℕ) → Ancestry anc → Chained anc → NobodyHangs anc
nobody_hangs anc tree chain n s run quiet_end entered known =
    all-decided anc n (reached-small anc n s run).1 (scene s) (reached_stands anc tree chain n s run)
    (λ i l. (reached-member anc n s run i l).in_order)
    (reached_truthful anc n s run) (λ kind from to h. let l = h.1.listed in omega (arith, quiet_end)) entered known

pub nobody_hangs_in_the_flat_tree : NobodyHangs flat
nobody_hangs_in_the_flat_tree = nobody_hangs flat flat_ancestry flat_chained

-- The same for whole schedules: where an accepted run ends with nothing in flight, all living ranks in and all deaths known, every living
-- rank has decided.
pub no_schedule_hangs : (file out : List ℕ) → (run file out).answer ≡ 0
    → Quiet (run file out).state → AllEntered (byte_at file 5) (run file out).state → AllDeathsKnown (byte_at file 5) (run file out).state
    → AllDecided (byte_at file 5) (run file out).state
no_schedule_hangs file out z = nobody_hangs_in_the_flat_tree (byte_at file 5) (run file out).state (run_reaches file out z)
