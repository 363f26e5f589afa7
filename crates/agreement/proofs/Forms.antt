-- Request 2026-09: 2026-04, 2026-05 and 2026-08 in each form, by name, whatever the box size. The theorems hold over any ancestor sets that are a
-- tree, and those of each form are one. Assumes nothing.
use mathlib.Core.Path.{◌≡◌}
use Prim.Native.Nat.{ℕ}
use Rattle.tree.specs.Forms.{tree_of, flat_form, star_form, nested_form}
use Rattle.tree.proofs.Laws.Forms.{form_ancestry, form_chained}
use Rattle.state.specs.declared.State.{State}
use Rattle.state.specs.States.{rank_at}
use Rattle.group.specs.Reaching.{Runs}
use Rattle.group.proofs.Forms.{the_calls_run_in_their_form}
use Rattle.agreement.specs.Progress.{Quiet, AllEntered, AllDeathsKnown, AllDecided, NobodyHangs}
use Rattle.agreement.specs.Agreement.{FromTheLiving, Decides, Agreement, CodeSays}
use Rattle.agreement.proofs.Progress.Reaching.{nobody_hangs}
use Rattle.agreement.proofs.Agreement.{agreement}
use Rattle.agreement.proofs.Verdicts.{a_code_tells_of_deaths_not_acknowledged}

in_any_form : (form span : ℕ) → NobodyHangs (tree_of form span) × Agreement (tree_of form span) × CodeSays (tree_of form span)
in_any_form form span = (
  nobody_hangs (tree_of form span) (form_ancestry form span) (form_chained form span),
  agreement (tree_of form span) (form_ancestry form span) (form_chained form span),
  a_code_tells_of_deaths_not_acknowledged (tree_of form span),
)

pub in_the_flat_form : (span : ℕ) → NobodyHangs (tree_of flat_form span) × Agreement (tree_of flat_form span) × CodeSays (tree_of flat_form span)
in_the_flat_form = in_any_form flat_form

pub in_the_star_form : (span : ℕ) → NobodyHangs (tree_of star_form span) × Agreement (tree_of star_form span) × CodeSays (tree_of star_form span)
in_the_star_form = in_any_form star_form

pub in_the_nested_form : (span : ℕ) → NobodyHangs (tree_of nested_form span) × Agreement (tree_of nested_form span) × CodeSays (tree_of nested_form span)
in_the_nested_form = in_any_form nested_form

-- ---- the same of the calls themselves: a start in a form with a box size, and events, each in the form that its state has

module _ (n form span : ℕ) (s : State) (run : Runs n form span s) where
  pub no_run_of_the_calls_hangs : Quiet s → AllEntered n s → AllDeathsKnown n s → AllDecided n s
  no_run_of_the_calls_hangs = (in_any_form form span).0 n s (the_calls_run_in_their_form n form span s run)

  pub no_run_of_the_calls_disagrees : (i j : ℕ) → Decides n s i → Decides n s j → (rank_at s i).result ≡ (rank_at s j).result
  no_run_of_the_calls_disagrees = ((in_any_form form span).1 n s (the_calls_run_in_their_form n form span s run)).0

  pub a_result_of_the_calls_is_from_the_living : (i : ℕ) → Decides n s i → FromTheLiving (tree_of form span) n s (the_calls_run_in_their_form n form span s run) (rank_at s i).result
  a_result_of_the_calls_is_from_the_living = ((in_any_form form span).1 n s (the_calls_run_in_their_form n form span s run)).1
