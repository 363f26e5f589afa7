-- The agreement property: any two living decided ranks hold the same triple, and it is what a set of ranks that contains every living one
-- proposed together, with the marks of a root added. Over any ancestor sets with their chain law; the flat tree is one instance. Assumes nothing.
use mathlib.Core.Path.{◌≡◌, refl, ap, ◌∙◌}
use mathlib.Core.List.{List}
use mathlib.Core.Logic.{inl}
use Prim.Native.Nat.{ℕ}
use Rattle.tree.specs.Tree.{flat}
use Rattle.tree.specs.Relations.{Ancestry, Chained}
use Rattle.tree.proofs.Laws.Flat.{flat_ancestry, flat_chained}
use Rattle.rank.specs.Triples.{closing}
use Rattle.state.specs.declared.State.{State}
use Rattle.state.specs.States.{rank_at}
use Rattle.group.specs.Reaching.{Reaches}
use Rattle.group.proofs.Scenes.{scene}
use Rattle.files.specs.Files.{byte_at}
use Rattle.schedule.specs.Runs.{run}
use Rattle.schedule.proofs.Reaching.{run_reaches}
use Rattle.agreement.specs.Agreement.{proposal_of, FromTheLiving, Decides, Agreement}
use Rattle.agreement.proofs.Concord.Holders.{holder_in}
use Rattle.agreement.proofs.Concord.Reaching.{reached_agrees}
use Rattle.agreement.proofs.Votes.Invariant.{Concludes}
use Rattle.agreement.proofs.Votes.Reaching.{reached_votes, entered_in_the_run}

module _ (anc : ℕ → ℕ) (tree : Ancestry anc) (chain : Chained anc) (n : ℕ) (s : State) (r : Reaches anc n s) where
  -- The same triple.
  pub same_result : (i j : ℕ) → Decides n s i → Decides n s j → (rank_at s i).result ≡ (rank_at s j).result
  same_result i j di dj =
      (reached_agrees anc tree chain n s r).one_result (rank_at s i).result (rank_at s j).result
      (inl (i, di.0, di.1, refl)) (inl (j, dj.0, dj.1, refl))

  -- What a set with every living rank in it proposed together, with what a root of it added.
  pub result_from_the_living : (i : ℕ) → Decides n s i → FromTheLiving anc n s r (rank_at s i).result
  result_from_the_living i d = go ((reached_votes anc tree chain n s r).results i (holder_in n (scene s) i d.0) d.1)
    where
      go : Concludes n (proposal_of anc n s r) (scene s) (rank_at s i).result → FromTheLiving anc n s r (rank_at s i).result
      go c = record {
        members = c.combined.members;
        inside = λ k h. (c.combined.entered k h).0;
        entered = λ k h. entered_in_the_run anc tree n s r k (c.combined.entered k h);
        living = c.combined.contains;
        added = c.added;
        root = c.root;
        root-member = c.root-member;
        root-decided = record { is_decided = c.is_decided; is_result = c.is_result; own-and-added = c.own-and-added; within_marks = c.within_marks; all-below = c.all-below };
        is_together = c.own-and-added ∙ ap (closing c.added) c.combined.is_together;
      }

pub agreement : (anc : ℕ → ℕ) → Ancestry anc → Chained anc → Agreement anc
agreement anc tree chain n s r = (same_result anc tree chain n s r, result_from_the_living anc tree chain n s r)

pub agreement_in_the_flat_tree : Agreement flat
agreement_in_the_flat_tree = agreement flat flat_ancestry flat_chained

-- ---- whole schedules

-- The listing of an accepted file never shows two living decided ranks with different results.
pub no_schedule_disagrees : (file out : List ℕ) → (run file out).answer ≡ 0 → (i j : ℕ) → Decides (byte_at file 5) (run file out).state i → Decides (byte_at file 5) (run file out).state j
    → (rank_at (run file out).state i).result ≡ (rank_at (run file out).state j).result
no_schedule_disagrees file out z = (agreement_in_the_flat_tree (byte_at file 5) (run file out).state (run_reaches file out z)).0

-- And what they show is what a set of ranks with every living one proposed together, by the accepted events of the file, with what a root added.
pub a_schedules_result_is_from_the_living : (file out : List ℕ) (z : (run file out).answer ≡ 0) (i : ℕ) → Decides (byte_at file 5) (run file out).state i
    → FromTheLiving flat (byte_at file 5) (run file out).state (run_reaches file out z) (rank_at (run file out).state i).result
a_schedules_result_is_from_the_living file out z = (agreement_in_the_flat_tree (byte_at file 5) (run file out).state (run_reaches file out z)).1
