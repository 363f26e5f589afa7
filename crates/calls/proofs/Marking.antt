-- What mark answers as moved, for every input, in each form. Assumes nothing.
use mathlib.Core.Path.{◌≡◌, refl, sym, ap, ◌∙◌}
use mathlib.Core.Bool.{true}
use mathlib.Core.List.{List}
use Prim.Native.Nat.{ℕ, ◌≤◌, ◌<◌}
use native.Mathlib.Omega.{arith}
use Rattle.sets.specs.Sets.{has, add, count}
use Rattle.sets.proofs.Laws.Counts.{empty_count}
use Rattle.tree.specs.Tree.{nobody, ended_at}
use Rattle.tree.specs.Forms.{tree_of}
use Rattle.calls.specs.Calls.{mark_refused, marked}
use Rattle.tree.proofs.Laws.Mending.{moved-again, moved-size, moved-who}
use Rattle.calls.proofs.Laws.Marks.{marked_by}

module _ (n form span marks : ℕ) (table : List ℕ) (q : ℕ) where
  abbrev anc : ℕ → ℕ
  anc = tree_of form span

  -- moved is the size of the set, accepted or not.
  pub a_mark_counts_who_moved : (marked n form span marks table q).moved.count ≡ count (has (marked n form span marks table q).moved.ranks) 64
  unfolding mark_refused
  a_mark_counts_who_moved = marked_by n form span marks table q (λ r. r.moved.count ≡ count (has r.moved.ranks) 64) (λ number d. sym (empty_count 64)) (λ f. moved-size anc n marks q)

  -- A rank is in the set exactly when it is unmarked after the mark and its entry ended at the newly marked one.
  pub a_mark_answers_who_moved : (marked n form span marks table q).answer ≡ 0 → (p : ℕ) → has (marked n form span marks table q).moved.ranks p ≡ ended_at n q (marked n form span marks table q).marks table p
  unfolding mark_refused
  a_mark_answers_who_moved =
      marked_by n form span marks table q (λ r. r.answer ≡ 0 → (p : ℕ) → has r.moved.ranks p ≡ ended_at n q r.marks table p)
      (λ number d e. absurd (d e))
      (λ f e p. let l : q < n = f.rank_in in let h : n ≤ 64 = f.shape.small in moved-who anc n marks q p h (omega arith) ∙ ap (λ (t : List ℕ). ended_at n q (add marks q) t p) (sym f.table_is))

  -- A rank that is marked already moves nobody.
  pub a_mark_again_moves_nobody : has marks q ≡ true → (marked n form span marks table q).moved ≡ nobody
  unfolding mark_refused
  a_mark_again_moves_nobody h = marked_by n form span marks table q (λ r. r.moved ≡ nobody) (λ number d. refl) (λ f. moved-again anc n marks q h)

  -- A refused mark hands back view and table, and nobody has moved.
  pub a_refused_mark_changes_nothing : ((marked n form span marks table q).answer ≡ 0 → ⊥) → marked n form span marks table q ≡ mark_refused (marked n form span marks table q).answer marks table
  unfolding mark_refused
  a_refused_mark_changes_nothing = marked_by n form span marks table q (λ r. (r.answer ≡ 0 → ⊥) → r ≡ mark_refused r.answer marks table) (λ number d e. refl) (λ f e. absurd (e refl))
