-- Start along its code: the records and the rows are filled from the front. Assumes nothing.
use mathlib.Core.Path.{◌≡◌, refl, sym, ap, ap₂, subst, ◌∙◌}
use mathlib.Core.List.{List, []}
use mathlib.Core.Logic.{⊎_elim}
use Prim.Native.Nat.{ℕ, ◌+◌, ◌≤◌, ◌<◌}
use native.Mathlib.Omega.{arith}
use lib.ListN.{length, set, replicate, length-replicate, get_or-replicate}
use borrow.Author.Tests.{lt-ltb, le-ltb, eq-eqb, ne_eqb}
use Rattle.sets.specs.Sets.{none}
use Rattle.answers.specs.declared.Refusal.{Refusal}
use Rattle.answers.specs.Answers.{number}
use Rattle.answers.proofs.Laws.Numbers.{number-one_to_one, number-not_0}
use Rattle.std.specs.Prelude.{Result, Ok, Err}
use lib.Dec.{eqb}
use Rattle.sets.proofs.Laws.Bools.{clash, eq_or_ne}
use Rattle.tree.specs.Tree.{row, fresh}
use Rattle.tree.specs.Forms.{tree_of, flat_form}
use Rattle.calls.specs.Calls.{misshapen}
use Rattle.tree.proofs.Laws.Forms.{flat_form_lem}
use Rattle.calls.proofs.Laws.Shapes.{shape-none}
use Rattle.tree.proofs.Laws.Rows.{Patched, patched_start, patched_put, patched_end, row_replicate, length-row, get_d_row}
use Rattle.rank.specs.declared.Rank.{Rank}
use Rattle.rank.specs.declared.Message.{Message}
use Rattle.rank.specs.Records.{fresh_rank}
use Rattle.net.specs.Net.{zero_message}
use Rattle.state.specs.declared.State.{State}
use Rattle.state.specs.States.{zero_rank, joined, rank_at, row_at, place_at, with_box}
use Rattle.state.specs.declared.Refused.{Refused}
use Rattle.state.specs.Starting.{Started, told, first_rank, first_row, fresh_state, empty_state, started}

-- a place is filled up to i
pub record Filled {A : Type 0} (d : A) (f : ℕ → A) (e : A) (n i : ℕ) (t : List A) : Type 0 where
  pub within : i ≤ n
  pub table : Patched d f (λ k. e) 64 i t

pub filled_start : {A : Type 0} (d : A) (f : ℕ → A) (e : A) (n : ℕ) → Filled d f e n 0 (replicate 64 e)
filled_start d f e n = record { within = omega arith; table = patched_start d f (λ k. e) 64 (replicate 64 e) (row_replicate 64 d e) }

pub filled_from : {A : Type 0} (d : A) (f : ℕ → A) (e v : A) (n : ℕ) → v ≡ e → Filled d f e n 0 (replicate 64 v)
filled_from {A} d f e v n q = subst (λ (x : A). Filled d f e n 0 (replicate 64 x)) (sym q) (filled_start d f e n)

filled_put : {A : Type 0} (d : A) (f : ℕ → A) (e : A) (n i : ℕ) (t : List A) (v : A) → n ≤ 64 → Filled d f e n i t → i < n → v ≡ f i → Filled d f e n (i + 1) (set t i v)
filled_put d f e n i t v s p l q = record { within = omega arith; table = patched_put d f (λ k. e) 64 i v t p.table (omega arith) q }

module _ (anc : ℕ → ℕ) (n : ℕ) where
  pub first_rank_in : (i : ℕ) → i < n → first_rank anc n i ≡ fresh_rank anc n i
  unfolding first_rank
  first_rank_in i l = rw (lt-ltb i n l)

  pub first-rank-past : (i : ℕ) → n ≤ i → zero_rank ≡ first_rank anc n i
  unfolding first_rank
  first-rank-past i l = rw (le-ltb i n l)

  pub first_row_in : (i : ℕ) → i < n → first_row anc n i ≡ fresh anc n 0
  unfolding first_row
  first_row_in i l = rw (lt-ltb i n l)

  pub first-row-past : (i : ℕ) → n ≤ i → replicate 64 none ≡ first_row anc n i
  unfolding first_row
  first-row-past i l = rw (le-ltb i n l)

  pub ranks-put : (i : ℕ) (t : List Rank) (v : Rank) → n ≤ 64 → Filled zero_rank (first_rank anc n) zero_rank n i t → i < n → v ≡ fresh_rank anc n i → Filled zero_rank (first_rank anc n) zero_rank n (i + 1) (set t i v)
  ranks-put i t v s p l e = filled_put zero_rank (first_rank anc n) zero_rank n i t v s p l (e ∙ sym (first_rank_in i l))

  pub ranks_end : (i : ℕ) (t : List Rank) → Filled zero_rank (first_rank anc n) zero_rank n i t → n ≤ i → t ≡ row (first_rank anc n) 64
  ranks_end i t p l = patched_end zero_rank (first_rank anc n) (λ k. zero_rank) 64 i t p.table (λ k h b. first-rank-past k (omega arith))

  pub rows_put : (i : ℕ) (t : List (List ℕ)) (v : List ℕ) → n ≤ 64 → Filled [] (first_row anc n) (replicate 64 none) n i t → i < n → v ≡ fresh anc n 0 → Filled [] (first_row anc n) (replicate 64 none) n (i + 1) (set t i v)
  rows_put i t v s p l e = filled_put [] (first_row anc n) (replicate 64 none) n i t v s p l (e ∙ sym (first_row_in i l))

  pub rows_end : (i : ℕ) (t : List (List ℕ)) → Filled [] (first_row anc n) (replicate 64 none) n i t → n ≤ i → t ≡ row (first_row anc n) 64
  rows_end i t p l = patched_end [] (first_row anc n) (λ k. replicate 64 none) 64 i t p.table (λ k h b. first-row-past k (omega arith))

module _ (anc : ℕ → ℕ) (n form span : ℕ) where
  pub start-refused : (e : Refusal) (u : State) → number e ≡ misshapen n form span → u ≡ empty_state → ◌≡◌ {A = Started} (record { answer = number e; state = u }) (started anc n form span)
  unfolding started
  start-refused e u h g = rw (← h, number-not_0 e) (ap (λ (x : State). record { answer = number e; state = x }) g)

  pub start-accepted : (u : State) → 0 ≡ misshapen n form span → u ≡ fresh_state anc n form span → ◌≡◌ {A = Started} (record { answer = 0; state = u }) (started anc n form span)
  unfolding started
  start-accepted u h g = rw (← h) (ap (λ (x : State). record { answer = 0; state = x }) g)

-- A start of the right size, form and box size gives a fresh group, and no other start is accepted.
pub started-small : (anc : ℕ → ℕ) (n form span : ℕ) → misshapen n form span ≡ 0 → ((started anc n form span).answer ≡ 0) × ((started anc n form span).state ≡ fresh_state anc n form span)
unfolding started
started-small anc n form span t = (rw t, rw t)

pub started-fresh : (anc : ℕ → ℕ) (n form span : ℕ) → (started anc n form span).answer ≡ 0 → (misshapen n form span ≡ 0) × ((started anc n form span).state ≡ fresh_state anc n form span)
unfolding started
started-fresh anc n form span z = ⊎_elim (λ (t : misshapen n form span ≡ 0). (t, rw t)) (λ (d : misshapen n form span ≡ 0 → ⊥). absurd (d (rw (ne_eqb (misshapen n form span) 0 d) at z))) (eq_or_ne (misshapen n form span) 0)

-- A refused start gives the empty group, whatever was at fault.
pub started_none : (anc : ℕ → ℕ) (n form span : ℕ) → ((started anc n form span).answer ≡ 0 → ⊥) → (started anc n form span).state ≡ empty_state
unfolding started
started_none anc n form span d = ⊎_elim (λ (t : misshapen n form span ≡ 0). absurd (d (rw t))) (λ (e : misshapen n form span ≡ 0 → ⊥). rw (ne_eqb (misshapen n form span) 0 e)) (eq_or_ne (misshapen n form span) 0)

pub empty_size : empty_state.group.n ≡ 0
unfolding empty_state
empty_size = refl

-- a start of no ranks gives the empty state
pub start_of_none : (anc : ℕ → ℕ) (form span : ℕ) → (started anc 0 form span).state ≡ empty_state
unfolding started
start_of_none anc form span = rw (shape-none form span)

-- ---- replies

-- A refusal is not answered with 0.
pub not_accepted : (r : Refusal) → number r ≡ 0 → ⊥
not_accepted r z = clash (eqb (number r) 0) (eq-eqb (number r) 0 z) (number-not_0 r)

-- A reply is known by its number and its state.
pub told_alike : (a b : Result State Refused) → told a ≡ told b → a ≡ b
told_alike (Ok s) (Ok t) e = ap {B = Result State Refused} (λ (x : Started). Ok x.state) e
told_alike (Ok s) (Err r) e = absurd (not_accepted r.refusal (sym (ap (λ (x : Started). x.answer) e)))
told_alike (Err r) (Ok s) e = absurd (not_accepted r.refusal (ap (λ (x : Started). x.answer) e))
told_alike (Err r) (Err q) e =
    let f : r.refusal ≡ q.refusal = number-one_to_one r.refusal q.refusal (ap (λ (x : Started). x.answer) e) in
    ap₂ {C = Result State Refused} (λ (x : Refusal) (y : State). Err (record { refusal = x; state = y })) f (ap (λ (x : Started). x.state) e)

-- ---- along the code

pub empty_state_lem : (r : Rank) (m : Message) (u : State) → r ≡ zero_rank → m ≡ zero_message
    → u ≡ joined (record { n = 0; form = 0; span = 0; count = 0; dead = 0; ranks = replicate 64 r; net = replicate 128 m }) (replicate 64 (replicate 64 0)) → u ≡ empty_state
unfolding empty_state
empty_state_lem r m u e f g = g ∙ ap₂ (λ (x : Rank) (y : Message). joined (record { n = 0; form = 0; span = 0; count = 0; dead = 0; ranks = replicate 64 x; net = replicate 128 y }) (replicate 64 (replicate 64 0))) e f

pub fresh-state : (anc : ℕ → ℕ) (n form span : ℕ) (rs : List Rank) (m : Message) (t : List (List ℕ)) (u : State) → rs ≡ row (first_rank anc n) 64 → m ≡ zero_message → t ≡ row (first_row anc n) 64
    → u ≡ joined (record { n = n; form = form; span = span; count = 0; dead = 0; ranks = rs; net = replicate 128 m }) t → u ≡ fresh_state anc n form span
unfolding fresh_state
fresh-state anc n form span rs m t u e f h g = rw (g, e, f, h) refl

-- its case on the empty state, with the group record's other fields as they stand there
pub seated : (anc : ℕ → ℕ) (n form span : ℕ) (s : State) (rs : List Rank) (t : List (List ℕ)) → s ≡ empty_state → rs ≡ row (first_rank anc n) 64 → t ≡ row (first_row anc n) 64
    → joined (record { n = n; form = form; span = span; count = s.group.count; dead = s.group.dead; ranks = rs; net = s.group.net }) t ≡ fresh_state anc n form span
unfolding empty_state
seated anc n form span s rs t e f g = rw e (fresh-state anc n form span rs zero_message t _ f refl g refl)

pub empty_ranks : (s : State) → s ≡ empty_state → s.group.ranks ≡ replicate 64 zero_rank
unfolding empty_state
empty_ranks s e = ap (λ (x : State). x.group.ranks) e

-- ---- what a fresh state holds

pub fresh-size : (anc : ℕ → ℕ) (n form span : ℕ) → (fresh_state anc n form span).group.n ≡ n
unfolding fresh_state
fresh-size anc n form span = refl

pub fresh_form : (anc : ℕ → ℕ) (n form span : ℕ) → (fresh_state anc n form span).group.form ≡ form
unfolding fresh_state
fresh_form anc n form span = refl

pub fresh_span : (anc : ℕ → ℕ) (n form span : ℕ) → (fresh_state anc n form span).group.span ≡ span
unfolding fresh_state
fresh_span anc n form span = refl

pub fresh_dead : (anc : ℕ → ℕ) (n form span : ℕ) → (fresh_state anc n form span).group.dead ≡ 0
unfolding fresh_state
fresh_dead anc n form span = refl

pub fresh-count : (anc : ℕ → ℕ) (n form span : ℕ) → (fresh_state anc n form span).group.count ≡ 0
unfolding fresh_state
fresh-count anc n form span = refl

pub fresh_lengths : (anc : ℕ → ℕ) (n form span : ℕ) → (length (fresh_state anc n form span).group.ranks ≡ 64) × (length (fresh_state anc n form span).tables ≡ 64) × (length (fresh_state anc n form span).group.net ≡ 128)
unfolding fresh_state
fresh_lengths anc n form span = (length-row (first_rank anc n) 64, length-row (first_row anc n) 64, length-replicate 128 zero_message)

pub fresh-rank-at : (anc : ℕ → ℕ) (n form span i : ℕ) → n ≤ 64 → i < n → rank_at (fresh_state anc n form span) i ≡ fresh_rank anc n i
unfolding fresh_state
fresh-rank-at anc n form span i high l = get_d_row (first_rank anc n) 64 i zero_rank (omega arith) ∙ first_rank_in anc n i l

pub fresh-row-at : (anc : ℕ → ℕ) (n form span i : ℕ) → n ≤ 64 → i < n → row_at (fresh_state anc n form span) i ≡ fresh anc n 0
unfolding fresh_state
fresh-row-at anc n form span i high l = get_d_row (first_row anc n) 64 i [] (omega arith) ∙ first_row_in anc n i l

pub fresh-past : (anc : ℕ → ℕ) (n form span i : ℕ) → n ≤ i → i < 64 → (rank_at (fresh_state anc n form span) i ≡ zero_rank) × (row_at (fresh_state anc n form span) i ≡ replicate 64 none)
unfolding fresh_state
fresh-past anc n form span i l b = (get_d_row (first_rank anc n) 64 i zero_rank b ∙ sym (first-rank-past anc n i l), get_d_row (first_row anc n) 64 i [] b ∙ sym (first-row-past anc n i l))

pub fresh_place_at : (anc : ℕ → ℕ) (n form span i : ℕ) → i < 128 → place_at (fresh_state anc n form span) i ≡ zero_message
unfolding fresh_state
fresh_place_at anc n form span i b = get_or-replicate 128 i zero_message zero_message b

-- With form 0 it holds the same for every box size.
pub fresh_alike : (n x y : ℕ) → fresh_state (tree_of flat_form y) n flat_form y ≡ with_box y (fresh_state (tree_of flat_form x) n flat_form x)
unfolding fresh_state
fresh_alike n x y = rw (flat_form_lem y, flat_form_lem x)
