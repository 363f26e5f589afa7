-- The states that a group can be in, and what demand 3 says of two tables and of the set that moved.
use Rattle.std.specs.Prelude.{ℕ, ◌+◌, ◌<◌, ◌≡◌, Bool, true, not, List, eqb, get_or}
use Rattle.sets.specs.Sets.{has, add, union, below, some}
use Rattle.tree.specs.Tree.{fresh, ended_at}
use Rattle.tree.specs.Forms.{tree_of}
use Rattle.answers.specs.Refusals.{accepted}
use Rattle.events.specs.declared.Event.{Event}
use Rattle.state.specs.declared.State.{State}
use Rattle.state.specs.States.{own_tree, with_box}
use Rattle.state.specs.Starting.{started}
use Rattle.group.specs.Events.{Stepped, event}

-- A run of a group of n along any ancestor sets: from an accepted start, by accepted events.
pub data Reaches (anc : ℕ → ℕ) (n : ℕ) : State → Type 0 where
  begun : (form span : ℕ) → (started anc n form span).answer ≡ accepted → Reaches anc n (started anc n form span).state
  next : (s : State) (ev : Event) → Reaches anc n s → (event anc s ev).answer ≡ accepted → Reaches anc n (event anc s ev).state

-- A run of the calls themselves, which take no ancestor sets: an accepted start in a form with a box size, and accepted events, each in the form
-- that its state has. It is a run along that form's ancestor sets (`the_calls_run_in_their_form`).
pub data Runs (n form span : ℕ) : State → Type 0 where
  starts : (started (tree_of form span) n form span).answer ≡ accepted → Runs n form span (started (tree_of form span) n form span).state
  goes : (s : State) (ev : Event) → Runs n form span s → (event (own_tree s) s ev).answer ≡ accepted → Runs n form span (event (own_tree s) s ev).state

-- Two states have one form and one box size.
abbrev pub SameForm : State → State → Type 0
SameForm t s = (t.group.form ≡ s.group.form) × (t.group.span ≡ s.group.span)

-- What an event answers, with another box size in its state.
abbrev pub reboxed : ℕ → Stepped → Stepped
reboxed span r = record { answer = r.answer; sent = r.sent; moved = r.moved; state = with_box span r.state }

-- From one table to the next exactly the links that ended at q have moved: for every rank p below n, its entry differs where it was q,
-- and nowhere else.
abbrev pub MovesExactly : ℕ → ℕ → List ℕ → List ℕ → Type 0
MovesExactly n q before after = (p : ℕ) → p < n → not (eqb (get_or after p 0) (get_or before p 0)) ≡ eqb (get_or before p 0) q

-- The table of a rank once it knows these deaths and that of every rank below k.
unfoldable pub table_below : (ℕ → ℕ) → ℕ → ℕ → ℕ → List ℕ
table_below anc n marks k = fresh anc n (union marks (below k))

-- From one table to another by the marks of an ASK from q, ascending: each mark moves exactly the links that ended at the rank it marks,
-- and one of a rank that was marked already moves none.
pub record AskMoves (anc : ℕ → ℕ) (n marks q : ℕ) (before after : List ℕ) : Type 0 where
  pub begins : table_below anc n marks 0 ≡ before
  pub each : (k : ℕ) → k < q → MovesExactly n k (table_below anc n marks k) (table_below anc n marks (k + 1))
  pub known : (k : ℕ) → k < q → has marks k ≡ true → table_below anc n marks (k + 1) ≡ table_below anc n marks k
  pub ends : table_below anc n marks q ≡ after

-- Who moved by an ASK from q: at one of its marks p is unmarked after the mark, and its entry ended at the newly marked one.
unfoldable pub ended_at_some : (ℕ → ℕ) → ℕ → ℕ → ℕ → ℕ → Bool
ended_at_some anc n marks q p = some (λ k. ended_at n k (add (union marks (below k)) k) (table_below anc n marks k) p) q
