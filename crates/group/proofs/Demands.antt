-- Demand 3 as theorems over the states that a group can be in: from an accepted start, by accepted events. Every such state is in order
-- (`Laws/Reached`), and what holds of any state in order is in `Laws/Moving` and `Laws/Answering`. Over any ancestor sets, and the
-- climb in the state's own form.
-- Assumes nothing.
use mathlib.Core.Path.{◌≡◌, sym, ap, subst, ◌∙◌}
use mathlib.Core.Bool.{true, false, ◌||◌}
use Prim.Native.Nat.{ℕ, ◌^◌, ◌≤◌, ◌<◌}
use native.Mathlib.Nat.{le_trans}
use native.Mathlib.Omega.{arith}
use lib.ListN.{get_or}
use Rattle.sets.specs.Sets.{has, add, union, below, count}
use Rattle.tree.specs.Tree.{ancestor_count, fresh, ended_at, links, reached, IsRoot, digits}
use Rattle.tree.specs.Forms.{flat_form, tree_of}
use Rattle.calls.specs.Calls.{Told, climbed}
use Rattle.tree.proofs.Laws.Mending.{moved-size}
use Rattle.tree.proofs.Laws.Forms.{form_ancestry, form_rooted, flat_form_lem}
use Rattle.tree.proofs.Laws.Climbing.{links-bound, path-ends, one-root, digits_enough, digits_least, flat_within_digits}
use Rattle.calls.proofs.Laws.Shapes.{Shapely}
use Rattle.calls.proofs.Laws.Calls.{climb_whole}
use Rattle.rank.specs.Words.{ask}
use Rattle.rank.specs.Records.{awaiting}
use Rattle.events.specs.declared.Event.{Event}
use Rattle.events.specs.Events.{event_of}
use Rattle.state.specs.declared.State.{State}
use Rattle.state.specs.States.{rank_at, row_at, place_at, own_tree}
use Rattle.order.specs.Between.{InOrder}
use Rattle.order.proofs.Laws.Ordering.{in_order_facts}
use Rattle.group.specs.Events.{event}
use Rattle.group.specs.Reaching.{Reaches, MovesExactly, AskMoves, ended_at_some}
use Rattle.group.proofs.Laws.Reached.{reached-small, reached_in_order, reached-size, reached-inside, reached-member}
use Rattle.group.proofs.Laws.Moving.{link_free, others_move_nothing, notice-knows, notice-moves, known_death_stays, dropped_moves_nothing, ask-knows, ask-moves}
use Rattle.group.proofs.Laws.Answering.{notice-answers, notice-who, ask-who}

-- Every reached state is in order.
pub a_reached_state_is_in_order : (anc : ℕ → ℕ) (n : ℕ) (s : State) → Reaches anc n s → InOrder anc s
a_reached_state_is_in_order = reached_in_order

-- ---- what each rank holds

module _ (anc : ℕ → ℕ) (n : ℕ) (s : State) (run : Reaches anc n s) where
  -- Each rank's table is the one worked out afresh from the deaths that the rank knows.
  pub table_is_fresh : (i : ℕ) → i < n → row_at s i ≡ fresh anc n (rank_at s i).marks
  table_is_fresh i l = (reached-member anc n s run i l).table

  -- Its awaited set is the fresh one: its children by that table that it has not heard.
  pub awaited_is_fresh : (i : ℕ) → i < n → (rank_at s i).awaited ≡ awaiting anc n i (rank_at s i).marks (rank_at s i).heard
  awaited_is_fresh i l = (reached-member anc n s run i l).in_order.to_settle.awaits

  -- The deaths that it knows are deaths.
  pub known_deaths_are_deaths : (i : ℕ) → i < n → (k : ℕ) → has (rank_at s i).marks k ≡ true → has s.group.dead k ≡ true
  known_deaths_are_deaths i l = (reached-member anc n s run i l).marks_dead

  -- No link of its table ends at a rank that it knows to be dead.
  pub no_link_to_a_known_death : (i p k : ℕ) → i < n → p < n → has (rank_at s i).marks k ≡ true → get_or (row_at s i) p 0 ≡ k → ⊥
  no_link_to_a_known_death i p k l b = link_free anc s i p k (reached_in_order anc n s run) (reached-inside anc n s run i l) (reached-inside anc n s run p b)

-- ---- any accepted event

-- An event that is neither a notice nor the delivery of an ASK leaves every row as it was.
pub only_a_notice_or_an_ask_moves : (anc : ℕ → ℕ) (n : ℕ) (s : State) → Reaches anc n s → (ev : Event) → (event anc s ev).answer ≡ 0
    → (ev.kind ≡ 4 → ⊥) → (ev.kind ≡ 2 → (place_at s ev.a).kind ≡ ask → ⊥) → (j : ℕ) → row_at (event anc s ev).state j ≡ row_at s j
only_a_notice_or_an_ask_moves anc n s run = others_move_nothing anc s (reached_in_order anc n s run)

-- ---- a notice to rank a that rank b is dead

module _ (anc : ℕ → ℕ) (n : ℕ) (s : State) (run : Reaches anc n s) (a b : ℕ) (z : (event anc s (event_of 4 a b)).answer ≡ 0) where
  -- Rank a then knows b's death besides those that it knew.
  pub a_notice_marks : (rank_at (event anc s (event_of 4 a b)).state a).marks ≡ add (rank_at s a).marks b
  a_notice_marks = notice-knows anc s (reached_in_order anc n s run) a b z

  -- One newly known death moves exactly the links that ended at the dead rank.
  pub a_notice_moves_exactly : MovesExactly n b (row_at s a) (row_at (event anc s (event_of 4 a b)).state a)
  a_notice_moves_exactly p l = notice-moves anc s (reached_in_order anc n s run) a b z p (reached-inside anc n s run p l)

  -- The set that it answers: a rank is in it exactly when it is unmarked after the mark and its entry ended at the newly marked one.
  pub a_notice_answers_who_moved : (p : ℕ) → has (event anc s (event_of 4 a b)).moved.ranks p ≡ ended_at n b (rank_at (event anc s (event_of 4 a b)).state a).marks (row_at s a) p
  a_notice_answers_who_moved p =
      subst (λ (m : ℕ). has (event anc s (event_of 4 a b)).moved.ranks p ≡ ended_at m b (rank_at (event anc s (event_of 4 a b)).state a).marks (row_at s a) p) (reached-size anc n s run)
      (notice-who anc s (reached_in_order anc n s run) a b z p)

  -- Its count is that set's size.
  pub a_notice_counts_who_moved : (event anc s (event_of 4 a b)).moved.count ≡ count (has (event anc s (event_of 4 a b)).moved.ranks) 64
  a_notice_counts_who_moved = rw (notice-answers anc s (reached_in_order anc n s run) a b z) (moved-size anc s.group.n (rank_at s a).marks b)

  -- A death that was known already moves nothing.
  pub a_known_death_moves_nothing : has (rank_at s a).marks b ≡ true → row_at (event anc s (event_of 4 a b)).state a ≡ row_at s a
  a_known_death_moves_nothing = known_death_stays anc s (reached_in_order anc n s run) a b z

-- ---- the delivery of the message at place a

module _ (anc : ℕ → ℕ) (n : ℕ) (s : State) (run : Reaches anc n s) (a b : ℕ) (z : (event anc s (event_of 2 a b)).answer ≡ 0) where
  -- A message to a dead rank, or from a sender that the receiver has marked, leaves every row as it was.
  pub a_dropped_message_moves_nothing : has s.group.dead (place_at s a).to || has (rank_at s (place_at s a).to).marks (place_at s a).from ≡ true
      → (j : ℕ) → row_at (event anc s (event_of 2 a b)).state j ≡ row_at s j
  a_dropped_message_moves_nothing = dropped_moves_nothing anc s (reached_in_order anc n s run) a b z

  -- The receiver of an ASK that is taken then knows the death of every rank below the sender besides those that it knew.
  pub an_ask_marks : (place_at s a).kind ≡ ask → has s.group.dead (place_at s a).to || has (rank_at s (place_at s a).to).marks (place_at s a).from ≡ false
      → (rank_at (event anc s (event_of 2 a b)).state (place_at s a).to).marks ≡ union (rank_at s (place_at s a).to).marks (below (place_at s a).from)
  an_ask_marks = ask-knows anc s (reached_in_order anc n s run) a b z

  -- Its marks, one after the other, each move exactly the links that ended at the rank that is marked.
  pub an_ask_moves_exactly : (place_at s a).kind ≡ ask → has s.group.dead (place_at s a).to || has (rank_at s (place_at s a).to).marks (place_at s a).from ≡ false
      → AskMoves anc n (rank_at s (place_at s a).to).marks (place_at s a).from (row_at s (place_at s a).to) (row_at (event anc s (event_of 2 a b)).state (place_at s a).to)
  an_ask_moves_exactly k t =
      subst (λ (m : ℕ). AskMoves anc m (rank_at s (place_at s a).to).marks (place_at s a).from (row_at s (place_at s a).to) (row_at (event anc s (event_of 2 a b)).state (place_at s a).to)) (reached-size anc n s run)
      (ask-moves anc s (reached_in_order anc n s run) a b z k t)

  -- The set that it answers: a rank is in it exactly when, at one of these marks, it is unmarked after the mark and its entry ended at the newly
  -- marked one.
  pub an_ask_answers_who_moved : (place_at s a).kind ≡ ask → has s.group.dead (place_at s a).to || has (rank_at s (place_at s a).to).marks (place_at s a).from ≡ false
      → (p : ℕ) → has (event anc s (event_of 2 a b)).moved.ranks p ≡ ended_at_some anc n (rank_at s (place_at s a).to).marks (place_at s a).from p
  an_ask_answers_who_moved k t p =
      subst (λ (m : ℕ). has (event anc s (event_of 2 a b)).moved.ranks p ≡ ended_at_some anc m (rank_at s (place_at s a).to).marks (place_at s a).from p) (reached-size anc n s run)
      (ask-who anc s (reached_in_order anc n s run) a b z k t p)

-- ---- the climb

-- In the form that the state has, in any rank's view, from any rank p not known dead, with as many links as p has ancestors, or more.
module _ (n : ℕ) (s : State) (run : Reaches (own_tree s) n s) (i p allowance : ℕ) (l : i < n) (b : p < n) (free : has (rank_at s i).marks p ≡ false) (enough : ancestor_count (own_tree s) p ≤ allowance) where
  abbrev anc : ℕ → ℕ
  anc = own_tree s

  shape : Shapely n s.group.form s.group.span
  shape = subst (λ (m : ℕ). Shapely m s.group.form s.group.span) (reached-size anc n s run) (in_order_facts anc s (reached_in_order anc n s run)).shape

  short : links anc (rank_at s i).marks p ≤ ancestor_count anc p
  short = links-bound anc (form_ancestry _ _) (form_rooted _ _) (rank_at s i).marks p (let m : n ≤ 64 = shape.small in omega arith)

  whole : climbed n s.group.form s.group.span (rank_at s i).marks p allowance ≡ record { number = 0; rank = reached anc (rank_at s i).marks p (links anc (rank_at s i).marks p); climbed = links anc (rank_at s i).marks p }
  whole = climb_whole n s.group.form s.group.span (rank_at s i).marks p allowance shape (reached-member anc n s run i l).in_order.to_settle.marks_inside.inside b free (le_trans short enough)

  -- The climb is accepted.
  pub a_climb_is_accepted : (climbed n s.group.form s.group.span (rank_at s i).marks p allowance).number ≡ 0
  a_climb_is_accepted = ap (λ (t : Told). t.number) whole

  -- It takes no more links than the rank has ancestors.
  pub a_climb_is_short : (climbed n s.group.form s.group.span (rank_at s i).marks p allowance).climbed ≤ ancestor_count (own_tree s) p
  a_climb_is_short = subst (λ (t : Told). t.climbed ≤ ancestor_count (own_tree s) p) (sym whole) short

  -- It answers a root of the view: an unmarked rank without a parent.
  pub a_climb_ends_at_a_root : IsRoot (own_tree s) n (rank_at s i).marks (climbed n s.group.form s.group.span (rank_at s i).marks p allowance).rank
  a_climb_ends_at_a_root = subst (λ (t : Told). IsRoot anc n (rank_at s i).marks t.rank) (sym whole) (path-ends anc n (rank_at s i).marks p b free)

-- A view has one root.
pub a_view_has_one_root : (anc : ℕ → ℕ) (n : ℕ) (s : State) → Reaches anc n s → (i q r : ℕ) → IsRoot anc n (rank_at s i).marks q → IsRoot anc n (rank_at s i).marks r → q ≡ r
a_view_has_one_root anc n s run i q r = one-root anc n (rank_at s i).marks q r (let small : n ≤ 64 = (reached-small anc n s run).1 in omega arith)

-- So every climb in that view ends at the same rank.
pub every-climb-ends-there : (n : ℕ) (s : State) → Reaches (own_tree s) n s → (i : ℕ) → i < n → (p q m k : ℕ) → p < n → q < n → has (rank_at s i).marks p ≡ false → has (rank_at s i).marks q ≡ false
    → ancestor_count (own_tree s) p ≤ m → ancestor_count (own_tree s) q ≤ k
    → (climbed n s.group.form s.group.span (rank_at s i).marks p m).rank ≡ (climbed n s.group.form s.group.span (rank_at s i).marks q k).rank
every-climb-ends-there n s run i l p q m k a b f g x y =
    a_view_has_one_root (own_tree s) n s run i (climbed n s.group.form s.group.span (rank_at s i).marks p m).rank (climbed n s.group.form s.group.span (rank_at s i).marks q k).rank
    (a_climb_ends_at_a_root n s run i p m l a f x) (a_climb_ends_at_a_root n s run i q k l b g y)

-- ---- the flat form

-- The digits of a rank's number: the least d with the number below 2 ^ d.
pub digits_are_enough : (p : ℕ) → p < 2 ^ digits p
digits_are_enough = digits_enough

pub digits_are_least : (p d : ℕ) → p < 2 ^ d → digits p ≤ d
digits_are_least = digits_least

-- In the flat form a rank has no more ancestors than its number has binary digits, so as many links are enough for a climb, and it takes no more.
pub flat_ancestors_are_few : (s : State) → s.group.form ≡ flat_form → (p : ℕ) → ancestor_count (own_tree s) p ≤ digits p
flat_ancestors_are_few s e p = subst (λ (anc : ℕ → ℕ). ancestor_count anc p ≤ digits p) (sym (ap (λ (f : ℕ). tree_of f s.group.span) e ∙ flat_form_lem s.group.span)) (flat_within_digits p)

pub a_flat_climb_is_short : (n : ℕ) (s : State) → Reaches (own_tree s) n s → s.group.form ≡ flat_form → (i p allowance : ℕ) → i < n → p < n → has (rank_at s i).marks p ≡ false → digits p ≤ allowance
    → ((climbed n s.group.form s.group.span (rank_at s i).marks p allowance).number ≡ 0) × ((climbed n s.group.form s.group.span (rank_at s i).marks p allowance).climbed ≤ digits p)
a_flat_climb_is_short n s run e i p allowance l b free enough =
    let few = flat_ancestors_are_few s e p in
    (a_climb_is_accepted n s run i p allowance l b free (le_trans few enough), le_trans (a_climb_is_short n s run i p allowance l b free (le_trans few enough)) few)
