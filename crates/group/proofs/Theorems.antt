-- The promises of the group layer, each under a name that says it: what a caller of start and event sees, over the states that a group can be
-- in. Over any ancestor sets. Assumes nothing.
use mathlib.Core.Path.{◌≡◌, refl, sym, ap, subst, ◌∙◌}
use mathlib.Core.Bool.{true, false, cond, ◌||◌}
use mathlib.Core.List.{◌++◌}
use mathlib.Core.Logic.{inr}
use Prim.Native.Nat.{ℕ}
use lib.Dec.{eqb}
use lib.ListN.{length}
use Rattle.sets.specs.Sets.{has, add}
use Rattle.sets.proofs.Laws.Bools.{clash}
use Rattle.tree.specs.Tree.{moved, nobody}
use Rattle.tree.specs.Calls.{moved_below}
use Rattle.calls.specs.Calls.{misshapen}
use Rattle.tree.specs.Relations.{Ancestry}
use Rattle.calls.proofs.Laws.Shapes.{shapely}
use Rattle.rank.specs.declared.Acted.{Acted}
use Rattle.rank.specs.Words.{ask}
use Rattle.rank.specs.Records.{admitting}
use Rattle.rank.specs.Rules.{acknowledging}
use Rattle.rank.proofs.Laws.Knowing.{acknowledge_is}
use Rattle.rank.proofs.Laws.Letters.{letters-silent}
use Rattle.net.specs.Net.{without}
use Rattle.events.specs.declared.Event.{Event}
use Rattle.events.specs.Events.{event_of, crashes, names_place}
use Rattle.events.proofs.Laws.Naming.{names_a_rank, names_a_place}
use Rattle.state.specs.declared.State.{State}
use Rattle.state.specs.States.{rank_at, row_at, place_at, flying}
use Rattle.state.specs.Starting.{fresh_state, started}
use Rattle.order.specs.Between.{InOrder}
use Rattle.order.proofs.Laws.Fresh.{fresh_in_order}
use Rattle.plans.proofs.Laws.Cases.{is_dropped}
use Rattle.plans.proofs.Laws.Knowing as Knowing
use Rattle.plans.proofs.Laws.Planning.{act-acknowledges}
use Rattle.group.specs.Events.{refused, event}
use Rattle.group.specs.Changes.{named, doing, sends}
use Rattle.group.specs.Reaching.{Reaches}
use Rattle.group.proofs.Laws.Events.{event_on_none, event-refused}
use Rattle.group.proofs.Laws.Moving.{event_keeps_order, event-size, others_stay, word_or_ask}
use Rattle.group.proofs.Laws.Following.{each-rank}
use Rattle.group.proofs.Laws.Reached.{reached_in_order, reached-size}
use Rattle.group.proofs.Laws.Changing.{subject_is, record_is, row_is, dead_is, flying_is, sent_is, moved_is, named-rank, named_receiver}
use Rattle.group.proofs.Laws.Answering.{notice-answers, ask-answers}

-- ---- order

-- A fresh group is in order.
pub a_fresh_group_is_in_order : (anc : ℕ → ℕ) (n form span : ℕ) → misshapen n form span ≡ 0 → InOrder anc (fresh_state anc n form span)
a_fresh_group_is_in_order anc n form span e = fresh_in_order anc n form span (shapely n form span e)

-- An event on a state in order gives a state in order.
pub an_event_keeps_order : (anc : ℕ → ℕ) (s : State) (ev : Event) → InOrder anc s → InOrder anc (event anc s ev).state
an_event_keeps_order = event_keeps_order

-- ---- refused events

-- Any event on a refused start is refused with 1.
pub a_refused_start_takes_no_event : (anc : ℕ → ℕ) (n form span : ℕ) (along : ℕ → ℕ) (ev : Event) → ((started anc n form span).answer ≡ 0 → ⊥) → event along (started anc n form span).state ev ≡ refused 1 (started anc n form span).state
a_refused_start_takes_no_event = event_on_none

-- A refused event, on any state, gives its number, sent 0, moved 0, of nobody, and the state unchanged in every field.
pub a_refused_event_changes_nothing : (anc : ℕ → ℕ) (s : State) (ev : Event) → ((event anc s ev).answer ≡ 0 → ⊥) → event anc s ev ≡ refused (event anc s ev).answer s
a_refused_event_changes_nothing = event-refused

-- ---- an accepted event on a reached state

module _ (anc : ℕ → ℕ) (n : ℕ) (s : State) (run : Reaches anc n s) (ev : Event) (z : (event anc s ev).answer ≡ 0) where
  o : InOrder anc s
  o = reached_in_order anc n s run

  -- The group keeps its size.
  pub the_size_stays : (event anc s ev).state.group.n ≡ n
  the_size_stays = event-size anc s ev o ∙ reached-size anc n s run

  -- A step changes one rank's record and row: every rank but the one that the event names keeps both.
  pub a_step_changes_one_rank : (j : ℕ) → (j ≡ named s ev → ⊥) → (rank_at (event anc s ev).state j ≡ rank_at s j) × (row_at (event anc s ev).state j ≡ row_at s j)
  a_step_changes_one_rank j h = others_stay anc s o ev z j (λ e. h (e ∙ subject_is anc s o ev z))

  -- The record and the row of that one are what the event has it do.
  pub the_named_rank_acts : (rank_at (event anc s ev).state (named s ev) ≡ (doing anc s ev).rank) × (row_at (event anc s ev).state (named s ev) ≡ (doing anc s ev).row)
  the_named_rank_acts = (record_is anc s o ev z, row_is anc s o ev z)

  -- A crash adds rank a to the dead; nothing else does.
  pub only_a_crash_kills : (event anc s ev).state.group.dead ≡ cond (eqb ev.kind crashes) (add s.group.dead ev.a) s.group.dead
  only_a_crash_kills = dead_is anc s o ev z

  -- A delivered or lost message leaves, and the sends join at the end, in the order written.
  pub what_is_sent_joins : flying (event anc s ev).state ≡ cond (names_place ev.kind) (without ev.a (flying s)) (flying s) ++ sends anc s ev
  what_is_sent_joins = flying_is anc s o ev z

  -- sent is the number of messages that joined.
  pub sent_is_what_joined : (event anc s ev).sent ≡ length (sends anc s ev)
  sent_is_what_joined = sent_is anc s o ev z

  -- An event that is neither a notice nor the delivery of an ASK moves nothing.
  pub nothing_else_moves : (ev.kind ≡ 4 → ⊥) → (ev.kind ≡ 2 → (place_at s ev.a).kind ≡ ask → ⊥) → (event anc s ev).moved ≡ nobody
  unfolding doing
  nothing_else_moves h k = moved_is anc s o ev z ∙ (Knowing.other_calm anc _ _ ev _ _ _ _ h (λ e. word_or_ask anc s o ev z e (k e))).1

-- moved of a notice to rank a that rank b is dead is the difference of the fresh tables with and without the mark: the set of the unmarked
-- ranks whose entries differ, and its size.
pub moved_of_a_notice : (anc : ℕ → ℕ) (n : ℕ) (s : State) → Reaches anc n s → (a b : ℕ) → (event anc s (event_of 4 a b)).answer ≡ 0 → (event anc s (event_of 4 a b)).moved ≡ moved anc n (rank_at s a).marks b
moved_of_a_notice anc n s run a b z = notice-answers anc s (reached_in_order anc n s run) a b z ∙ ap (λ (m : ℕ). moved anc m (rank_at s a).marks b) (reached-size anc n s run)

-- ---- the delivery of the message at place a

module _ (anc : ℕ → ℕ) (n : ℕ) (s : State) (run : Reaches anc n s) (a b : ℕ) (z : (event anc s (event_of 2 a b)).answer ≡ 0) where
  -- moved of an ASK that is taken is the union and the sum over its marks.
  pub moved_of_an_ask : (place_at s a).kind ≡ ask → has s.group.dead (place_at s a).to || has (rank_at s (place_at s a).to).marks (place_at s a).from ≡ false
      → (event anc s (event_of 2 a b)).moved ≡ moved_below anc n (rank_at s (place_at s a).to).marks (place_at s a).from
  moved_of_an_ask k t =
      ask-answers anc s (reached_in_order anc n s run) a b z k t ∙ ap (λ (m : ℕ). moved_below anc m (rank_at s (place_at s a).to).marks (place_at s a).from) (reached-size anc n s run)

  -- A message to a dead rank, or from a sender that the receiver has marked, moves nothing.
  pub moved_of_a_dropped_message : has s.group.dead (place_at s a).to || has (rank_at s (place_at s a).to).marks (place_at s a).from ≡ true → (event anc s (event_of 2 a b)).moved ≡ nobody
  unfolding doing
  moved_of_a_dropped_message t =
      let to_is : named s (event_of 2 a b) ≡ (place_at s a).to = named_receiver s (event_of 2 a b) (names_a_place 2 refl) in
      moved_is anc s (reached_in_order anc n s run) (event_of 2 a b) z
      ∙ (Knowing.dropped_calm anc _ _ _ _ _ _ _ refl (is_dropped s.group.dead (named s (event_of 2 a b)) (place_at s a) (rank_at s (named s (event_of 2 a b))) (rw to_is t))).1

-- ---- an acknowledgement

module _ (anc : ℕ → ℕ) (n : ℕ) (s : State) (run : Reaches anc n s) (a b : ℕ) (z : (event anc s (event_of 6 a b)).answer ≡ 0) where
  acknowledges : doing anc s (event_of 6 a b) ≡ acknowledging anc s.group.n a (rank_at s a)
  unfolding doing
  acknowledges =
      sym (act-acknowledges anc _ _ (event_of 6 a b) _ _ _ _ _ refl refl)
      ∙ ap (λ (i : ℕ). acknowledging anc s.group.n i (rank_at s i)) (named-rank s (event_of 6 a b) (names_a_rank 6 (inr (inr (inr refl)))).1)

  -- Request 2026-08: rank a's acknowledged set becomes its marks, and the rest of its record stays.
  pub an_acknowledgement_is_of_the_marks : rank_at (event anc s (event_of 6 a b)).state a ≡ admitting (rank_at s a).marks (rank_at s a)
  an_acknowledgement_is_of_the_marks =
      let o = reached_in_order anc n s run in
      let is : named s (event_of 6 a b) ≡ a = named-rank s (event_of 6 a b) (names_a_rank 6 (inr (inr (inr refl)))).1 in
      subst (λ (i : ℕ). rank_at (event anc s (event_of 6 a b)).state i ≡ (doing anc s (event_of 6 a b)).rank) is (record_is anc s o (event_of 6 a b) z)
      ∙ ap (λ (x : Acted). x.rank) acknowledges ∙ (acknowledge_is anc s.group.n a (rank_at s a)).0

  -- It sends nothing.
  pub an_acknowledgement_sends_nothing : (event anc s (event_of 6 a b)).sent ≡ 0
  unfolding sends
  an_acknowledgement_sends_nothing =
      let says = acknowledge_is anc s.group.n a (rank_at s a) in
      sent_is anc s (reached_in_order anc n s run) (event_of 6 a b) z ∙ rw (acknowledges, says.1, says.2, letters-silent (named s (event_of 6 a b)))

-- ---- what any event leaves of a rank, accepted or not

module _ (anc : ℕ → ℕ) (tree : Ancestry anc) (n : ℕ) (s : State) (run : Reaches anc n s) (ev : Event) (j : ℕ) where
  -- A dead rank's record is frozen.
  pub the_dead_are_frozen : has s.group.dead j ≡ true → rank_at (event anc s ev).state j ≡ rank_at s j
  the_dead_are_frozen d = each-rank anc tree s ev j (reached_in_order anc n s run) (λ r r'. r' ≡ r) (λ r. refl) (λ k q f g l t. absurd (clash (has s.group.dead j) d l))

  -- Request 2026-04: owed never shrinks. Whom a rank owes it goes on owing.
  pub owed_never_shrinks : (q : ℕ) → has (rank_at s j).owed q ≡ true → has (rank_at (event anc s ev).state j).owed q ≡ true
  owed_never_shrinks q = each-rank anc tree s ev j (reached_in_order anc n s run) (λ r r'. has r.owed q ≡ true → has r'.owed q ≡ true) (λ r h. h) (λ k x f g l t. t.owed_stays q)
