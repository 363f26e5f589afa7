-- Each test of the list passes, by computation; and what follows: the premises of "nobody hangs" are met in a state with a death, and without
-- any one of them it is false; living ranks agree where dead ones held other results, and without "living" the agreement is false. Assumes
-- nothing.
use mathlib.Core.Path.{◌≡◌, refl, ap, subst, ◌∙◌}
use mathlib.Core.Bool.{Bool, true, false, cond, not, ◌||◌}
use mathlib.Core.List.{List, [], ◌∷◌}
use mathlib.Core.Logic.{◌⊎◌, inl, inr, ⊎_elim}
use Prim.Native.Nat.{ℕ, ◌<◌}
use native.Mathlib.Omega.{arith}
use lib.Dec.{eqb}
use lib.ListN.{get_or}
use borrow.Author.Tests.{eqb-true, eqb-false, eq-eqb, not-true}
use Rattle.sets.proofs.Laws.Bools.{clash, passes_or_fails, or_l, or_r, or_cases, all_head, all_tail}
use Rattle.sets.proofs.Laws.Members.{has-zero, minus-not}
use Rattle.sets.proofs.Laws.Searches.{every-at, every_i}
use Rattle.sets.specs.Sets.{has, only, union, meet, minus, add, below, set_of, count, largest, smallest, listed, every, all}
use Rattle.tree.proofs.Laws.Rows.{same-eq}
use Rattle.tree.specs.Calls.{and_then, moved_below, wrong_size, same}
use Rattle.calls.specs.Calls.{misshapen}
use Rattle.tree.specs.Tree.{lineage, ancestors, half, flat, parent, children, row, entry, fresh, moves, sized, moved}
use Rattle.tree.specs.Forms.{flat_form}
use Rattle.rank.specs.Records.{becoming, combining, concluding, owing, admitting, proposal, parent_of, children_of, awaiting, fresh_rank, hearing, viewing}
use Rattle.rank.specs.Rules.{in_phase, saying, deciding, settled, done, settling, entering, noting, raised, taking_up, lowered, taking_down, asked, taking_ask, renewing, regathering, orphaned, inheriting, bereaved, noticing, acknowledging}
use Rattle.rank.specs.Sends.{silent, reports, tells, asks, letter, letters}
use Rattle.rank.specs.declared.Triple.{Triple}
use Rattle.rank.specs.Words.{outside, decided}
use Rattle.rank.specs.Triples.{fresh_triple, combine, closing, code}
use Rattle.net.specs.Net.{joining, padded, without}
use Rattle.events.specs.Events.{event_of}
use Rattle.refusals.specs.Refusing.{wrong_kind, wrong_rank, no_message, is_dead, not_outside, is_living, is_last, both_live, late_refusal, refusal}
use Rattle.state.specs.Starting.{first_rank, first_row, fresh_state, started}
use Rattle.state.specs.States.{rank_at}
use Rattle.state.specs.declared.State.{State}
use Rattle.order.specs.Order.{proper, triple_within, is_zero, clauses, rank_in_order, is_within, member_in_order, zero_record, stranger_in_order, seat_in_order, seat_in_order_at, message_in_order, zero_place, place_in_order, place_in_order_at, in_order}
use Rattle.plans.specs.Plans.{subject, refusing, accepting, afterwards, fitting, delivered, acting, planned}
use Rattle.group.specs.Events.{posted, applied, refused, carried, subject_of, plan_of, stepped, event}
use Rattle.group.specs.Reaching.{Reaches, begun, next}
use Rattle.playing.specs.Playing.{Run, written, told}
use Rattle.files.specs.Files.{byte_at, short_at, number_at, event_at, events_in, wrong_mark, wrong_version, broken, header}
use Rattle.files.specs.Cases.{file}
use Rattle.schedule.specs.Runs.{refused_run}
use Rattle.schedule.specs.Steps.{stepping, stepped_on, stepped_run}
use Rattle.schedule.proofs.Laws.Steps.{run_steps}
use Rattle.schedule.specs.Samples.{then, three}
use Rattle.schedule.proofs.Reaching.{run_reaches}
use Rattle.agreement.specs.Progress.{Lives, Quiet, AllEntered, AllDeathsKnown, AllDecided}
use Rattle.agreement.specs.Agreement.{is_entry, has_entered, proposal_of}
use Rattle.agreement.specs.Witnesses.{mourned, absent, busy, untold, bereft, late, since, unheard, slice, runs, ended, is_quiet, all_entered, all_deaths_known, all_decided, shown, knows, LivesWith, DiedWith, witnesses}

pub the_tests_pass : all witnesses ≡ true
unfolding has only union meet minus add below set_of count largest smallest listed every all and_then moved_below wrong_size misshapen same lineage ancestors half flat parent children row entry fresh moves sized moved proper triple_within is_zero clauses rank_in_order becoming combining concluding owing admitting proposal parent_of children_of awaiting fresh_rank hearing viewing in_phase saying deciding settled done settling entering noting raised taking_up lowered taking_down asked taking_ask renewing regathering orphaned inheriting bereaved noticing acknowledging silent reports tells asks letter letters fresh_triple combine closing code subject refusing accepting afterwards fitting delivered acting planned posted joining applied carried subject_of plan_of stepped padded without is_within member_in_order zero_record stranger_in_order seat_in_order seat_in_order_at message_in_order zero_place place_in_order place_in_order_at in_order event wrong_kind wrong_rank no_message is_dead not_outside is_living is_last both_live late_refusal refusal first_rank first_row fresh_state started byte_at short_at number_at event_at events_in wrong_mark wrong_version broken header written told stepping stepped_on stepped_run refused_run then file three mourned absent busy untold bereft late since unheard slice runs ended is_quiet all_entered all_deaths_known all_decided shown knows witnesses
the_tests_pass = refl

-- ---- from the tests to the words

reached_end : (f : List ℕ) → runs f ≡ true → Reaches flat (byte_at f 5) (ended f)
unfolding runs ended
reached_end f t =
    let e = run_steps f slice in
    subst (Reaches flat (byte_at f 5)) (ap (λ (r : Run). r.state) e) (run_reaches f slice (ap (λ (r : Run). r.answer) e ∙ eqb-true (stepped_run f slice).answer 0 t))

quiet_end : (s : State) → is_quiet s ≡ true → Quiet s
unfolding is_quiet
quiet_end s t = eqb-true s.group.count 0 t

-- a test of every living rank
of_living : (n : ℕ) (s : State) (f : ℕ → Bool) → every (λ i. has s.group.dead i || f i) n ≡ true → (i : ℕ) → Lives n s i → f i ≡ true
of_living n s f t i l =
    ⊎_elim (λ (h : has s.group.dead i ≡ true). absurd (clash (has s.group.dead i) h l.1)) (λ (h : f i ≡ true). h)
    (or_cases (has s.group.dead i) (f i) (every-at (λ k. has s.group.dead k || f k) n i t l.0))

entered_end : (n : ℕ) (s : State) → all_entered n s ≡ true → AllEntered n s
unfolding all_entered
entered_end n s t i l = eqb-false (rank_at s i).phase outside (not-true (eqb (rank_at s i).phase outside) (of_living n s (λ k. not (eqb (rank_at s k).phase outside)) t i l))

known_end : (n : ℕ) (s : State) → all_deaths_known n s ≡ true → AllDeathsKnown n s
unfolding all_deaths_known
known_end n s t i k l h =
    minus-not s.group.dead (rank_at s i).marks k
    (ap (λ (w : ℕ). has w k) (eqb-true (minus s.group.dead (rank_at s i).marks) 0 (of_living n s (λ j. eqb (minus s.group.dead (rank_at s j).marks) 0) t i l)) ∙ has-zero k) h

undecided_end : (n : ℕ) (s : State) → not (all_decided n s) ≡ true → AllDecided n s → ⊥
unfolding all_decided
undecided_end n s t d =
    clash (every (λ i. has s.group.dead i || eqb (rank_at s i).phase decided) n)
    (every_i (λ i. has s.group.dead i || eqb (rank_at s i).phase decided) n (λ i l. go i l (passes_or_fails (has s.group.dead i))))
    (not-true (every (λ i. has s.group.dead i || eqb (rank_at s i).phase decided) n) t)
  where
    go : (i : ℕ) → i < n → (has s.group.dead i ≡ true) ⊎ (has s.group.dead i ≡ false) → has s.group.dead i || eqb (rank_at s i).phase decided ≡ true
    go i l (inl h) = or_l (has s.group.dead i) (eqb (rank_at s i).phase decided) h
    go i l (inr h) = or_r (has s.group.dead i) (eqb (rank_at s i).phase decided) (eq-eqb (rank_at s i).phase decided (d i (l, h)))

-- what is shown of a rank at its place in the list
shown-at : (s : State) (i : ℕ) (l : List ℕ) → same (shown s i) l ≡ true → (cond (has s.group.dead i) 0 1 ≡ get_or l 0 0) × ((rank_at s i).phase ≡ get_or l 1 0) × ((rank_at s i).result.word ≡ get_or l 2 0) × (code (rank_at s i).result ≡ get_or l 3 0)
unfolding shown
shown-at s i l t = let e : shown s i ≡ l = same-eq (shown s i) l t in (ap (λ (k : List ℕ). get_or k 0 0) e, ap (λ (k : List ℕ). get_or k 1 0) e, ap (λ (k : List ℕ). get_or k 2 0) e, ap (λ (k : List ℕ). get_or k 3 0) e)

lives_with : (n : ℕ) (s : State) (i w c : ℕ) → i < n → same (shown s i) (1 ∷ 3 ∷ w ∷ c ∷ []) ≡ true → LivesWith n s i w c
lives_with n s i w c l t = let h = shown-at s i (1 ∷ 3 ∷ w ∷ c ∷ []) t in (((l, alive (has s.group.dead i) h.0), h.1), h.2, h.3)
  where
    alive : (b : Bool) → ◌≡◌ {A = ℕ} (cond b 0 1) 1 → b ≡ false
    alive true e = absurd (omega arith)
    alive false e = refl

died_with : (n : ℕ) (s : State) (i w c : ℕ) → i < n → same (shown s i) (0 ∷ 3 ∷ w ∷ c ∷ []) ≡ true → DiedWith n s i w c
died_with n s i w c l t = let h = shown-at s i (0 ∷ 3 ∷ w ∷ c ∷ []) t in (l, died (has s.group.dead i) h.0, h.1, h.2, h.3)
  where
    died : (b : Bool) → ◌≡◌ {A = ℕ} (cond b 0 1) 0 → b ≡ true
    died true e = refl
    died false e = absurd (omega arith)

-- ---- each test by itself

abbrev Tests : Type 0
Tests =
    (runs mourned ≡ true)
    × (is_quiet (ended mourned) ≡ true)
    × (all_entered 3 (ended mourned) ≡ true)
    × (all_deaths_known 3 (ended mourned) ≡ true)
    × (has (ended mourned).group.dead 1 ≡ true)
    × (runs absent ≡ true)
    × (is_quiet (ended absent) ≡ true)
    × (all_deaths_known 2 (ended absent) ≡ true)
    × (not (all_decided 2 (ended absent)) ≡ true)
    × (runs busy ≡ true)
    × (all_entered 2 (ended busy) ≡ true)
    × (all_deaths_known 2 (ended busy) ≡ true)
    × (not (all_decided 2 (ended busy)) ≡ true)
    × (runs untold ≡ true)
    × (is_quiet (ended untold) ≡ true)
    × (all_entered 2 (ended untold) ≡ true)
    × (not (all_decided 2 (ended untold)) ≡ true)
    × (runs three ≡ true)
    × (same (shown (ended three) 0) (0 ∷ 3 ∷ 4 ∷ 0 ∷ []) ≡ true)
    × (same (shown (ended three) 1) (1 ∷ 3 ∷ 6 ∷ 1 ∷ []) ≡ true)
    × (same (shown (ended three) 2) (1 ∷ 3 ∷ 6 ∷ 1 ∷ []) ≡ true)
    × (runs bereft ≡ true)
    × (same (shown (ended bereft) 0) (0 ∷ 3 ∷ 8 ∷ 0 ∷ []) ≡ true)
    × (same (shown (ended bereft) 1) (0 ∷ 3 ∷ 12 ∷ 1 ∷ []) ≡ true)
    × (same (shown (ended bereft) 2) (1 ∷ 3 ∷ 14 ∷ 1 ∷ []) ≡ true)
    × (same (shown (ended bereft) 3) (1 ∷ 3 ∷ 14 ∷ 1 ∷ []) ≡ true)
    × (eqb (started flat 1 flat_form 1).answer 0 ≡ true)
    × (eqb (event flat (started flat 1 flat_form 1).state (event_of 1 0 9)).answer 0 ≡ true)
    × (runs late ≡ true)
    × (same (shown (ended late) 0) (1 ∷ 3 ∷ 5 ∷ 1 ∷ []) ≡ true)
    × (same (knows (ended late) 0) (2 ∷ 0 ∷ 2 ∷ []) ≡ true)
    × (runs since ≡ true)
    × (same (shown (ended since) 0) (1 ∷ 3 ∷ 5 ∷ 0 ∷ []) ≡ true)
    × (same (knows (ended since) 0) (2 ∷ 2 ∷ 6 ∷ []) ≡ true)
    × (runs unheard ≡ true)
    × (same (shown (ended unheard) 1) (1 ∷ 3 ∷ 4 ∷ 0 ∷ []) ≡ true)
    × (same (knows (ended unheard) 1) (0 ∷ 0 ∷ 4 ∷ []) ≡ true)

tests : Tests
unfolding witnesses
tests =
    let t0 : all witnesses ≡ true = the_tests_pass in
    let t1 = all_tail _ _ t0 in
    let t2 = all_tail _ _ t1 in
    let t3 = all_tail _ _ t2 in
    let t4 = all_tail _ _ t3 in
    let t5 = all_tail _ _ t4 in
    let t6 = all_tail _ _ t5 in
    let t7 = all_tail _ _ t6 in
    let t8 = all_tail _ _ t7 in
    let t9 = all_tail _ _ t8 in
    let t10 = all_tail _ _ t9 in
    let t11 = all_tail _ _ t10 in
    let t12 = all_tail _ _ t11 in
    let t13 = all_tail _ _ t12 in
    let t14 = all_tail _ _ t13 in
    let t15 = all_tail _ _ t14 in
    let t16 = all_tail _ _ t15 in
    let t17 = all_tail _ _ t16 in
    let t18 = all_tail _ _ t17 in
    let t19 = all_tail _ _ t18 in
    let t20 = all_tail _ _ t19 in
    let t21 = all_tail _ _ t20 in
    let t22 = all_tail _ _ t21 in
    let t23 = all_tail _ _ t22 in
    let t24 = all_tail _ _ t23 in
    let t25 = all_tail _ _ t24 in
    let t26 = all_tail _ _ t25 in
    let t27 = all_tail _ _ t26 in
    let t28 = all_tail _ _ t27 in
    let t29 = all_tail _ _ t28 in
    let t30 = all_tail _ _ t29 in
    let t31 = all_tail _ _ t30 in
    let t32 = all_tail _ _ t31 in
    let t33 = all_tail _ _ t32 in
    let t34 = all_tail _ _ t33 in
    let t35 = all_tail _ _ t34 in
    let t36 = all_tail _ _ t35 in
    (all_head _ _ t0, all_head _ _ t1, all_head _ _ t2, all_head _ _ t3, all_head _ _ t4, all_head _ _ t5, all_head _ _ t6, all_head _ _ t7, all_head _ _ t8, all_head _ _ t9, all_head _ _ t10, all_head _ _ t11, all_head _ _ t12, all_head _ _ t13, all_head _ _ t14, all_head _ _ t15, all_head _ _ t16, all_head _ _ t17, all_head _ _ t18, all_head _ _ t19, all_head _ _ t20, all_head _ _ t21, all_head _ _ t22, all_head _ _ t23, all_head _ _ t24, all_head _ _ t25, all_head _ _ t26, all_head _ _ t27, all_head _ _ t28, all_head _ _ t29, all_head _ _ t30, all_head _ _ t31, all_head _ _ t32, all_head _ _ t33, all_head _ _ t34, all_head _ _ t35, all_head _ _ t36)

size-mourned : byte_at mourned 5 ≡ 3
unfolding byte_at mourned then file
size-mourned = refl

size-absent : byte_at absent 5 ≡ 2
unfolding byte_at absent file
size-absent = refl

size-busy : byte_at busy 5 ≡ 2
unfolding byte_at busy then file
size-busy = refl

size-untold : byte_at untold 5 ≡ 2
unfolding byte_at untold then file
size-untold = refl

size-three : byte_at three 5 ≡ 3
unfolding byte_at three then file
size-three = refl

size-bereft : byte_at bereft 5 ≡ 4
unfolding byte_at bereft then file
size-bereft = refl

size-late : byte_at late 5 ≡ 2
unfolding byte_at late then file
size-late = refl

size-since : byte_at since 5 ≡ 3
unfolding byte_at since then file
size-since = refl

size-unheard : byte_at unheard 5 ≡ 3
unfolding byte_at unheard then file
size-unheard = refl

-- ---- the claim is not empty, and each premise is needed

-- A reached state that meets every premise, and has a death.
pub the_premises_are_met : Reaches flat 3 (ended mourned) × Quiet (ended mourned) × AllEntered 3 (ended mourned) × AllDeathsKnown 3 (ended mourned) × (has (ended mourned).group.dead 1 ≡ true)
the_premises_are_met = (
  subst (λ (n : ℕ). Reaches flat n (ended mourned)) size-mourned (reached_end mourned tests.0),
  quiet_end (ended mourned) tests.1,
  entered_end 3 (ended mourned) tests.2,
  known_end 3 (ended mourned) tests.3,
  tests.4,
)

-- Without "has entered" the claim is false: two ranks that never enter.
pub entry_is_needed : ((n : ℕ) (s : State) → Reaches flat n s → Quiet s → AllDeathsKnown n s → AllDecided n s) → ⊥
entry_is_needed h =
    undecided_end 2 (ended absent) tests.8
    (h 2 (ended absent) (subst (λ (n : ℕ). Reaches flat n (ended absent)) size-absent (reached_end absent tests.5)) (quiet_end (ended absent) tests.6) (known_end 2 (ended absent) tests.7))

-- Without "no message in flight": a report is on its way.
pub quiet_is_needed : ((n : ℕ) (s : State) → Reaches flat n s → AllEntered n s → AllDeathsKnown n s → AllDecided n s) → ⊥
quiet_is_needed h =
    undecided_end 2 (ended busy) tests.12
    (h 2 (ended busy) (subst (λ (n : ℕ). Reaches flat n (ended busy)) size-busy (reached_end busy tests.9)) (entered_end 2 (ended busy) tests.10) (known_end 2 (ended busy) tests.11))

-- Without "has marked every dead one": nobody tells a rank that its parent is dead.
pub notice_is_needed : ((n : ℕ) (s : State) → Reaches flat n s → Quiet s → AllEntered n s → AllDecided n s) → ⊥
notice_is_needed h =
    undecided_end 2 (ended untold) tests.16
    (h 2 (ended untold) (subst (λ (n : ℕ). Reaches flat n (ended untold)) size-untold (reached_end untold tests.13)) (quiet_end (ended untold) tests.14) (entered_end 2 (ended untold) tests.15))

-- ---- the agreement, and why it speaks of living ranks

-- Document 01's example: rank 0 decided 4 and died, and the living hold 6.
pub the_living_hold_6 : Reaches flat 3 (ended three) × DiedWith 3 (ended three) 0 4 0 × LivesWith 3 (ended three) 1 6 1 × LivesWith 3 (ended three) 2 6 1
the_living_hold_6 = (
  subst (λ (n : ℕ). Reaches flat n (ended three)) size-three (reached_end three tests.17),
  died_with 3 (ended three) 0 4 0 (omega arith) tests.18,
  lives_with 3 (ended three) 1 6 1 (omega arith) tests.19,
  lives_with 3 (ended three) 2 6 1 (omega arith) tests.20,
)

-- Two roots lost one after the other: each had decided for itself, and the living hold 14.
pub two_roots_lost : Reaches flat 4 (ended bereft) × DiedWith 4 (ended bereft) 0 8 0 × DiedWith 4 (ended bereft) 1 12 1 × LivesWith 4 (ended bereft) 2 14 1 × LivesWith 4 (ended bereft) 3 14 1
two_roots_lost = (
  subst (λ (n : ℕ). Reaches flat n (ended bereft)) size-bereft (reached_end bereft tests.21),
  died_with 4 (ended bereft) 0 8 0 (omega arith) tests.22,
  died_with 4 (ended bereft) 1 12 1 (omega arith) tests.23,
  lives_with 4 (ended bereft) 2 14 1 (omega arith) tests.24,
  lives_with 4 (ended bereft) 3 14 1 (omega arith) tests.25,
)

-- Without "living" the same result is not to be had: a dead rank may hold another.
pub living_is_needed : ((n : ℕ) (s : State) → Reaches flat n s → (i j : ℕ) → i < n → j < n → (rank_at s i).phase ≡ decided → (rank_at s j).phase ≡ decided → (rank_at s i).result ≡ (rank_at s j).result) → ⊥
living_is_needed h =
    let t = the_living_hold_6 in
    let e : (rank_at (ended three) 0).result.word ≡ (rank_at (ended three) 1).result.word = ap (λ (x : Triple). x.word) (h 3 (ended three) t.0 0 1 (omega arith) (omega arith) t.1.2 t.2.0.1) in
    let d : (rank_at (ended three) 0).result.word ≡ 4 = t.1.3 in
    let l : (rank_at (ended three) 1).result.word ≡ 6 = t.2.1 in
    omega arith

-- ---- the root's marks, the one addition

-- what a rank knows at its place in the list
knows_at : (s : State) (i : ℕ) (l : List ℕ) → same (knows s i) l ≡ true → ((rank_at s i).result.known ≡ get_or l 0 0) × ((rank_at s i).triple.known ≡ get_or l 1 0) × ((rank_at s i).marks ≡ get_or l 2 0)
unfolding knows
knows_at s i l t = let e : knows s i ≡ l = same-eq (knows s i) l t in (ap (λ (k : List ℕ). get_or k 0 0) e, ap (λ (k : List ℕ). get_or k 1 0) e, ap (λ (k : List ℕ). get_or k 2 0) e)

-- It can't be left out: the verdict knows of rank 1's death (the set 2), which nobody proposed, and so has code 1.
pub the_addition_is_needed : Reaches flat 2 (ended late) × LivesWith 2 (ended late) 0 5 1 × ((rank_at (ended late) 0).result.known ≡ 2) × ((rank_at (ended late) 0).triple.known ≡ 0)
the_addition_is_needed =
    let k = knows_at (ended late) 0 (2 ∷ 0 ∷ 2 ∷ []) tests.30 in
    (subst (λ (n : ℕ). Reaches flat n (ended late)) size-late (reached_end late tests.28), lives_with 2 (ended late) 0 5 1 (omega arith) tests.29, k.0, k.1)

-- It is not what the root has marked by now: the verdict knows of rank 1's death, and the root of rank 2's too (the set 6).
pub the_addition_is_not_the_present_marks : Reaches flat 3 (ended since) × LivesWith 3 (ended since) 0 5 0 × ((rank_at (ended since) 0).result.known ≡ 2) × ((rank_at (ended since) 0).marks ≡ 6)
the_addition_is_not_the_present_marks =
    let k = knows_at (ended since) 0 (2 ∷ 2 ∷ 6 ∷ []) tests.33 in
    (subst (λ (n : ℕ). Reaches flat n (ended since)) size-since (reached_end since tests.31), lives_with 3 (ended since) 0 5 0 (omega arith) tests.32, k.0, k.2)

-- What the rule does not do: rank 1 knew of rank 2's death (the set 4) when it reported, nobody had acknowledged it, and the code is 0.
pub a_death_that_the_verdict_does_not_know : Reaches flat 3 (ended unheard) × LivesWith 3 (ended unheard) 1 4 0 × ((rank_at (ended unheard) 1).result.known ≡ 0) × ((rank_at (ended unheard) 1).marks ≡ 4)
a_death_that_the_verdict_does_not_know =
    let k = knows_at (ended unheard) 1 (0 ∷ 0 ∷ 4 ∷ []) tests.36 in
    (subst (λ (n : ℕ). Reaches flat n (ended unheard)) size-unheard (reached_end unheard tests.34), lives_with 3 (ended unheard) 1 4 0 (omega arith) tests.35, k.0, k.2)

-- A rank alone that enters 9: the run has its entry, and what it proposed.
pub alone : Reaches flat 1 (event flat (started flat 1 flat_form 1).state (event_of 1 0 9)).state
alone = next (started flat 1 flat_form 1).state (event_of 1 0 9) (begun flat_form 1 (eqb-true (started flat 1 flat_form 1).answer 0 tests.26)) (eqb-true (event flat (started flat 1 flat_form 1).state (event_of 1 0 9)).answer 0 tests.27)

pub a_word_is_entered : (has_entered flat 1 (event flat (started flat 1 flat_form 1).state (event_of 1 0 9)).state alone 0 ≡ true) × ((proposal_of flat 1 (event flat (started flat 1 flat_form 1).state (event_of 1 0 9)).state alone 0).word ≡ 9)
unfolding has_entered proposal_of proposal is_entry alone
a_word_is_entered = (refl, refl)
