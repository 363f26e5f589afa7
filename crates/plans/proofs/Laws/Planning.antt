-- Planning along its code: what an event has its rank do, and whether there is room. Assumes nothing.
use mathlib.Core.Path.{◌≡◌, refl, sym, ap, ◌∙◌}
use mathlib.Core.Bool.{Bool, true, false, cond, ◌&&◌}
use mathlib.Core.List.{List}
use mathlib.Core.Logic.{◌⊎◌, inl, inr}
use Prim.Native.Nat.{ℕ, ◌+◌, ◌-◌, ◌≤◌, ◌<◌}
use native.Mathlib.Omega.{arith}
use lib.Dec.{eqb, ltb}
use lib.ListN.{length}
use borrow.Author.Tests.{eq-eqb, eqb-true, ne_eqb, lt-ltb, le-ltb}
use Rattle.std.specs.Prelude.{Result, Ok, Err}
use Rattle.sets.specs.Sets.{has}
use Rattle.sets.proofs.Laws.Bools.{lt-or-le, clash, and_l, and_r}
use Rattle.answers.specs.declared.Refusal.{Refusal}
use Rattle.answers.specs.Answers.{number}
use Rattle.answers.proofs.Laws.Numbers.{number-one_to_one, number-not_0}
use Rattle.rank.specs.declared.Rank.{Rank}
use Rattle.rank.specs.declared.Message.{Message}
use Rattle.rank.specs.declared.Acted.{Acted}
use Rattle.rank.specs.Rules.{entering, noticing, acknowledging}
use Rattle.rank.proofs.Laws.Letters.{length-letters, letters-silent}
use Rattle.rank.proofs.Laws.Knowing.{notice_known}
use Rattle.tree.specs.Tree.{fresh}
use Rattle.rank.specs.Sends.{silent, size}
use Rattle.events.specs.declared.Event.{Event}
use Rattle.events.specs.Events.{names_place}
use Rattle.refusals.specs.Refusing.{refusal}
use Rattle.plans.specs.declared.Plan.{Plan}
use Rattle.plans.specs.declared.NotPlanned.{NotPlanned}
use Rattle.plans.specs.Plans.{Planned, idle, subject, delivered, acting, refusing, accepting, afterwards, fitting, planned, as_planned, told}

pub silent_size : size silent ≡ 0
silent_size = sym (length-letters 0 silent) ∙ ap length (letters-silent 0)

-- ---- the subject

pub subject_receiver : (n : ℕ) (ev : Event) (m : Message) (t : Bool) → t ≡ names_place ev.kind → t ≡ true → m.to ≡ subject n ev m
unfolding subject
subject_receiver n ev m t e f = rw (sym e ∙ f)

pub subject-named : (n : ℕ) (ev : Event) (m : Message) (t : Bool) → t ≡ names_place ev.kind → t ≡ false → ev.a < n → ev.a ≡ subject n ev m
unfolding subject
subject-named n ev m t e f l = rw (sym e ∙ f, lt-ltb ev.a n l)

-- it is a rank of the group
pub subject_in : (n : ℕ) (ev : Event) (m : Message) → 0 < n → m.to < n → subject n ev m < n
unfolding subject
subject_in n ev m low inside = go (names_place ev.kind) (lt-or-le ev.a n)
  where
    go : (t : Bool) → (ev.a < n) ⊎ (n ≤ ev.a) → cond t m.to (cond (ltb ev.a n) ev.a 0) < n
    go true h = inside
    go false (inl l) = rw (lt-ltb ev.a n l) l
    go false (inr l) = rw (le-ltb ev.a n l) low

module _ (anc : ℕ → ℕ) (n dead : ℕ) where
  -- ---- what the event has its rank do

  pub act-enters : (ev : Event) (m : Message) (me : ℕ) (r : Rank) (row : List ℕ) (a : Acted) → ev.kind ≡ 1 → a ≡ entering anc n me ev.b r → a ≡ acting anc n dead ev m me r row
  unfolding acting
  act-enters ev m me r row a k e = e ∙ rw k

  pub act-delivers : (ev : Event) (m : Message) (me : ℕ) (r : Rank) (row : List ℕ) (a : Acted) → ev.kind ≡ 2 → a ≡ delivered anc n dead me m r row → a ≡ acting anc n dead ev m me r row
  unfolding acting
  act-delivers ev m me r row a k e = e ∙ rw k

  pub act-notices : (ev : Event) (m : Message) (me : ℕ) (r : Rank) (row : List ℕ) (a : Acted) → ev.kind ≡ 4 → a ≡ noticing anc n me ev.b r → a ≡ acting anc n dead ev m me r row
  unfolding acting
  act-notices ev m me r row a k e = e ∙ rw k

  pub act-acknowledges : (ev : Event) (m : Message) (me : ℕ) (r : Rank) (row : List ℕ) (a : Acted) → ev.kind ≡ 6 → a ≡ acknowledging anc n me r → a ≡ acting anc n dead ev m me r row
  unfolding acting
  act-acknowledges ev m me r row a k e = e ∙ rw k

  pub act-nothing : (ev : Event) (m : Message) (me : ℕ) (r : Rank) (row : List ℕ) (a : Acted) → (ev.kind ≡ 1 → ⊥) → (ev.kind ≡ 2 → ⊥) → (ev.kind ≡ 4 → ⊥) → (ev.kind ≡ 6 → ⊥) → a ≡ idle r row → a ≡ acting anc n dead ev m me r row
  unfolding acting
  act-nothing ev m me r row a h i j k e = e ∙ rw (ne_eqb ev.kind 1 h, ne_eqb ev.kind 2 i, ne_eqb ev.kind 4 j, ne_eqb ev.kind 6 k)

  -- ---- the plan

  pub plan_refused : (c : ℕ) (ev : Event) (m : Message) (me : ℕ) (r : Rank) (row : List ℕ) (e : Refusal) → number e ≡ refusal n dead c ev r m
      → refusing (number e) r row ≡ planned anc n dead c ev m me r row
  unfolding planned
  plan_refused c ev m me r row e h = rw (← h, number-not_0 e)

  -- a death that is known changes nothing
  pub known_plan : (c : ℕ) (ev : Event) (m : Message) (me : ℕ) (r : Rank) (row : List ℕ) → refusal n dead c ev r m ≡ 0 → (eqb ev.kind 4 && has r.marks ev.b) ≡ true → c ≤ 128 → row ≡ fresh anc n r.marks
      → as_planned (record { leaves = false; dies = false; acted = idle r row }) ≡ planned anc n dead c ev m me r row
  unfolding planned fitting afterwards accepting acting
  known_plan c ev m me r row z k b t =
      let kind : ev.kind ≡ 4 = eqb-true ev.kind 4 (and_l (eqb ev.kind 4) (has r.marks ev.b) k) in
      let marked : has r.marks ev.b ≡ true = and_r (eqb ev.kind 4) (has r.marks ev.b) k in
      let room : ltb 128 (c + size silent + size silent - 0) ≡ false = le-ltb 128 (c + size silent + size silent - 0) (omega (arith, silent_size, b)) in
      rw (z, kind, sym (notice_known anc n me ev.b r row marked t), room) refl

  -- a draft that has room is the plan, and one that has none is refused with 11
  module _ (c : ℕ) (ev : Event) (m : Message) (me : ℕ) (r : Rank) (row : List ℕ) (p : Plan) (x : ℕ) (clean : refusal n dead c ev r m ≡ 0) (drafted : as_planned p ≡ accepting ev (acting anc n dead ev m me r row)) (sum : x ≡ c + size p.acted.first + size p.acted.second - cond p.leaves 1 0) where
    then_flying : x ≡ afterwards c ev (acting anc n dead ev m me r row)
    unfolding afterwards accepting
    then_flying = sum ∙ ap (λ (y : Planned). c + size y.acted.first + size y.acted.second - cond y.leaves 1 0) drafted

    pub draft_fits : x ≤ 128 → as_planned p ≡ planned anc n dead c ev m me r row
    unfolding planned fitting
    draft_fits l = rw (clean, sym (ap (ltb 128) then_flying) ∙ le-ltb 128 x l) drafted

    pub draft_full : 128 < x → refusing 11 r row ≡ planned anc n dead c ev m me r row
    unfolding planned fitting
    draft_full l = rw (clean, sym (ap (ltb 128) then_flying) ∙ lt-ltb 128 x l) refl

-- ---- what is told of an answer says which answer it is

pub same_plan : (p q : Plan) → as_planned p ≡ as_planned q → p ≡ q
same_plan p q e = λ i. record { leaves = (e i).leaves; dies = (e i).dies; acted = (e i).acted }

refuses : (r : Rank) (row : List ℕ) (p : Plan) (e : Refusal) → as_planned p ≡ refusing (number e) r row → ⊥
unfolding refusing
refuses r row p e h = clash (eqb (number e) 0) (eq-eqb (number e) 0 (sym (ap (λ (x : Planned). x.answer) h))) (number-not_0 e)

pub refusing-answer : (a : ℕ) (r : Rank) (row : List ℕ) → (refusing a r row).answer ≡ a
unfolding refusing
refusing-answer a r row = refl

pub told_same : (x y : Result Plan NotPlanned) → told x ≡ told y → x ≡ y
unfolding refusing
told_same (Ok p) (Ok q) e = ap Ok (same_plan p q e)
told_same (Ok p) (Err b) e = absurd (refuses b.rank b.row p b.refusal e)
told_same (Err a) (Ok q) e = absurd (refuses a.rank a.row q a.refusal (sym e))
told_same (Err a) (Err b) e = λ i. Err (record {
  refusal = number-one_to_one a.refusal b.refusal (ap (λ (x : Planned). x.answer) e) i;
  rank = (e i).acted.rank;
  row = (e i).acted.row;
})
