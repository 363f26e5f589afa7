-- What an accepted plan is. Assumes nothing.
use mathlib.Core.Path.{◌≡◌, sym, ap, subst, ◌∙◌}
use mathlib.Core.Bool.{true, false, cond}
use mathlib.Core.List.{List}
use mathlib.Core.Logic.{◌⊎◌, inl, inr}
use Prim.Native.Nat.{ℕ, ◌+◌, ◌-◌, ◌≤◌, ◌<◌}
use native.Mathlib.Omega.{arith}
use lib.Dec.{eqb, ltb}
use borrow.Author.Tests.{eqb-true, eqb-false, ltb-false}
use Rattle.sets.proofs.Laws.Bools.{passes_or_fails}
use Rattle.rank.specs.declared.Rank.{Rank}
use Rattle.rank.specs.declared.Message.{Message}
use Rattle.rank.specs.declared.Acted.{Acted}
use Rattle.rank.specs.Sends.{size}
use Rattle.events.specs.declared.Event.{Event}
use Rattle.events.specs.Events.{names_place}
use Rattle.refusals.specs.Refusing.{refusal}
use Rattle.refusals.proofs.Laws.Refusing.{Clean, refusal-none, clean_place}
use Rattle.plans.specs.Plans.{Planned, acting, refusing, accepting, afterwards, fitting, planned}

-- ---- what an accepted plan is

pub record Accepted (anc : ℕ → ℕ) (n dead c : ℕ) (ev : Event) (m : Message) (me : ℕ) (r : Rank) (row : List ℕ) (p : Planned) : Type 0 where
  pub clean : Clean n dead c ev r m
  pub leaves_is : p.leaves ≡ names_place ev.kind
  pub dies_is : p.dies ≡ eqb ev.kind 3
  pub acted_is : p.acted ≡ acting anc n dead ev m me r row
  pub room : c + size p.acted.first + size p.acted.second - cond p.leaves 1 0 ≤ 128

pub planned-accepted : (anc : ℕ → ℕ) (n dead c : ℕ) (ev : Event) (m : Message) (me : ℕ) (r : Rank) (row : List ℕ) (p : Planned) → p ≡ planned anc n dead c ev m me r row → p.answer ≡ 0 → Accepted anc n dead c ev m me r row p
unfolding planned fitting refusing accepting afterwards
planned-accepted anc n dead c ev m me r row p e z = first (passes_or_fails (eqb (refusal n dead c ev r m) 0))
  where
    x : Acted
    x = acting anc n dead ev m me r row

    t : ℕ
    t = c + size x.first + size x.second - cond (names_place ev.kind) 1 0

    second : refusal n dead c ev r m ≡ 0 → (ltb 128 t ≡ true) ⊎ (ltb 128 t ≡ false) → Accepted anc n dead c ev m me r row p
    second h (inl full) =
        let q : p ≡ refusing 11 r row = e ∙ rw (h, full) in
        absurd (let bad : p.answer ≡ 11 = ap (λ (y : Planned). y.answer) q in omega arith)
    second h (inr free) =
        let q : p ≡ accepting ev x = e ∙ rw (h, free) in
        record {
          clean = refusal-none n dead c ev r m h;
          leaves_is = ap (λ (y : Planned). y.leaves) q;
          dies_is = ap (λ (y : Planned). y.dies) q;
          acted_is = ap (λ (y : Planned). y.acted) q;
          room = subst (λ (y : Planned). c + size y.acted.first + size y.acted.second - cond y.leaves 1 0 ≤ 128) (sym q) (ltb-false 128 t free);
        }

    first : (eqb (refusal n dead c ev r m) 0 ≡ true) ⊎ (eqb (refusal n dead c ev r m) 0 ≡ false) → Accepted anc n dead c ev m me r row p
    first (inl h) = second (eqb-true (refusal n dead c ev r m) 0 h) (passes_or_fails (ltb 128 t))
    first (inr h) =
        let q : p ≡ refusing (refusal n dead c ev r m) r row = e ∙ rw h in
        absurd (eqb-false (refusal n dead c ev r m) 0 h (sym (ap (λ (y : Planned). y.answer) q) ∙ z))

pub step_place : (anc : ℕ → ℕ) (n dead c : ℕ) (ev : Event) (m : Message) (me : ℕ) (r : Rank) (row : List ℕ) (p : Planned) → p ≡ planned anc n dead c ev m me r row → p.answer ≡ 0 → p.leaves ≡ true → ev.a < c
step_place anc n dead c ev m me r row p e z t =
    let x = planned-accepted anc n dead c ev m me r row p e z in
    clean_place n dead c ev r m x.clean (sym x.leaves_is ∙ t)

pub step_room : (anc : ℕ → ℕ) (n dead c : ℕ) (ev : Event) (m : Message) (me : ℕ) (r : Rank) (row : List ℕ) (p : Planned) → p ≡ planned anc n dead c ev m me r row → p.answer ≡ 0
    → c + size p.acted.first + size p.acted.second - cond p.leaves 1 0 ≤ 128
step_room anc n dead c ev m me r row p e z = (planned-accepted anc n dead c ev m me r row p e z).room
