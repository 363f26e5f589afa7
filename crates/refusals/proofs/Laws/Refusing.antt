-- Refusals along their code: the tests on the way pick the definition's case. Assumes nothing.
use mathlib.Core.Path.{◌≡◌, refl, sym, ap, ◌∙◌}
use mathlib.Core.Bool.{Bool, true, false, cond, not, ◌&&◌, ◌||◌}
use mathlib.Core.Logic.{◌⊎◌, inl, inr}
use Prim.Native.Nat.{ℕ, ◌≤◌, ◌<◌, ◌^◌}
use native.Mathlib.Omega.{arith}
use lib.Dec.{eqb, leb}
use borrow.Author.Tests.{eqb-true, eq-eqb, ne_eqb, leb-false, le-leb, lt-leb}
use Rattle.std.specs.Prelude.{Result, Ok, Err}
use Rattle.answers.specs.declared.Refusal.{Refusal}
use Rattle.answers.specs.Answers.{number, answer_of}
use Rattle.answers.proofs.Laws.Numbers.{number-one_to_one, number-not_0}
use Rattle.sets.specs.Sets.{has, only, minus, below}
use Rattle.sets.proofs.Laws.Bools.{passes_or_fails, passes, and_i, clash, fails, or_l, or_r, or-none, or_neither, not_i}
use Rattle.sets.proofs.Laws.Members.{has-high}
use Rattle.rank.specs.declared.Rank.{Rank}
use Rattle.rank.specs.declared.Message.{Message}
use Rattle.rank.specs.Words.{outside}
use Rattle.events.specs.declared.Event.{Event}
use Rattle.events.specs.Events.{names_rank, names_place}
use Rattle.events.proofs.Laws.Naming.{names_a_rank, rank_kinds}
use Rattle.refusals.specs.Refusing.{is_last, wrong_kind, wrong_rank, no_message, is_dead, not_outside, is_living, both_live, late_refusal, refusal}

-- a number that is no rank of a word names nobody in it
pub nobody : (w a : ℕ) → w < 2 ^ 64 → 64 ≤ a → false ≡ has w a
nobody w a h l = sym (has-high w 64 a h l)

-- a kind that is not refused and names no place names a rank
pub names_one : (ev : Event) → wrong_kind ev ≡ false → names_place ev.kind ≡ false → names_rank ev.kind ≡ true
unfolding wrong_kind
names_one ev k p =
    passes (names_rank ev.kind) (λ h. clash (not (names_rank ev.kind || names_place ev.kind) || (names_place ev.kind || eqb ev.kind 3 || eqb ev.kind 6) && not (eqb ev.b 0)) (or_l (not (names_rank ev.kind || names_place ev.kind)) ((names_place ev.kind || eqb ev.kind 3 || eqb ev.kind 6) && not (eqb ev.b 0)) (not_i (names_rank ev.kind || names_place ev.kind) (or-none (names_rank ev.kind) (names_place ev.kind) h p))) k)

-- a rank that is named is below n
pub rank_below : (t : Bool) (n : ℕ) (ev : Event) → t ≡ wrong_rank n ev → t ≡ false → names_rank ev.kind ≡ true → ev.a < n
unfolding wrong_rank
rank_below t n ev e f p = leb-false n ev.a (rw p at (or_neither (names_rank ev.kind && leb n ev.a) (eqb ev.kind 4 && leb n ev.b) (sym e ∙ f)).0)

-- and so is one that is told of
pub told_below : (t : Bool) (n : ℕ) (ev : Event) → t ≡ wrong_rank n ev → t ≡ false → ev.kind ≡ 4 → ev.b < n
unfolding wrong_rank
told_below t n ev e f k = leb-false n ev.b (rw (eq-eqb ev.kind 4 k) at (or_neither (names_rank ev.kind && leb n ev.a) (eqb ev.kind 4 && leb n ev.b) (sym e ∙ f)).1)

crash_kind : (kind : ℕ) → (kind ≡ 1) ⊎ ((kind ≡ 3) ⊎ ((kind ≡ 4) ⊎ (kind ≡ 6))) → ((kind ≡ 1) ⊎ (kind ≡ 6) → ⊥) → (kind ≡ 4 → ⊥) → kind ≡ 3
crash_kind kind (inl e) x y = absurd (x (inl e))
crash_kind kind (inr (inl e)) x y = e
crash_kind kind (inr (inr (inl e))) x y = absurd (y e)
crash_kind kind (inr (inr (inr e))) x y = absurd (x (inr e))

not_loss : (kind : ℕ) → (kind ≡ 1) ⊎ ((kind ≡ 3) ⊎ ((kind ≡ 4) ⊎ (kind ≡ 6))) → eqb kind 5 ≡ false
not_loss kind (inl e) = rw e
not_loss kind (inr (inl e)) = rw e
not_loss kind (inr (inr (inl e))) = rw e
not_loss kind (inr (inr (inr e))) = rw e

module _ (n dead count : ℕ) (ev : Event) (r : Rank) (m : Message) where
  pub refusal_3 : (t : Bool) → t ≡ wrong_kind ev → t ≡ true → 3 ≡ refusal n dead count ev r m
  unfolding refusal
  refusal_3 t e f = rw (sym e ∙ f)

  -- ---- an event that names a place

  place_refusal : wrong_kind ev ≡ false → names_place ev.kind ≡ true → refusal n dead count ev r m ≡ cond (leb count ev.a) 5 (cond (both_live dead ev m) 10 0)
  unfolding refusal late_refusal wrong_rank no_message is_dead not_outside is_living is_last
  place_refusal k p = rw (k, no_rank_lem, other 4 (λ e. inr (inr (inl e))), p, other 1 (λ e. inl e), other 6 (λ e. inr (inr (inr e))), other 3 (λ e. inr (inl e)))
    where
      no_rank_lem : names_rank ev.kind ≡ false
      no_rank_lem = fails (names_rank ev.kind) (λ t. clash (names_place ev.kind) p (names_a_rank ev.kind (rank_kinds ev.kind t)).1)

      other : (j : ℕ) → (ev.kind ≡ j → (ev.kind ≡ 1) ⊎ ((ev.kind ≡ 3) ⊎ ((ev.kind ≡ 4) ⊎ (ev.kind ≡ 6)))) → eqb ev.kind j ≡ false
      other j f = ne_eqb ev.kind j (λ e. clash (names_place ev.kind) p (names_a_rank ev.kind (f e)).1)

  pub place_5 : wrong_kind ev ≡ false → names_place ev.kind ≡ true → count ≤ ev.a → 5 ≡ refusal n dead count ev r m
  place_5 k p l = rw (place_refusal k p, le-leb count ev.a l)

  pub place_loss : (z : ℕ) → wrong_kind ev ≡ false → names_place ev.kind ≡ true → ev.a < count → ev.kind ≡ 5 → z ≡ cond (not (has dead m.from) && not (has dead m.to)) 10 0
      → z ≡ refusal n dead count ev r m
  unfolding both_live
  place_loss z k p l e h = rw (place_refusal k p, lt-leb count ev.a l, eq-eqb ev.kind 5 e) h

  pub place_0 : wrong_kind ev ≡ false → names_place ev.kind ≡ true → ev.a < count → (ev.kind ≡ 5 → ⊥) → 0 ≡ refusal n dead count ev r m
  unfolding both_live
  place_0 k p l x = rw (place_refusal k p, lt-leb count ev.a l, ne_eqb ev.kind 5 x)

  -- ---- an event that names a rank

  rank-refusal : wrong_kind ev ≡ false → names_rank ev.kind ≡ true
      → refusal n dead count ev r m ≡ cond (wrong_rank n ev) 4 (cond (has dead ev.a) 6 (cond (not_outside ev r) 7 (cond (is_living dead ev) 8 (cond (is_last n dead ev) 9 0))))
  unfolding refusal late_refusal no_message is_dead both_live
  rank-refusal k p = rw (k, (names_a_rank ev.kind (rank_kinds ev.kind p)).1, p, not_loss ev.kind (rank_kinds ev.kind p))

  pub rank_4 : (t : Bool) → wrong_kind ev ≡ false → names_rank ev.kind ≡ true → t ≡ wrong_rank n ev → t ≡ true → 4 ≡ refusal n dead count ev r m
  rank_4 t k p e f = rw (rank-refusal k p, sym e ∙ f)

  pub rank_6 : (t u : Bool) → wrong_kind ev ≡ false → names_rank ev.kind ≡ true → t ≡ wrong_rank n ev → t ≡ false → u ≡ has dead ev.a → u ≡ true → 6 ≡ refusal n dead count ev r m
  rank_6 t u k p e f g h = rw (rank-refusal k p, sym e ∙ f, sym g ∙ h)

  pub rank-outside : (t u : Bool) (z : ℕ) → wrong_kind ev ≡ false → names_rank ev.kind ≡ true → t ≡ wrong_rank n ev → t ≡ false → u ≡ has dead ev.a → u ≡ false
      → (ev.kind ≡ 1) ⊎ (ev.kind ≡ 6) → z ≡ cond (not (eqb r.phase outside)) 7 0 → z ≡ refusal n dead count ev r m
  unfolding not_outside is_living is_last
  rank-outside t u z k p e f g h (inl j) y = rw (rank-refusal k p, sym e ∙ f, sym g ∙ h, j) y
  rank-outside t u z k p e f g h (inr j) y = rw (rank-refusal k p, sym e ∙ f, sym g ∙ h, j) y

  pub rank-notice : (t u : Bool) (z : ℕ) → wrong_kind ev ≡ false → names_rank ev.kind ≡ true → t ≡ wrong_rank n ev → t ≡ false → u ≡ has dead ev.a → u ≡ false
      → ev.kind ≡ 4 → z ≡ cond (not (has dead ev.b)) 8 0 → z ≡ refusal n dead count ev r m
  unfolding not_outside is_living is_last
  rank-notice t u z k p e f g h j y = rw (rank-refusal k p, sym e ∙ f, sym g ∙ h, j) y

  pub rank_crash : (t u : Bool) (z : ℕ) → wrong_kind ev ≡ false → names_rank ev.kind ≡ true → t ≡ wrong_rank n ev → t ≡ false → u ≡ has dead ev.a → u ≡ false
      → ((ev.kind ≡ 1) ⊎ (ev.kind ≡ 6) → ⊥) → (ev.kind ≡ 4 → ⊥) → z ≡ cond (eqb (minus (below n) dead) (only ev.a)) 9 0 → z ≡ refusal n dead count ev r m
  unfolding not_outside is_living is_last
  rank_crash t u z k p e f g h i j y = rw (rank-refusal k p, sym e ∙ f, sym g ∙ h, crash_kind ev.kind (rank_kinds ev.kind p) i j) y

-- ---- an event that none of these refuse

pub record Clean (n dead count : ℕ) (ev : Event) (r : Rank) (m : Message) : Type 0 where
  pub kind_right : wrong_kind ev ≡ false
  pub rank_right : wrong_rank n ev ≡ false
  pub place_right : no_message count ev ≡ false
  pub alive : is_dead dead ev ≡ false
  pub is_outside : not_outside ev r ≡ false
  pub told_dead : is_living dead ev ≡ false
  pub others_live : is_last n dead ev ≡ false
  pub end_dead : both_live dead ev m ≡ false

cond-zero : (t : Bool) (k rest : ℕ) → (k ≡ 0 → ⊥) → cond t k rest ≡ 0 → (t ≡ false) × (rest ≡ 0)
cond-zero true k rest h e = absurd (h e)
cond-zero false k rest h e = (refl, e)

pub refusal-none : (n dead count : ℕ) (ev : Event) (r : Rank) (m : Message) → refusal n dead count ev r m ≡ 0 → Clean n dead count ev r m
unfolding refusal late_refusal
refusal-none n dead count ev r m e =
    let t3 = cond-zero (wrong_kind ev) 3 _ (λ x. omega arith) e in
    let t4 = cond-zero (wrong_rank n ev) 4 _ (λ x. omega arith) t3.1 in
    let t5 = cond-zero (no_message count ev) 5 _ (λ x. omega arith) t4.1 in
    let t6 = cond-zero (is_dead dead ev) 6 _ (λ x. omega arith) t5.1 in
    let t7 = cond-zero (not_outside ev r) 7 _ (λ x. omega arith) t6.1 in
    let t8 = cond-zero (is_living dead ev) 8 _ (λ x. omega arith) t7.1 in
    let t9 = cond-zero (is_last n dead ev) 9 _ (λ x. omega arith) t8.1 in
    let t10 = cond-zero (both_live dead ev m) 10 0 (λ x. omega arith) t9.1 in
    record { kind_right = t3.0; rank_right = t4.0; place_right = t5.0; alive = t6.0; is_outside = t7.0; told_dead = t8.0; others_live = t9.0; end_dead = t10.0 }

-- a kind that names no place names a rank
pub clean_names : (n dead c : ℕ) (ev : Event) (r : Rank) (m : Message) → Clean n dead c ev r m → names_place ev.kind ≡ false → names_rank ev.kind ≡ true
clean_names n dead c ev r m x t = names_one ev x.kind_right t

-- a place that is named holds a message
pub clean_place : (n dead c : ℕ) (ev : Event) (r : Rank) (m : Message) → Clean n dead c ev r m → names_place ev.kind ≡ true → ev.a < c
unfolding no_message
clean_place n dead c ev r m x t = leb-false c ev.a (fails (leb c ev.a) (λ h. clash (names_place ev.kind && leb c ev.a) (and_i (names_place ev.kind) (leb c ev.a) t h) x.place_right))

-- a rank that is named is below n and living, and the event is about it
pub clean_rank : (n dead c : ℕ) (ev : Event) (r : Rank) (m : Message) → Clean n dead c ev r m → names_rank ev.kind ≡ true → (ev.a < n) × (has dead ev.a ≡ false)
unfolding is_dead
clean_rank n dead c ev r m x t = (
  rank_below (wrong_rank n ev) n ev refl x.rank_right t,
  fails (has dead ev.a) (λ h. clash (names_rank ev.kind && has dead ev.a) (and_i (names_rank ev.kind) (has dead ev.a) t h) x.alive),
)

-- and the rank that it is told of is below n
pub clean_notice : (n dead c : ℕ) (ev : Event) (r : Rank) (m : Message) → Clean n dead c ev r m → ev.kind ≡ 4 → ev.b < n
clean_notice n dead c ev r m x k = told_below (wrong_rank n ev) n ev refl x.rank_right k

-- a notice that is not refused names a rank of the group
pub notice_names : (n dead count : ℕ) (ev : Event) (r : Rank) (m : Message) → refusal n dead count ev r m ≡ 0 → ev.kind ≡ 4 → ev.b < n
notice_names n dead count ev r m e = clean_notice n dead count ev r m (refusal-none n dead count ev r m e)

-- who enters is outside, and so is who acknowledges
stands_outside : (n dead c : ℕ) (ev : Event) (r : Rank) (m : Message) → Clean n dead c ev r m → eqb ev.kind 1 || eqb ev.kind 6 ≡ true → r.phase ≡ outside
unfolding not_outside
stands_outside n dead c ev r m x k =
    eqb-true r.phase outside (passes (eqb r.phase outside)
    (λ h. clash ((eqb ev.kind 1 || eqb ev.kind 6) && not (eqb r.phase outside)) (and_i (eqb ev.kind 1 || eqb ev.kind 6) (not (eqb r.phase outside)) k (not_i (eqb r.phase outside) h)) x.is_outside))

pub clean_outside : (n dead c : ℕ) (ev : Event) (r : Rank) (m : Message) → Clean n dead c ev r m → ev.kind ≡ 1 → r.phase ≡ outside
clean_outside n dead c ev r m x k = stands_outside n dead c ev r m x (or_l (eqb ev.kind 1) (eqb ev.kind 6) (eq-eqb ev.kind 1 k))

pub clean_acknowledge : (n dead c : ℕ) (ev : Event) (r : Rank) (m : Message) → Clean n dead c ev r m → ev.kind ≡ 6 → r.phase ≡ outside
clean_acknowledge n dead c ev r m x k = stands_outside n dead c ev r m x (or_r (eqb ev.kind 1) (eqb ev.kind 6) (eq-eqb ev.kind 6 k))

-- who is told of is dead
pub clean_told : (n dead c : ℕ) (ev : Event) (r : Rank) (m : Message) → Clean n dead c ev r m → ev.kind ≡ 4 → has dead ev.b ≡ true
unfolding is_living
clean_told n dead c ev r m x k = passes (has dead ev.b) (λ h. clash (eqb ev.kind 4 && not (has dead ev.b)) (and_i (eqb ev.kind 4) (not (has dead ev.b)) (eq-eqb ev.kind 4 k) (not_i (has dead ev.b) h)) x.told_dead)

-- who crashes is not the only living rank
pub clean_others : (n dead c : ℕ) (ev : Event) (r : Rank) (m : Message) → Clean n dead c ev r m → ev.kind ≡ 3 → minus (below n) dead ≡ only ev.a → ⊥
unfolding is_last
clean_others n dead c ev r m x k e = clash (eqb ev.kind 3 && eqb (minus (below n) dead) (only ev.a)) (and_i (eqb ev.kind 3) (eqb (minus (below n) dead) (only ev.a)) (eq-eqb ev.kind 3 k) (eq-eqb (minus (below n) dead) (only ev.a) e)) x.others_live

-- what is lost has a dead end
pub clean_end : (n dead c : ℕ) (ev : Event) (r : Rank) (m : Message) → Clean n dead c ev r m → ev.kind ≡ 5 → (has dead m.from ≡ true) ⊎ (has dead m.to ≡ true)
unfolding both_live
clean_end n dead c ev r m x k = go (passes_or_fails (has dead m.from)) (passes_or_fails (has dead m.to))
  where
    go : (has dead m.from ≡ true) ⊎ (has dead m.from ≡ false) → (has dead m.to ≡ true) ⊎ (has dead m.to ≡ false) → (has dead m.from ≡ true) ⊎ (has dead m.to ≡ true)
    go (inl u) v = inl u
    go (inr u) (inl v) = inr v
    go (inr u) (inr v) =
        absurd (clash (eqb ev.kind 5 && not (has dead m.from) && not (has dead m.to))
        (and_i (eqb ev.kind 5 && not (has dead m.from)) (not (has dead m.to)) (and_i (eqb ev.kind 5) (not (has dead m.from)) (eq-eqb ev.kind 5 k) (not_i (has dead m.from) u)) (not_i (has dead m.to) v))
        x.end_dead)

-- ---- the answer's number

pub same_answer : (x y : Result (Unit {0}) Refusal) → answer_of x ≡ answer_of y → x ≡ y
same_answer (Ok x) (Ok y) e = refl
same_answer (Ok x) (Err b) e = absurd (clash (eqb (number b) 0) (eq-eqb (number b) 0 (sym e)) (number-not_0 b))
same_answer (Err a) (Ok y) e = absurd (clash (eqb (number a) 0) (eq-eqb (number a) 0 e) (number-not_0 a))
same_answer (Err a) (Err b) e = ap Err (number-one_to_one a b e)
