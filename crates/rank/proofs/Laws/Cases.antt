-- One eliminator for each rule: what holds in each of its cases holds of the rule. Later laws use these and open no rule.
-- Assumes nothing.
use mathlib.Core.Path.{◌≡◌, refl}
use mathlib.Core.Bool.{Bool, true, false, cond, ◌&&◌, ◌||◌}
use mathlib.Core.Logic.{◌⊎◌, inl, inr, ⊎_elim}
use Prim.Native.Nat.{ℕ}
use lib.Dec.{eqb}
use borrow.Author.Tests.{eq-eqb, eqb-true, eqb-false}
use Rattle.sets.specs.Sets.{none, has, only}
use Rattle.sets.proofs.Laws.Bools.{and_i, and_l, and_r, or_l, or_r, or_cases, clash}
use Rattle.rank.specs.declared.Rank.{Rank}
use Rattle.rank.specs.declared.Said.{Said}
use Rattle.rank.specs.declared.Triple.{Triple}
use Rattle.rank.specs.Words.{gathering, waiting, decided}
use Rattle.rank.specs.Triples.{closing}
use Rattle.rank.specs.Records.{becoming, owing, parent_of, children_of}
use Rattle.rank.specs.Sends.{silent, reports, tells}
use Rattle.rank.specs.Rules.{in_phase, saying, deciding, settled, noting, raised, lowered, asked, renewing, regathering, orphaned, inheriting, bereaved}

-- a rule by a test: what holds either way holds of it
pub by_test : {A : Type 0} (P : A → Type 0) (b : Bool) (x y : A) → (b ≡ true → P x) → (b ≡ false → P y) → P (cond b x y)
by_test P true x y f g = f refl
by_test P false x y f g = g refl

module _ (anc : ℕ → ℕ) (n me : ℕ) where
  pub settled_by : (P : Said → Type 0) (r : Rank)
      → ((r.phase ≡ gathering → r.awaited ≡ 0 → ⊥) → P (saying r silent))
      → (r.phase ≡ gathering → r.awaited ≡ 0 → parent_of anc me r ≡ none → P (deciding anc n me (closing r.marks r.triple) r))
      → (r.phase ≡ gathering → r.awaited ≡ 0 → (parent_of anc me r ≡ none → ⊥) → P (saying (becoming waiting r) (reports r (parent_of anc me r))))
      → P (settled anc n me r)
  unfolding settled in_phase
  settled_by P r still root child =
      by_test P (in_phase gathering r && eqb r.awaited 0) (cond (eqb (parent_of anc me r) none) (deciding anc n me (closing r.marks r.triple) r) (saying (becoming waiting r) (reports r (parent_of anc me r)))) (saying r silent)
      (λ t.
      let p : r.phase ≡ gathering = eqb-true r.phase gathering (and_l (eqb r.phase gathering) (eqb r.awaited 0) t) in
      let a : r.awaited ≡ 0 = eqb-true r.awaited 0 (and_r (eqb r.phase gathering) (eqb r.awaited 0) t) in
      by_test P (eqb (parent_of anc me r) none) (deciding anc n me (closing r.marks r.triple) r) (saying (becoming waiting r) (reports r (parent_of anc me r)))
      (λ e. root p a (eqb-true (parent_of anc me r) none e)) (λ e. child p a (eqb-false (parent_of anc me r) none e)))
      (λ t. still (λ p a. clash (eqb r.phase gathering && eqb r.awaited 0) (and_i (eqb r.phase gathering) (eqb r.awaited 0) (eq-eqb r.phase gathering p) (eq-eqb r.awaited 0 a)) t))

  pub raised_by : (P : Said → Type 0) (q : ℕ) (x : Triple) (r : Rank)
      → (r.phase ≡ decided → P (saying r (tells r.result (only q))))
      → ((r.phase ≡ decided → ⊥) → P (saying (noting anc n me q x r) silent))
      → P (raised anc n me q x r)
  unfolding raised in_phase
  raised_by P q x r yes' no' =
      by_test P (in_phase decided r) (saying r (tells r.result (only q))) (saying (noting anc n me q x r) silent)
      (λ t. yes' (eqb-true r.phase decided t)) (λ t. no' (eqb-false r.phase decided t))

  pub lowered_by : (P : Said → Type 0) (x : Triple) (r : Rank)
      → ((r.phase ≡ gathering) ⊎ (r.phase ≡ waiting) → P (deciding anc n me x r))
      → ((r.phase ≡ gathering → ⊥) → (r.phase ≡ waiting → ⊥) → P (saying r silent))
      → P (lowered anc n me x r)
  unfolding lowered in_phase
  lowered_by P x r yes' no' =
      let g : Bool = eqb r.phase gathering in
      let w : Bool = eqb r.phase waiting in
      by_test P (in_phase gathering r || in_phase waiting r) (deciding anc n me x r) (saying r silent)
      (λ t. yes' (⊎_elim (λ (e : g ≡ true). inl (eqb-true r.phase gathering e)) (λ (e : w ≡ true). inr (eqb-true r.phase waiting e)) (or_cases g w t)))
      (λ t. no' (λ e. clash (g || w) (or_l g w (eq-eqb r.phase gathering e)) t) (λ e. clash (g || w) (or_r g w (eq-eqb r.phase waiting e)) t))

  pub asked_by : (P : Said → Type 0) (q : ℕ) (r : Rank)
      → (r.phase ≡ decided → P (saying r (tells r.result (only q))))
      → (r.phase ≡ waiting → parent_of anc me r ≡ q → P (saying (owing q r) (reports r q)))
      → ((r.phase ≡ decided → ⊥) → (r.phase ≡ waiting → parent_of anc me r ≡ q → ⊥) → P (saying (owing q r) silent))
      → P (asked anc n me q r)
  unfolding asked in_phase
  asked_by P q r yes' parent' other =
      let w : Bool = eqb r.phase waiting in
      let p : Bool = eqb (parent_of anc me r) q in
      by_test P (in_phase decided r) (saying r (tells r.result (only q))) (cond (w && p) (saying (owing q r) (reports r q)) (saying (owing q r) silent))
      (λ t. yes' (eqb-true r.phase decided t))
      (λ t.
      by_test P (w && p) (saying (owing q r) (reports r q)) (saying (owing q r) silent)
      (λ s. parent' (eqb-true r.phase waiting (and_l w p s)) (eqb-true (parent_of anc me r) q (and_r w p s)))
      (λ s. other (eqb-false r.phase decided t) (λ e f. clash (w && p) (and_i w p (eq-eqb r.phase waiting e) (eq-eqb (parent_of anc me r) q f)) s)))

  pub orphaned_by : (P : Said → Type 0) (r : Rank)
      → (parent_of anc me r ≡ none → P (regathering anc n me r))
      → ((parent_of anc me r ≡ none → ⊥) → P (renewing anc n me r))
      → P (orphaned anc n me r)
  unfolding orphaned
  orphaned_by P r root child =
      by_test P (eqb (parent_of anc me r) none) (regathering anc n me r) (renewing anc n me r)
      (λ t. root (eqb-true (parent_of anc me r) none t)) (λ t. child (eqb-false (parent_of anc me r) none t))

  pub bereaved_by : (P : Said → Type 0) (q : ℕ) (r v : Rank)
      → (r.phase ≡ waiting → parent_of anc me r ≡ q → P (orphaned anc n me v))
      → (r.phase ≡ gathering → parent_of anc me r ≡ none → has (children_of anc n me r) q ≡ true → P (inheriting anc n me q r v))
      → ((r.phase ≡ waiting → parent_of anc me r ≡ q → ⊥) → (r.phase ≡ gathering → parent_of anc me r ≡ none → has (children_of anc n me r) q ≡ true → ⊥) → P (saying v silent))
      → P (bereaved anc n me q r v)
  unfolding bereaved in_phase
  bereaved_by P q r v orphan inherit other =
      let w : Bool = eqb r.phase waiting in
      let p : Bool = eqb (parent_of anc me r) q in
      let g : Bool = eqb r.phase gathering in
      let z : Bool = eqb (parent_of anc me r) none in
      let k : Bool = has (children_of anc n me r) q in
      by_test P (w && p) (orphaned anc n me v) (cond (g && z && k) (inheriting anc n me q r v) (saying v silent))
      (λ t. orphan (eqb-true r.phase waiting (and_l w p t)) (eqb-true (parent_of anc me r) q (and_r w p t)))
      (λ t.
      by_test P (g && z && k) (inheriting anc n me q r v) (saying v silent)
      (λ s. inherit (eqb-true r.phase gathering (and_l g z (and_l (g && z) k s))) (eqb-true (parent_of anc me r) none (and_r g z (and_l (g && z) k s))) (and_r (g && z) k s))
      (λ s. other (λ e f. clash (w && p) (and_i w p (eq-eqb r.phase waiting e) (eq-eqb (parent_of anc me r) q f)) t)
      (λ e f h. clash (g && z && k) (and_i (g && z) k (and_i g z (eq-eqb r.phase gathering e) (eq-eqb (parent_of anc me r) none f)) h) s)))
