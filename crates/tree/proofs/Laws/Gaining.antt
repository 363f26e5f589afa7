-- Whom a rank gains at a mark: who moved has one heir, so either all of them report to it, but for itself, or none. Over any ancestor sets that
-- form a chain. Assumes nothing.
use mathlib.Core.Path.{◌≡◌, sym, ap, subst, ◌∙◌}
use mathlib.Core.Bool.{Bool, true, not, ◌&&◌}
use mathlib.Core.List.{List}
use mathlib.Core.Logic.{⊎_elim}
use Prim.Native.Nat.{ℕ, ◌≤◌, ◌<◌}
use native.Mathlib.Omega.{arith}
use lib.Dec.{eqb}
use lib.ListN.{get_or}
use borrow.Author.Tests.{eq-eqb, ne_eqb, eqb-true, not-true}
use Rattle.sets.specs.Sets.{none, has, only, add, meet, minus, set_of}
use Rattle.sets.proofs.Laws.Bools.{clash, eq_or_ne, same_test, and_i, and_l, and_r}
use Rattle.sets.proofs.Laws.Members.{minus_l, minus_r, minus_i, has_meet, has-only, none_in, ext, set_of_passes, set_of_within, set_of-has}
use Rattle.sets.proofs.Laws.Searches.{Largest}
use Rattle.tree.specs.Tree.{parent, moves, sized, moved}
use Rattle.tree.specs.Calls.{mended}
use Rattle.tree.specs.Relations.{Ancestry, Chained}
use Rattle.tree.proofs.Laws.Rows.{fresh_at}
use Rattle.tree.proofs.Laws.Parents.{Free, parent-lt}
use Rattle.tree.proofs.Laws.Mending.{moves_linked}
use Rattle.tree.proofs.Laws.Heirs.{one_heir}

-- who moved at the mark of q
record Mover (anc : ℕ → ℕ) (n marks q c : ℕ) : Type 0 where
  inside : c < n
  unmarked : Free (add marks q) c
  linked : parent anc marks c ≡ q

mover : (anc : ℕ → ℕ) (n marks q c : ℕ) → q < none → has (moved anc n marks q).ranks c ≡ true → Mover anc n marks q c
unfolding moved sized
mover anc n marks q c l h =
    let free : Bool = not (has (add marks q) c) in
    let ended : Bool = eqb (parent anc marks c) q in
    let t : free && ended ≡ true = sym (moves_linked anc marks q c l) ∙ set_of_passes (moves anc marks q) n c h in
    record {
      inside = set_of_within (moves anc marks q) n c h;
      unmarked = not-true (has (add marks q) c) (and_l free ended t);
      linked = eqb-true (parent anc marks c) q (and_r free ended t);
    }

-- t is the table once q is marked, w who moved by it, and p a rank
module _ (anc : ℕ → ℕ) (tree : Ancestry anc) (chain : Chained anc) (n marks q p : ℕ) (t : List ℕ) (w : ℕ) (b : n ≤ 64) (o : q < n) (s : p < 64) (et : t ≡ (mended anc n marks q).table) (ew : w ≡ (mended anc n marks q).moved.ranks) where
  moves_here : (c : ℕ) → has w c ≡ true → Mover anc n marks q c
  unfolding mended
  moves_here c h = mover anc n marks q c (omega arith) (ap (λ (x : ℕ). has x c) (sym ew) ∙ h)

  reports_to : (c : ℕ) → c < n → get_or t c 0 ≡ parent anc (add marks q) c
  unfolding mended
  reports_to c l = ap (λ (x : List ℕ). get_or x c 0) et ∙ fresh_at anc n (add marks q) c b l

  -- if one who moved reports to p, so does every other but p
  heirs_agree : (a c : ℕ) → has w a ≡ true → has w c ≡ true → get_or t a 0 ≡ p → (c ≡ p → ⊥) → get_or t c 0 ≡ p
  heirs_agree a c ha hc e d =
      let x = moves_here a ha in
      let y = moves_here c hc in
      reports_to c y.inside
      ∙ one_heir anc tree chain marks q a c p (omega arith) (omega arith) (omega arith) (omega arith) x.linked y.linked y.unmarked (sym (reports_to a x.inside) ∙ e) d

  -- who reports to p is larger
  under : (c : ℕ) → has w c ≡ true → get_or t c 0 ≡ p → p < c
  under c h e =
      let i : parent anc (add marks q) c ≡ p = sym (reports_to c (moves_here c h).inside) ∙ e in
      subst (λ (x : ℕ). x < c) i (parent-lt anc (add marks q) c (λ x. omega arith))

  -- who moved and reports to p
  abbrev here : ℕ
  here = set_of (λ c. eqb (get_or t c 0) p) 64

  in_both : (c : ℕ) → has (meet w here) c ≡ true → (has w c ≡ true) × (get_or t c 0 ≡ p)
  in_both c h =
      let g : has w c && has here c ≡ true = sym (has_meet w here c) ∙ h in
      (and_l (has w c) (has here c) g, eqb-true (get_or t c 0) p (set_of_passes (λ k. eqb (get_or t k 0) p) 64 c (and_r (has w c) (has here c) g)))

  both_in : (c : ℕ) → has w c ≡ true → get_or t c 0 ≡ p → has (meet w here) c ≡ true
  both_in c h e = has_meet w here c ∙ and_i (has w c) (has here c) h (set_of-has (λ k. eqb (get_or t k 0) p) 64 c (omega (arith, (moves_here c h).inside)) (eq-eqb (get_or t c 0) p e))

  pub gained-nobody : (last : ℕ) → Largest (has w) 64 last → (get_or t last 0 ≡ p → ⊥) → 0 ≡ meet w (set_of (λ c. eqb (get_or t c 0) p) 64)
  gained-nobody last top d = sym (none_in (meet w here) (λ c h. no_one c (in_both c h).0 (in_both c h).1))
    where
      no_one : (c : ℕ) → has w c ≡ true → get_or t c 0 ≡ p → ⊥
      no_one c h i = ⊎_elim
          (λ (x : last ≡ p). clash (has w c) h (top.last c (omega (arith, under c h i)) (omega (arith, (moves_here c h).inside))))
          (λ (x : last ≡ p → ⊥). d (heirs_agree c last h top.passes i x))
          (eq_or_ne last p)

  pub gained-all : (last one r : ℕ) → Largest (has w) 64 last → get_or t last 0 ≡ p → one ≡ only p → r ≡ minus w one → r ≡ meet w (set_of (λ c. eqb (get_or t c 0) p) 64)
  gained-all last one r top i u v = v ∙ ap (minus w) u ∙ ext (minus w (only p)) (meet w here) (λ c. same_test (has (minus w (only p)) c) (has (meet w here) c) (others c) (not_p c))
    where
      others : (c : ℕ) → has (minus w (only p)) c ≡ true → has (meet w here) c ≡ true
      others c h =
          let m : has w c ≡ true = minus_l w (only p) c h in
          both_in c m (heirs_agree last c top.passes m i (λ x. clash (has (only p) c) (has-only p c ∙ eq-eqb c p x) (minus_r w (only p) c h)))

      not_p : (c : ℕ) → has (meet w here) c ≡ true → has (minus w (only p)) c ≡ true
      not_p c h = minus_i w (only p) c (in_both c h).0 (has-only p c ∙ ne_eqb c p (λ x. omega (arith, under c (in_both c h).0 (in_both c h).1)))
