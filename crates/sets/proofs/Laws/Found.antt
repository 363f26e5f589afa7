-- A search that finds somebody answers that rank, and one that finds nobody answers none. Assumes nothing.
use Rattle.std.proofs.Common.{◌≡◌, ℕ, ◌<◌, ◌≤◌, ◌^◌, Option, None, Some, cond, true, false, ⊎_elim, refl, sym, ap, ◌∙◌, arith}
use Rattle.std.specs.Prelude.{eqb}
use Rattle.std.specs.Option.{unwrap_or}
use Rattle.std.proofs.lemmas.Option.{none-some, same_Some}
use Rattle.std.proofs.lemmas.Bool.{eqb-false}
use borrow.Author.Tests.{eq-eqb, ne_eqb, eqb-true}
use Rattle.sets.specs.Sets.{none, found, has, smallest, largest}
use Rattle.sets.proofs.Laws.Bools.{cond_true, cond_false, eq_or_ne}
use Rattle.sets.proofs.Laws.Members.{has-zero}
use Rattle.sets.proofs.Laws.Searches.{Smallest, Largest, first_member, last_member, smallest-none, largest-none}

-- nobody, and somebody
pub found-none : (k : ℕ) → k ≡ none → None ≡ found k
found-none k e = sym (cond_true (eqb k none) None (Some k) (eq-eqb k none e))

pub found-some : (k p : ℕ) → p ≡ k → (p ≡ none → ⊥) → Some p ≡ found k
found-some k p e n = ap Some e ∙ sym (cond_false (eqb k none) None (Some k) (ne_eqb k none (λ q. n (e ∙ q))))

-- what an answer says of the number of the search
pub nobody_found : (k : ℕ) → None ≡ found k → k ≡ none
nobody_found k e = go (eqb k none) refl
  where
    go : (b : _) → eqb k none ≡ b → k ≡ none
    go true q = eqb-true k none q
    go false q = absurd (none-some k (e ∙ cond_false (eqb k none) None (Some k) q))

pub is_found : (k p : ℕ) → Some p ≡ found k → (p ≡ k) × (k ≡ none → ⊥)
is_found k p e = go (eqb k none) refl
  where
    go : (b : _) → eqb k none ≡ b → (p ≡ k) × (k ≡ none → ⊥)
    go true q = absurd (none-some p (sym (e ∙ cond_true (eqb k none) None (Some k) q)))
    go false q = (same_Some p k (e ∙ cond_false (eqb k none) None (Some k) q), eqb-false k none q)

-- as a table writes it
pub found_or_none : (k : ℕ) → unwrap_or (found k) none ≡ k
found_or_none k = go (eqb k none) refl
  where
    go : (b : _) → eqb k none ≡ b → unwrap_or (cond b None (Some k)) none ≡ k
    go true q = sym (eqb-true k none q)
    go false q = refl

-- the smallest and the largest member of a word
pub first_found : (w n p : ℕ) → w < 2 ^ n → n ≤ none → Some p ≡ found (smallest (has w) n none) → Smallest (has w) n p
first_found w n p l m e = let h = is_found (smallest (has w) n none) p e in
    first_member w n none p l (λ z. h.1 (ap (λ (x : ℕ). smallest (has x) n none) z ∙ smallest-none (has 0) n none (λ k b. has-zero k))) h.0

pub last_found : (w n p : ℕ) → w < 2 ^ n → n ≤ none → Some p ≡ found (largest (has w) n none) → Largest (has w) n p
last_found w n p l m e = let h = is_found (largest (has w) n none) p e in
    last_member w n none p l (λ z. h.1 (ap (λ (x : ℕ). largest (has x) n none) z ∙ largest-none (has 0) n none (λ k b. has-zero k))) h.0

-- nobody is found in the empty set alone
pub none_first : (w n : ℕ) → w < 2 ^ n → n ≤ none → None ≡ found (smallest (has w) n none) → w ≡ 0
none_first w n l m e = ⊎_elim (λ (z : w ≡ 0). z) (λ (z : w ≡ 0 → ⊥). absurd (omega (arith, nobody_found (smallest (has w) n none) e, (first_member w n none (smallest (has w) n none) l z refl).within))) (eq_or_ne w 0)

pub none_last : (w n : ℕ) → w < 2 ^ n → n ≤ none → None ≡ found (largest (has w) n none) → w ≡ 0
none_last w n l m e = ⊎_elim (λ (z : w ≡ 0). z) (λ (z : w ≡ 0 → ⊥). absurd (omega (arith, nobody_found (largest (has w) n none) e, (last_member w n none (largest (has w) n none) l z refl).within))) (eq_or_ne w 0)

-- with a rank in its stead
pub last_or : (w n d : ℕ) → w < 2 ^ n → n ≤ none → unwrap_or (found (largest (has w) n none)) d ≡ cond (eqb w 0) d (largest (has w) n none)
last_or w n d l m = ⊎_elim empty some (eq_or_ne w 0)
  where
    empty : w ≡ 0 → unwrap_or (found (largest (has w) n none)) d ≡ cond (eqb w 0) d (largest (has w) n none)
    empty z =
        ap (λ (o : Option ℕ). unwrap_or o d) (sym (found-none (largest (has w) n none) (ap (λ (x : ℕ). largest (has x) n none) z ∙ largest-none (has 0) n none (λ k b. has-zero k))))
        ∙ sym (cond_true (eqb w 0) d (largest (has w) n none) (eq-eqb w 0 z))

    some : (w ≡ 0 → ⊥) → unwrap_or (found (largest (has w) n none)) d ≡ cond (eqb w 0) d (largest (has w) n none)
    some z =
        let r = last_member w n none (largest (has w) n none) l z refl in
        ap (λ (o : Option ℕ). unwrap_or o d) (sym (found-some (largest (has w) n none) (largest (has w) n none) refl (λ e. omega (arith, r.within))))
        ∙ sym (cond_false (eqb w 0) d (largest (has w) n none) (ne_eqb w 0 z))
