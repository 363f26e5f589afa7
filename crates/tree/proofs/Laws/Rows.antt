-- Tables: what stands at each place of a row, tables that are filled or mended from the front, and the test that two tables
-- are the same. Assumes nothing.
use mathlib.Core.Path.{◌≡◌, refl, sym, ap, ap₂, ◌∙◌}
use mathlib.Core.Bool.{Bool, true, false, ◌&&◌}
use Rattle.std.specs.Cmp.Lexicographic.{pointwise}
use mathlib.Core.List.{List, [], ◌∷◌, ◌++◌}
use mathlib.Core.Logic.{⊎_elim}
use Prim.Native.Nat.{ℕ, zero, suc, ◌+◌, ◌≤◌, ◌<◌}
use native.Mathlib.Numerals.{add-one}
use native.Mathlib.Omega.{arith}
use lib.Dec.{eqb, ltb}
use lib.ListN.{length, get_or, set, replicate, length-append, length-set, length-replicate, get_or-replicate, get_or-append}
use lib.Seq.{ext_get_or, get_or-set_same, get_or-set_other, get_or-append-add}
use borrow.Author.Tests.{lt-ltb, le-ltb, eq-eqb, eqb-true}
use Rattle.sets.specs.Sets.{none}
use Rattle.sets.proofs.Laws.Bools.{eq_or_ne, lt-or-le, clash, and_i, and_l, and_r, cond_true, cond_false}
use Rattle.tree.specs.Tree.{row, entry, fresh, parent}
use Rattle.tree.specs.Calls.{same}

module _ {A : Type 0} where
  pub length-row : (f : ℕ → A) (n : ℕ) → length (row f n) ≡ n
  unfolding row
  length-row f zero = refl
  length-row f (suc n) = length-append (row f n) (f n ∷ []) ∙ ap (λ (x : ℕ). x + 1) (length-row f n) ∙ add-one n

  pub get_d_row : (f : ℕ → A) (n k : ℕ) (d : A) → k < n → get_or (row f n) k d ≡ f k
  unfolding row
  get_d_row f zero k d l = absurd (omega arith)
  get_d_row f (suc n) k d l = ⊎_elim last (before (get_d_row f n k d)) (eq_or_ne k n)
    where
      last : k ≡ n → get_or (row f n ++ (f n ∷ [])) k d ≡ f k
      last e =
          let long : k ≡ length (row f n) + 0 = omega (arith, length-row f n) in
          ap (λ (i : ℕ). get_or (row f n ++ (f n ∷ [])) i d) long ∙ get_or-append-add (row f n) (f n ∷ []) 0 d ∙ ap f (sym e)

      before : (k < n → get_or (row f n) k d ≡ f k) → (k ≡ n → ⊥) → get_or (row f n ++ (f n ∷ [])) k d ≡ f k
      before ih h = get_or-append (row f n) (f n ∷ []) d k (omega (arith, length-row f n)) ∙ ih (omega arith)

  -- a list with a row's length and entries is the row
  pub row_is : (d : A) (f : ℕ → A) (m : ℕ) (t : List A) → length t ≡ m → ((k : ℕ) → k < m → get_or t k d ≡ f k) → t ≡ row f m
  row_is d f m t long at = ext_get_or d t (row f m) (long ∙ sym (length-row f m)) (λ k l. let b : k < m = omega arith in at k b ∙ sym (get_d_row f m k d b))

  pub row_cong : (d : A) (f g : ℕ → A) (m : ℕ) → ((k : ℕ) → k < m → f k ≡ g k) → row f m ≡ row g m
  row_cong d f g m h = row_is d g m (row f m) (length-row f m) (λ k l. get_d_row f m k d l ∙ h k l)

  pub row_replicate : (m : ℕ) (d e : A) → replicate m e ≡ row (λ k. e) m
  row_replicate m d e = row_is d (λ k. e) m (replicate m e) (length-replicate m e) (λ k l. get_or-replicate m k e d l)

  -- ---- a table on its way from g to f: the entries before i are f's, the others still g's; d is what stands past the end

  pub record Patched (d : A) (f g : ℕ → A) (m i : ℕ) (t : List A) : Type 0 where
    pub long : length t ≡ m
    pub done : (k : ℕ) → k < i → k < m → get_or t k d ≡ f k
    pub rest : (k : ℕ) → i ≤ k → k < m → get_or t k d ≡ g k

  -- it starts anywhere, where f and g are the same before
  pub patched_from : (d : A) (f g : ℕ → A) (m i : ℕ) (t : List A) → t ≡ row g m → ((k : ℕ) → k < i → g k ≡ f k) → Patched d f g m i t
  patched_from d f g m i t e h = record { long = ap length e ∙ length-row g m; done = λ k l b. at k b ∙ h k l; rest = λ k l b. at k b }
    where
      at : (k : ℕ) → k < m → get_or t k d ≡ g k
      at k b = ap (λ (s : List A). get_or s k d) e ∙ get_d_row g m k d b

  pub patched_start : (d : A) (f g : ℕ → A) (m : ℕ) (t : List A) → t ≡ row g m → Patched d f g m 0 t
  patched_start d f g m t e = patched_from d f g m 0 t e (λ k l. absurd (omega arith))

  pub patched_put : (d : A) (f g : ℕ → A) (m i : ℕ) (v : A) (t : List A) → Patched d f g m i t → i < m → v ≡ f i → Patched d f g m (i + 1) (set t i v)
  patched_put d f g m i v t p l e = record {
    long = length-set t i v ∙ p.long;
    done = λ k b c. ⊎_elim (λ (q : k ≡ i). here k q) (λ (q : k ≡ i → ⊥). get_or-set_other t i k v d q ∙ p.done k (omega arith) c) (eq_or_ne k i);
    rest = λ k b c. get_or-set_other t i k v d (λ q. omega arith) ∙ p.rest k (omega arith) c;
  }
    where
      here : (k : ℕ) → k ≡ i → get_or (set t i v) k d ≡ f k
      here k q = ap (λ (j : ℕ). get_or (set t i v) j d) q ∙ get_or-set_same t i v d (omega (arith, p.long)) ∙ e ∙ ap f (sym q)

  pub patched_end : (d : A) (f g : ℕ → A) (m i : ℕ) (t : List A) → Patched d f g m i t → ((k : ℕ) → i ≤ k → k < m → g k ≡ f k) → t ≡ row f m
  patched_end d f g m i t p h =
      row_is d f m t p.long (λ k b. ⊎_elim (λ (l : k < i). p.done k l b) (λ (l : i ≤ k). p.rest k l b ∙ h k l b) (lt-or-le k i))

-- ---- the fresh table

pub entry-below : (anc : ℕ → ℕ) (n marks p : ℕ) → p < n → entry anc n marks p ≡ parent anc marks p
unfolding entry
entry-below anc n marks p l = cond_true (ltb p n) (parent anc marks p) none (lt-ltb p n l)

pub entry_past : (anc : ℕ → ℕ) (n marks p : ℕ) → n ≤ p → entry anc n marks p ≡ none
unfolding entry
entry_past anc n marks p l = cond_false (ltb p n) (parent anc marks p) none (le-ltb p n l)

pub length-fresh : (anc : ℕ → ℕ) (n marks : ℕ) → length (fresh anc n marks) ≡ 64
unfolding fresh
length-fresh anc n marks = length-row (entry anc n marks) 64

pub fresh_at : (anc : ℕ → ℕ) (n marks p : ℕ) → n ≤ 64 → p < n → get_or (fresh anc n marks) p 0 ≡ parent anc marks p
unfolding fresh
fresh_at anc n marks p h l = get_d_row (entry anc n marks) 64 p 0 (omega arith) ∙ entry-below anc n marks p l

-- ---- the same table

pub same-eq : (s t : List ℕ) → same s t ≡ true → s ≡ t
unfolding same
same-eq [] [] e = refl
same-eq [] (y ∷ t) e = absurd (clash false e refl)
same-eq (x ∷ s) [] e = absurd (clash false e refl)
same-eq (x ∷ s) (y ∷ t) e = ap₂ (λ (a : ℕ) (b : List ℕ). a ∷ b) (eqb-true x y (and_l (eqb x y) (same s t) e)) (same-eq s t (and_r (eqb x y) (same s t) e))

pub same_refl : (s : List ℕ) → same s s ≡ true
unfolding same
same_refl [] = refl
same_refl (x ∷ s) = and_i (eqb x x) (same s s) (eq-eqb x x refl) (same_refl s)

-- along the code
pub pointwise-same : (s t : List ℕ) → pointwise eqb s t ≡ same s t
unfolding same
pointwise-same [] [] = refl
pointwise-same [] (y ∷ t) = refl
pointwise-same (x ∷ s) [] = refl
pointwise-same (x ∷ s) (y ∷ t) = ap (λ (b : Bool). eqb x y && b) (pointwise-same s t)
