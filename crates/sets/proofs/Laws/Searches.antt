-- Searching, counting and listing the ranks below a bound that pass a test: what each finds, by one record or view, so that
-- no later proof does induction on it. Assumes nothing.
use mathlib.Core.Path.{◌≡◌, refl, sym, ap, subst, ◌∙◌}
use mathlib.Core.Bool.{Bool, true, false, cond, not, ◌&&◌, ◌||◌}
use mathlib.Core.List.{List, [], ◌∷◌, ◌++◌, append-nil}
use mathlib.Core.Logic.{◌⊎◌, inl, inr, ⊎_elim}
use Prim.Native.Nat.{ℕ, zero, suc, ◌+◌, ◌≤◌, ◌<◌, ◌^◌}
use native.Mathlib.Numerals.{add-one}
use native.Mathlib.Omega.{arith}
use lib.Dec.{eqb}
use lib.ListN.{length, get_or, length-append, get_or-append}
use lib.Seq.{get_or-append-add}
use borrow.Author.Tests.{eq-eqb, ne_eqb}
use Rattle.sets.specs.Sets.{has, only, add, minus, count, largest, smallest, listed, every, some}
use Rattle.sets.proofs.Laws.Bools.{or_cases, clash, fails, lt-or-le, eq_or_ne, and_i, and_l, and_r, and_not_l}
use Rattle.sets.proofs.Laws.Members.{has-minus, has-only, has-add-other, has-lt, none_in}

-- no rank below n passes
abbrev pub Nobody : (ℕ → Bool) → ℕ → Type 0
Nobody f n = (k : ℕ) → k < n → f k ≡ false

-- ---- the largest

pub record Largest (f : ℕ → Bool) (n r : ℕ) : Type 0 where
  pub within : r < n
  pub passes : f r ≡ true
  pub last : (k : ℕ) → r < k → k < n → f k ≡ false

-- what a search for the largest ends with: a rank that is the largest, or the value for "nobody"
pub data TopOf (f : ℕ → Bool) (n d : ℕ) : ℕ → Type 0 where
  top : {r : ℕ} → Largest f n r → TopOf f n d r
  empty : Nobody f n → TopOf f n d d

pub largest-cases : (f : ℕ → Bool) (n d : ℕ) → TopOf f n d (largest f n d)
unfolding largest
largest-cases f zero d = empty (λ k h. absurd (omega arith))
largest-cases f (suc n) d = go (f n) refl (largest f n d) (largest-cases f n d)
  where
    wider : (f n ≡ false) → (r : ℕ) → Largest f n r → Largest f (suc n) r
    wider e r l = record {
      within = omega (arith, l.within);
      passes = l.passes;
      last = λ k a b. ⊎_elim (λ (q : k ≡ n). ap f q ∙ e) (λ (q : k ≡ n → ⊥). l.last k a (omega arith)) (eq_or_ne k n);
    }

    still : (f n ≡ false) → Nobody f n → Nobody f (suc n)
    still e h k b = ⊎_elim (λ (q : k ≡ n). ap f q ∙ e) (λ (q : k ≡ n → ⊥). h k (omega arith)) (eq_or_ne k n)

    go : (b : Bool) → f n ≡ b → (r : ℕ) → TopOf f n d r → TopOf f (suc n) d (cond b n r)
    go true e r v = top {r = n} (record { within = omega arith; passes = e; last = λ k a b. absurd (omega arith) })
    go false e r (top l) = top (wider e r l)
    go false e r (empty h) = empty (still e h)

-- there is one largest
pub largest_is : (f : ℕ → Bool) (n d r : ℕ) → Largest f n r → largest f n d ≡ r
largest_is f n d r l = go (largest f n d) (largest-cases f n d)
  where
    meet_at : (s : ℕ) → Largest f n s → (s < r) ⊎ (r ≤ s) → s ≡ r
    meet_at s m (inl a) = absurd (clash (f r) l.passes (m.last r a l.within))
    meet_at s m (inr a) = ⊎_elim (λ (q : s ≡ r). q) (λ (q : s ≡ r → ⊥). absurd (clash (f s) m.passes (l.last s (omega arith) m.within))) (eq_or_ne s r)

    go : (s : ℕ) → TopOf f n d s → s ≡ r
    go s (top m) = meet_at s m (lt-or-le s r)
    go s (empty h) = absurd (clash (f r) l.passes (h r l.within))

pub largest-none : (f : ℕ → Bool) (n d : ℕ) → Nobody f n → largest f n d ≡ d
largest-none f n d h = go (largest f n d) (largest-cases f n d)
  where
    go : (s : ℕ) → TopOf f n d s → s ≡ d
    go s (top m) = absurd (clash (f s) m.passes (h s m.within))
    go s (empty _) = refl

-- ---- the smallest

pub record Smallest (f : ℕ → Bool) (n r : ℕ) : Type 0 where
  pub within : r < n
  pub passes : f r ≡ true
  pub first : (k : ℕ) → k < r → f k ≡ false

pub data LeastOf (f : ℕ → Bool) (n d : ℕ) : ℕ → Type 0 where
  least : {r : ℕ} → Smallest f n r → LeastOf f n d r
  empty : Nobody f n → LeastOf f n d d

pub smallest-cases : (f : ℕ → Bool) (n d : ℕ) → LeastOf f n d (smallest f n d)
unfolding smallest
smallest-cases f zero d = empty (λ k h. absurd (omega arith))
smallest-cases f (suc n) d = go (smallest-cases f n) (f n) refl
  where
    still : f n ≡ false → Nobody f n → Nobody f (suc n)
    still e h k b = ⊎_elim (λ (q : k ≡ n). ap f q ∙ e) (λ (q : k ≡ n → ⊥). h k (omega arith)) (eq_or_ne k n)

    wide : (e : ℕ) (r : ℕ) → Smallest f n r → LeastOf f (suc n) e r
    wide e r l = least {r = r} (record { within = omega (arith, l.within); passes = l.passes; first = l.first })

    at : f n ≡ true → (r : ℕ) → LeastOf f n n r → LeastOf f (suc n) d r
    at e r (least l) = wide d r l
    at e r (empty h) = least {r = n} (record { within = omega arith; passes = e; first = h })

    past : f n ≡ false → (r : ℕ) → LeastOf f n d r → LeastOf f (suc n) d r
    past e r (least l) = wide d r l
    past e r (empty h) = empty (still e h)

    go : ((e : ℕ) → LeastOf f n e (smallest f n e)) → (b : Bool) → f n ≡ b → LeastOf f (suc n) d (smallest f n (cond b n d))
    go rest true e = at e (smallest f n n) (rest n)
    go rest false e = past e (smallest f n d) (rest d)

pub smallest_is : (f : ℕ → Bool) (n d r : ℕ) → Smallest f n r → smallest f n d ≡ r
smallest_is f n d r l = go (smallest f n d) (smallest-cases f n d)
  where
    meet_at : (s : ℕ) → Smallest f n s → (s < r) ⊎ (r ≤ s) → s ≡ r
    meet_at s m (inl a) = absurd (clash (f s) m.passes (l.first s a))
    meet_at s m (inr a) = ⊎_elim (λ (q : s ≡ r). q) (λ (q : s ≡ r → ⊥). absurd (clash (f r) l.passes (m.first r (omega arith)))) (eq_or_ne s r)

    go : (s : ℕ) → LeastOf f n d s → s ≡ r
    go s (least m) = meet_at s m (lt-or-le s r)
    go s (empty h) = absurd (clash (f r) l.passes (h r l.within))

pub smallest-none : (f : ℕ → Bool) (n d : ℕ) → Nobody f n → smallest f n d ≡ d
smallest-none f n d h = go (smallest f n d) (smallest-cases f n d)
  where
    go : (s : ℕ) → LeastOf f n d s → s ≡ d
    go s (least m) = absurd (clash (f s) m.passes (h s m.within))
    go s (empty _) = refl

-- ---- the count

pub count-le : (f : ℕ → Bool) (n : ℕ) → count f n ≤ n
unfolding count
count-le f zero = omega arith
count-le f (suc n) = go (f n) (count-le f n)
  where
    go : (b : Bool) → count f n ≤ n → cond b (suc (count f n)) (count f n) ≤ suc n
    go true ih = omega arith
    go false ih = omega arith

pub count_cong : (f g : ℕ → Bool) (n : ℕ) → ((k : ℕ) → k < n → f k ≡ g k) → count f n ≡ count g n
unfolding count
count_cong f g zero h = refl
count_cong f g (suc n) h = rw (h n (omega arith), count_cong f g n (λ k l. h k (omega arith)))

pub count_none : (f : ℕ → Bool) (n : ℕ) → Nobody f n → count f n ≡ 0
unfolding count
count_none f zero h = refl
count_none f (suc n) h = rw (h n (omega arith)) (count_none f n (λ k l. h k (omega arith)))

-- whoever passes f passes g: no more pass f
pub count_mono : (f g : ℕ → Bool) (n : ℕ) → ((k : ℕ) → k < n → f k ≡ true → g k ≡ true) → count f n ≤ count g n
unfolding count
count_mono f g zero h = omega arith
count_mono f g (suc n) h = go (f n) (g n) refl refl (count_mono f g n (λ k l. h k (omega arith)))
  where
    go : (a b : Bool) → f n ≡ a → g n ≡ b → count f n ≤ count g n → cond a (suc (count f n)) (count f n) ≤ cond b (suc (count g n)) (count g n)
    go true true p q ih = omega arith
    go true false p q ih = absurd (clash (g n) (h n (omega arith) p) q)
    go false true p q ih = omega arith
    go false false p q ih = ih

-- and one who passes g alone makes it fewer
pub count_fewer : (f g : ℕ → Bool) (n r : ℕ) → ((k : ℕ) → k < n → f k ≡ true → g k ≡ true) → r < n → f r ≡ false → g r ≡ true → count f n < count g n
unfolding count
count_fewer f g zero r h l a b = absurd (omega arith)
count_fewer f g (suc n) r h l a b = ⊎_elim (λ (q : r ≡ n). here q) (λ (q : r ≡ n → ⊥). there (count_fewer f g n r (λ k s. h k (omega arith)) (omega arith) a b)) (eq_or_ne r n)
  where
    rest : count f n ≤ count g n
    rest = count_mono f g n (λ k s. h k (omega arith))

    here : r ≡ n → cond (f n) (suc (count f n)) (count f n) < cond (g n) (suc (count g n)) (count g n)
    here q =
        let p : f n ≡ false = ap f (sym q) ∙ a in
        let s : g n ≡ true = ap g (sym q) ∙ b in
        rw (p, s) (omega (arith, rest))

    grow : (x y : Bool) → f n ≡ x → g n ≡ y → count f n < count g n → cond x (suc (count f n)) (count f n) < cond y (suc (count g n)) (count g n)
    grow true true p q ih = omega arith
    grow true false p q ih = absurd (clash (g n) (h n (omega arith) p) q)
    grow false true p q ih = omega arith
    grow false false p q ih = ih

    there : count f n < count g n → cond (f n) (suc (count f n)) (count f n) < cond (g n) (suc (count g n)) (count g n)
    there ih = grow (f n) (g n) refl refl ih

-- past a bound that all who pass are below, nothing more is counted
pub count_wide : (f : ℕ → Bool) (m n : ℕ) → m ≤ n → ((k : ℕ) → m ≤ k → f k ≡ false) → count f n ≡ count f m
unfolding count
count_wide f m zero l h = ap (count f) (let e : 0 ≡ m = omega arith in e)
count_wide f m (suc n) l h = ⊎_elim (λ (q : m ≡ suc n). ap (count f) (sym q)) (λ (q : m ≡ suc n → ⊥). rw (h n (omega arith)) (count_wide f m n (omega arith) h)) (eq_or_ne m (suc n))

-- one rank added makes it one more at most
pub count_add : (w q n : ℕ) → count (has (add w q)) n ≤ suc (count (has w) n)
unfolding count
count_add w q zero = omega arith
count_add w q (suc n) = ⊎_elim (λ (e : n ≡ q). here e (has (add w q) n) (has w n)) (λ (e : n ≡ q → ⊥). rw (has-add-other w q n e) (there (has w n) (count_add w q n))) (eq_or_ne n q)
  where
    here : n ≡ q → (a b : Bool) → cond a (suc (count (has (add w q)) n)) (count (has (add w q)) n) ≤ suc (cond b (suc (count (has w) n)) (count (has w) n))
    here e a b =
        let same : count (has (add w q)) n ≡ count (has w) n = count_cong (has (add w q)) (has w) n (λ k l. has-add-other w q k (λ x. omega arith)) in
        rw same (within a b)
      where
        within : (a b : Bool) → cond a (suc (count (has w) n)) (count (has w) n) ≤ suc (cond b (suc (count (has w) n)) (count (has w) n))
        within true true = omega arith
        within true false = omega arith
        within false true = omega arith
        within false false = omega arith

    there : (b : Bool) → count (has (add w q)) n ≤ suc (count (has w) n) → cond b (suc (count (has (add w q)) n)) (count (has (add w q)) n) ≤ suc (cond b (suc (count (has w) n)) (count (has w) n))
    there true ih = omega arith
    there false ih = ih

-- ---- the list

pub length-listed : (f : ℕ → Bool) (n : ℕ) → length (listed f n) ≡ count f n
unfolding listed count
length-listed f zero = refl
length-listed f (suc n) = length-append (listed f n) (cond (f n) (n ∷ []) []) ∙ go (f n) (length-listed f n)
  where
    go : (b : Bool) → length (listed f n) ≡ count f n → length (listed f n) + length (cond b (n ∷ []) []) ≡ cond b (suc (count f n)) (count f n)
    go true ih = ap (λ (x : ℕ). x + 1) ih ∙ add-one (count f n)
    go false ih = omega arith

pub listed-zero : (f : ℕ → Bool) → listed f 0 ≡ []
unfolding listed
listed-zero f = refl

pub listed-put : (f : ℕ → Bool) (n : ℕ) → f n ≡ true → listed f (suc n) ≡ listed f n ++ (n ∷ [])
unfolding listed
listed-put f n h = rw h

pub listed_cong : (f g : ℕ → Bool) (n : ℕ) → ((k : ℕ) → k < n → f k ≡ g k) → listed f n ≡ listed g n
unfolding listed
listed_cong f g zero h = refl
listed_cong f g (suc n) h = rw (h n (omega arith), listed_cong f g n (λ k l. h k (omega arith)))

pub listed-none : (f : ℕ → Bool) (n : ℕ) → Nobody f n → listed f n ≡ []
unfolding listed
listed-none f zero h = refl
listed-none f (suc n) h = rw (h n (omega arith), append-nil) (listed-none f n (λ k l. h k (omega arith)))

-- who is listed passes and is below n
pub listed_passes : (f : ℕ → Bool) (n i d : ℕ) → i < length (listed f n) → (get_or (listed f n) i d < n) × (f (get_or (listed f n) i d) ≡ true)
unfolding listed
listed_passes f zero i d l = absurd (omega arith)
listed_passes f (suc n) i d l = go (f n) refl (listed_passes f n i d) (lt-or-le i (length (listed f n))) l
  where
    go : (b : Bool) → f n ≡ b → (i < length (listed f n) → (get_or (listed f n) i d < n) × (f (get_or (listed f n) i d) ≡ true)) → (i < length (listed f n)) ⊎ (length (listed f n) ≤ i) → i < length (listed f n ++ cond b (n ∷ []) [])
        → (get_or (listed f n ++ cond b (n ∷ []) []) i d < suc n) × (f (get_or (listed f n ++ cond b (n ∷ []) []) i d) ≡ true)
    go b e ih (inl h) m =
        let same : get_or (listed f n ++ cond b (n ∷ []) []) i d ≡ get_or (listed f n) i d = get_or-append (listed f n) (cond b (n ∷ []) []) d i h in
        let was : (get_or (listed f n) i d < n) × (f (get_or (listed f n) i d) ≡ true) = ih h in
        (omega (arith, was.0), ap f same ∙ was.1)
    go true e ih (inr h) m =
        let at : i ≡ length (listed f n) + 0 = omega (arith, length-append (listed f n) (n ∷ [])) in
        let same : get_or (listed f n ++ (n ∷ [])) i d ≡ n = ap (λ (x : ℕ). get_or (listed f n ++ (n ∷ [])) x d) at ∙ get_or-append-add (listed f n) (n ∷ []) 0 d in
        (omega arith, ap f same ∙ e)
    go false e ih (inr h) m = absurd (omega (arith, length-append (listed f n) []))

-- and whoever passes and is below n is listed
pub listed_has : (f : ℕ → Bool) (n d q : ℕ) → q < n → f q ≡ true → (i : ℕ) × (i < length (listed f n)) × (get_or (listed f n) i d ≡ q)
unfolding listed
listed_has f zero d q l t = absurd (omega arith)
listed_has f (suc n) d q l t = ⊎_elim (λ (e : q ≡ n). here e (f n) (ap f (sym e) ∙ t)) (λ (e : q ≡ n → ⊥). there (listed_has f n d q (omega arith) t)) (eq_or_ne q n)
  where
    here : q ≡ n → (b : Bool) → b ≡ true → (i : ℕ) × (i < length (listed f n ++ cond b (n ∷ []) [])) × (get_or (listed f n ++ cond b (n ∷ []) []) i d ≡ q)
    here e b h = rw h (length (listed f n) + 0, omega (arith, length-append (listed f n) (n ∷ [])), get_or-append-add (listed f n) (n ∷ []) 0 d ∙ sym e)

    there : (i : ℕ) × (i < length (listed f n)) × (get_or (listed f n) i d ≡ q) → (i : ℕ) × (i < length (listed f n ++ cond (f n) (n ∷ []) [])) × (get_or (listed f n ++ cond (f n) (n ∷ []) []) i d ≡ q)
    there (i, h, g) = (i, omega (arith, length-append (listed f n) (cond (f n) (n ∷ []) [])), get_or-append (listed f n) (cond (f n) (n ∷ []) []) d i h ∙ g)

-- and later ones are larger
pub listed_ascends : (f : ℕ → Bool) (n i j d : ℕ) → i < j → j < length (listed f n) → get_or (listed f n) i d < get_or (listed f n) j d
unfolding listed
listed_ascends f zero i j d l h = absurd (omega arith)
listed_ascends f (suc n) i j d l h = go (f n) (listed_ascends f n i j d l) (lt-or-le j (length (listed f n))) h
  where
    early : (b : Bool) (k : ℕ) → k < length (listed f n) → get_or (listed f n ++ cond b (n ∷ []) []) k d ≡ get_or (listed f n) k d
    early b k m = get_or-append (listed f n) (cond b (n ∷ []) []) d k m

    go : (b : Bool) → (j < length (listed f n) → get_or (listed f n) i d < get_or (listed f n) j d) → (j < length (listed f n)) ⊎ (length (listed f n) ≤ j) → j < length (listed f n ++ cond b (n ∷ []) [])
        → get_or (listed f n ++ cond b (n ∷ []) []) i d < get_or (listed f n ++ cond b (n ∷ []) []) j d
    go b ih (inl m) k = omega (arith, early b i (omega arith), early b j m, ih m)
    go true ih (inr m) k =
        let at : j ≡ length (listed f n) + 0 = omega (arith, length-append (listed f n) (n ∷ [])) in
        let same : get_or (listed f n ++ (n ∷ [])) j d ≡ n = ap (λ (x : ℕ). get_or (listed f n ++ (n ∷ [])) x d) at ∙ get_or-append-add (listed f n) (n ∷ []) 0 d in
        let before : i < length (listed f n) = omega arith in
        omega (arith, early true i before, (listed_passes f n i d before).0)
    go false ih (inr m) k = absurd (omega (arith, length-append (listed f n) []))

-- the list begins with the smallest, and goes on with the others
pub listed_cons : (f : ℕ → Bool) (n q : ℕ) → Smallest f n q → listed f n ≡ q ∷ listed (λ k. f k && not (eqb k q)) n
unfolding listed
listed_cons f zero q l = absurd (omega (arith, l.within))
listed_cons f (suc n) q l = ⊎_elim (λ (e : q ≡ n). here e) (λ (e : q ≡ n → ⊥). there e (listed_cons f n q (record { within = omega (arith, l.within); passes = l.passes; first = l.first }))) (eq_or_ne q n)
  where
    g : ℕ → Bool
    g k = f k && not (eqb k q)

    here : q ≡ n → listed f n ++ cond (f n) (n ∷ []) [] ≡ q ∷ (listed (λ k. f k && not (eqb k q)) n ++ cond (f n && not (eqb n q)) (n ∷ []) [])
    here e =
        let p : f n ≡ true = ap f (sym e) ∙ l.passes in
        let s : eqb n q ≡ true = eq-eqb n q (sym e) in
        let lf : Nobody f n = λ k h. l.first k (omega arith) in
        rw (p, s, listed-none f n lf, listed-none (λ k. f k && not (eqb k q)) n (λ k h. and_not_l (f k) (not (eqb k q)) (lf k h))) (ap (λ (x : ℕ). x ∷ []) (sym e))

    there : (q ≡ n → ⊥) → listed f n ≡ q ∷ listed (λ k. f k && not (eqb k q)) n → listed f n ++ cond (f n) (n ∷ []) [] ≡ q ∷ (listed (λ k. f k && not (eqb k q)) n ++ cond (f n && not (eqb n q)) (n ∷ []) [])
    there e ih =
        let s : eqb n q ≡ false = ne_eqb n q (λ x. e (sym x)) in
        rw (ih, s) (ap (λ (b : Bool). q ∷ (listed (λ k. f k && not (eqb k q)) n ++ cond b (n ∷ []) [])) (sym (last (f n))))
      where
        last : (b : Bool) → b && true ≡ b
        last true = refl
        last false = refl

-- a word's list begins with its smallest member, and goes on with those of the word without it
pub listed-first : (w n q : ℕ) → Smallest (has w) n q → listed (has w) n ≡ q ∷ listed (has (minus w (only q))) n
listed-first w n q s =
    listed_cons (has w) n q s
    ∙ ap (λ (l : List ℕ). q ∷ l) (listed_cong (λ k. has w k && not (eqb k q)) (has (minus w (only q))) n (λ k l. sym (has-minus w (only q) k ∙ ap (λ (b : Bool). has w k && not b) (has-only q k))))

pub count-first : (w n q : ℕ) → Smallest (has w) n q → count (has w) n ≡ suc (count (has (minus w (only q))) n)
count-first w n q s = sym (length-listed (has w) n) ∙ ap length (listed-first w n q s) ∙ ap suc (length-listed (has (minus w (only q))) n)

-- a word of n digits that is not empty has a smallest member, and without it one member less
pub first_member : (w n d q : ℕ) → w < 2 ^ n → (w ≡ 0 → ⊥) → q ≡ smallest (has w) n d → Smallest (has w) n q
first_member w n d q b h e = subst (Smallest (has w) n) (sym e) (go (smallest (has w) n d) (smallest-cases (has w) n d))
  where
    go : (r : ℕ) → LeastOf (has w) n d r → Smallest (has w) n r
    go r (least s) = s
    go r (LeastOf.empty f) = absurd (h (none_in w (λ k t. clash (has w k) t (f k (has-lt w n k b t)))))

pub last_member : (w n d q : ℕ) → w < 2 ^ n → (w ≡ 0 → ⊥) → q ≡ largest (has w) n d → Largest (has w) n q
last_member w n d q b h e = subst (Largest (has w) n) (sym e) (go (largest (has w) n d) (largest-cases (has w) n d))
  where
    go : (r : ℕ) → TopOf (has w) n d r → Largest (has w) n r
    go r (top s) = s
    go r (TopOf.empty f) = absurd (h (none_in w (λ k t. clash (has w k) t (f k (has-lt w n k b t)))))

pub first_less : (w n d q o w' : ℕ) → w < 2 ^ n → (w ≡ 0 → ⊥) → q ≡ smallest (has w) n d → o ≡ only q → w' ≡ minus w o → count (has w') n < count (has w) n
first_less w n d q o w' b h e eo ew =
    let sz : count (has w) n ≡ suc (count (has (minus w (only q))) n) = count-first w n q (first_member w n d q b h e) in
    subst (λ (x : ℕ). count (has x) n < count (has w) n) (sym (ew ∙ ap (minus w) eo)) (omega arith)

-- ---- every

pub every-at : (f : ℕ → Bool) (n k : ℕ) → every f n ≡ true → k < n → f k ≡ true
unfolding every
every-at f zero k h l = absurd (omega arith)
every-at f (suc n) k h l = ⊎_elim (λ (q : k ≡ n). ap f q ∙ and_r (every f n) (f n) h) (λ (q : k ≡ n → ⊥). every-at f n k (and_l (every f n) (f n) h) (omega arith)) (eq_or_ne k n)

pub every_i : (f : ℕ → Bool) (n : ℕ) → ((k : ℕ) → k < n → f k ≡ true) → every f n ≡ true
unfolding every
every_i f zero h = refl
every_i f (suc n) h = and_i (every f n) (f n) (every_i f n (λ k l. h k (omega arith))) (h n (omega arith))

pub every-not : (f : ℕ → Bool) (n k : ℕ) → k < n → f k ≡ false → every f n ≡ false
every-not f n k l h = fails (every f n) (λ t. clash (f k) (every-at f n k t l) h)

-- ---- some

pub some-zero : (f : ℕ → Bool) → some f 0 ≡ false
unfolding some
some-zero f = refl

pub some-suc : (f : ℕ → Bool) (n : ℕ) → some f (suc n) ≡ some f n || f n
unfolding some
some-suc f n = refl

pub some_one : (f : ℕ → Bool) (n : ℕ) → some f n ≡ true → (k : ℕ) × (k < n) × (f k ≡ true)
some_one f zero e = absurd (clash (some f 0) e (some-zero f))
some_one f (suc n) e = ⊎_elim
    (λ (h : some f n ≡ true). let r = some_one f n h in (r.0, omega (arith, r.1), r.2))
    (λ (h : f n ≡ true). (n, omega arith, h))
    (or_cases (some f n) (f n) (sym (some-suc f n) ∙ e))
