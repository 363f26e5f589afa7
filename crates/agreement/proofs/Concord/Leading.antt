-- Who may lead and who may tell, where some ranks are dead: a rank has one living parent, and whoever may tell a covered rank is covered too.
-- Over any ancestor sets with their chain law. Assumes nothing.
use mathlib.Core.Path.{◌≡◌, sym}
use mathlib.Core.Bool.{true, false}
use mathlib.Core.Logic.{◌⊎◌, inl, inr, ⊎_elim}
use Prim.Native.Nat.{ℕ, ◌≤◌, ◌<◌}
use native.Mathlib.Omega.{arith}
use Rattle.sets.specs.Sets.{has}
use Rattle.sets.proofs.Laws.Bools.{clash, lt-or-le, eq_or_ne}
use Rattle.tree.specs.Relations.{Above, Ancestry, Chained}
use Rattle.tree.proofs.Kin.{Under, MayLead}
use Rattle.tree.proofs.Laws.Children.{under_trans, under_le, under_chain}
use Rattle.agreement.proofs.Concord.Invariant.{MayTell}

-- of two numbers one is smaller, or they are equal
order : (a b : ℕ) → (a < b) ⊎ ((a ≡ b) ⊎ (b < a))
order a b = ⊎_elim (λ (l : a < b). inl l) (λ (l : b ≤ a). inr (⊎_elim (λ (e : a ≡ b). inl e) (λ (d : a ≡ b → ⊥). inr (omega arith)) (eq_or_ne a b))) (lt-or-le a b)

-- In a view that marks only dead ranks y is p's parent and lives; whoever is unmarked there and may be p's parent is y.
pub one_parent : (anc : ℕ → ℕ) (marks dead p y b : ℕ) → MayLead anc marks p y → has dead y ≡ false → has marks b ≡ false → MayLead anc dead p b → y ≡ b
one_parent anc marks dead p y b v alive free d = go (order y b)
  where
    lower : y < b → Above anc p b ⊎ ((a : ℕ) → a < b → has dead a ≡ true) → ⊥
    lower l (inl h) = clash (has marks b) (v.between b h l) free
    lower l (inr h) = clash (has dead y) (h y l) alive

    higher : b < y → Above anc p y ⊎ ((a : ℕ) → a < y → has marks a ≡ true) → ⊥
    higher l (inl h) = clash (has dead y) (d.between y h l) alive
    higher l (inr h) = clash (has marks b) (h b l) free

    go : (y < b) ⊎ ((y ≡ b) ⊎ (b < y)) → y ≡ b
    go (inl l) = absurd (lower l d.either)
    go (inr (inl e)) = e
    go (inr (inr l)) = absurd (higher l v.either)

module _ (anc : ℕ → ℕ) (tree : Ancestry anc) (chain : Chained anc) (dead y c x p : ℕ) (y-lives : has dead y ≡ false) (p-lives : has dead p ≡ false) (other : x ≡ y → ⊥) (under : Under anc c x) where
  -- an ancestor of c, or c itself, is an ancestor of x
  above : Under anc y c → Above anc x y
  above u = ⊎_elim (λ (e : x ≡ y). absurd (other e)) (λ (h : Above anc x y). h) (under_trans anc tree y c x u under)

  -- nobody above p that lives is an ancestor of x if p may lead x
  beyond : MayLead anc dead x p → p < y → Under anc y c → ⊥
  beyond m l u = clash (has dead y) (m.between y (above u) l) y-lives

  higher : MayLead anc dead x p → p < y → (c ≡ y) ⊎ MayLead anc dead c y → ⊥
  higher m l (inl e) = beyond m l (inl e)
  higher m l (inr k) = ⊎_elim (λ (h : Above anc c y). beyond m l (inr h)) (λ (h : (a : ℕ) → a < y → has dead a ≡ true). clash (has dead p) (h p l) p-lives) k.either

  -- Living y covers x through c, and living p, who is not y, may tell x: then c stands above p, or is p.
  pub teller_covered : (y ≡ p → ⊥) → (c ≡ y) ⊎ MayLead anc dead c y → MayTell anc dead p x → Under anc c p
  teller_covered d k (inr h) = absurd (clash (has dead y) (h y (below k)) y-lives)
    where
      below : (c ≡ y) ⊎ MayLead anc dead c y → y < x
      below (inl e) = let l : c ≤ x = under_le anc tree c x under in omega arith
      below (inr m) = let l : c ≤ x = under_le anc tree c x under in let o : y < c = m.smaller in omega arith
  teller_covered d k (inl m) = by m.either
    where
      over : Above anc c p → Under anc c p
      over h = go (order p y) k
        where
          go : (p < y) ⊎ ((p ≡ y) ⊎ (y < p)) → (c ≡ y) ⊎ MayLead anc dead c y → Under anc c p
          go (inl l) k' = absurd (higher m l k')
          go (inr (inl e)) k' = absurd (d (sym e))
          go (inr (inr l)) (inl e) = let o : p < c = tree.smaller c p h in absurd (omega arith)
          go (inr (inr l)) (inr m') = absurd (clash (has dead p) (m'.between p h l) p-lives)

      by : Above anc x p ⊎ ((a : ℕ) → a < p → has dead a ≡ true) → Under anc c p
      by (inl h) = ⊎_elim (λ (g : Under anc c p). g) (λ (g : Under anc p c). ⊎_elim (λ (e : c ≡ p). inl (sym e)) over g) (under_chain anc chain c p x under (inr h))
      by (inr h) = absurd (at (order y p))
        where
          at : (y < p) ⊎ ((y ≡ p) ⊎ (p < y)) → ⊥
          at (inl l) = clash (has dead y) (h y l) y-lives
          at (inr (inl e)) = d e
          at (inr (inr l)) = higher m l k
