-- The invariant behind "nobody hangs". A rank is new while it is outside, or gathers with a parent; no rank becomes new. Whoever has been
-- heard, reports or waits has nobody new under it; while there is a new rank nobody has decided. A rank that waits is held: its report is on
-- the way, an answer is, or its parent owes it one. A child of a gathering root is polled: asked, or in debt to the root.
use Prim.Native.Nat.{ℕ, ◌<◌}
use native.Mathlib.Omega.{arith}
use mathlib.Core.Path.{◌≡◌}
use mathlib.Core.Bool.{true, false}
use mathlib.Core.Logic.{◌⊎◌, inl, inr, ⊎_elim}
use Rattle.sets.specs.Sets.{has}
use Rattle.tree.specs.Tree.{parent, children}
use Rattle.tree.proofs.Kin.{Under}
use Rattle.rank.specs.declared.Rank.{Rank}
use Rattle.rank.specs.Words.{outside, gathering, waiting, decided, up, down, ask}
use Rattle.rank.proofs.Turn.{NoParent, Leads}
use Rattle.group.proofs.Scenes.{Scene, Flies}
use Rattle.agreement.proofs.Living.{Lives}

module _ (anc : ℕ → ℕ) (n : ℕ) where
  -- A living rank that is outside, or gathers with a parent.
  abbrev pub Early : ℕ → Rank → Type 0
  Early x r = (r.phase ≡ outside) ⊎ ((r.phase ≡ gathering) × (NoParent anc x r → ⊥))

  pub not_early : (x : ℕ) (r : Rank) → gathering < r.phase → Early x r → ⊥
  not_early x r l (inl e) = omega arith
  not_early x r l (inr h) = let e : r.phase ≡ gathering = h.0 in omega arith

  abbrev pub New : Scene → ℕ → Type 0
  New s x = Lives n s x × Early x (s.rank x)

  -- Nobody new is c, or under c.
  abbrev pub NoneNew : Scene → ℕ → Type 0
  NoneNew s c = (x : ℕ) → Under anc c x → New s x → ⊥

  -- Nobody, living or dead, has decided, and no DOWN is in flight.
  abbrev pub Calm : Scene → Type 0
  Calm s = ((b : ℕ) → b < n → (s.rank b).phase ≡ decided → ⊥) × ((b x : ℕ) → Flies s down b x → ⊥)

  -- Rank a, with record r, is undecided and owes x an answer; it has heard x, or gathers as a root and x is no child of it or is being asked.
  abbrev pub Owes : Type 0 → ℕ → Rank → ℕ → Type 0
  Owes asked a r x =
      (r.phase ≡ decided → ⊥) × (has r.owed x ≡ true)
      × ((has r.heard x ≡ true) ⊎ ((r.phase ≡ gathering) × NoParent anc a r × ((has (children anc n r.marks a) x ≡ false) ⊎ asked)))

  -- What is asked may change.
  pub owes_on : (A B : Type 0) (a : ℕ) (r : Rank) (x : ℕ) → (A → B) → Owes A a r x → Owes B a r x
  owes_on A B a r x f o = (
    o.0,
    o.1,
    ⊎_elim (λ (y : has r.heard x ≡ true). inl y)
        (λ (y : (r.phase ≡ gathering) × NoParent anc a r × ((has (children anc n r.marks a) x ≡ false) ⊎ A)).
        inr (y.0, y.1, ⊎_elim (λ (v : has (children anc n r.marks a) x ≡ false). inl v) (λ (v : A). inr (f v)) y.2)) o.2,
  )

  -- Rank x, which waits, is held by a.
  abbrev pub Held : Scene → ℕ → ℕ → Type 0
  Held s x a = Flies s up x a ⊎ (Flies s down a x ⊎ Owes (Flies s ask a x) a (s.rank a) x)

  -- Rank c is in debt to a.
  abbrev pub InDebt : Rank → ℕ → Type 0
  InDebt r a = (r.phase ≡ decided → ⊥) × (has r.owed a ≡ true)

  -- Rank c, a child, is polled by a.
  abbrev pub Polled : Scene → ℕ → ℕ → Type 0
  Polled s a c = Calm s ⊎ (Flies s ask a c ⊎ (InDebt (s.rank c) a ⊎ Flies s down c a))

  pub record Progress (s : Scene) : Type 0 where
    pub heard_old : (p q : ℕ) → p < n → has (s.rank p).heard q ≡ true → NoneNew s q
    pub report_old : (q b : ℕ) → Flies s up q b → NoneNew s q
    pub waiting_old : (p : ℕ) → p < n → (s.rank p).phase ≡ waiting → NoneNew s p
    pub new_calm : (x : ℕ) → New s x → Calm s
    pub held : (x a : ℕ) → Lives n s x → (s.rank x).phase ≡ waiting → parent anc (s.rank x).marks x ≡ a → Lives n s a → Held s x a
    pub polled : (a c : ℕ) → Lives n s a → (s.rank a).phase ≡ gathering → NoParent anc a (s.rank a) → Lives n s c → Leads anc n a (s.rank a) c → Polled s a c
