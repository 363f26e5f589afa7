-- The words of the claims, said of a scene; and who lives and who is marked when a rank takes its turn: what every invariant's proof uses.
-- Assumes nothing.
use mathlib.Core.Path.{◌≡◌, sym, subst}
use mathlib.Core.Bool.{true, false}
use Prim.Native.Nat.{ℕ, ◌<◌}
use native.Mathlib.Omega.{arith}
use Rattle.sets.specs.Sets.{has}
use Rattle.sets.proofs.Laws.Bools.{clash, fails}
use Rattle.rank.specs.declared.Send.{Send}
use Rattle.rank.specs.Words.{outside, decided}
use Rattle.group.proofs.Scenes.{Scene, Flies}
use Rattle.group.proofs.Moves.{ByRank, ByLoss}

-- Of the scene of a state these are, by computation, what specs/Progress says of the state; but quiet is that nothing flies.
abbrev pub Lives : ℕ → Scene → ℕ → Type 0
Lives n s i = (i < n) × (has s.dead i ≡ false)

abbrev pub Quiet : Scene → Type 0
Quiet s = (kind from to : ℕ) → Flies s kind from to → ⊥

abbrev pub AllEntered : ℕ → Scene → Type 0
AllEntered n s = (i : ℕ) → Lives n s i → (s.rank i).phase ≡ outside → ⊥

abbrev pub AllDeathsKnown : ℕ → Scene → Type 0
AllDeathsKnown n s = (i k : ℕ) → Lives n s i → has s.dead k ≡ true → has (s.rank i).marks k ≡ true

abbrev pub AllDecided : ℕ → Scene → Type 0
AllDecided n s = (i : ℕ) → Lives n s i → (s.rank i).phase ≡ decided

-- Every death that a rank has marked is one.
abbrev pub Truthful : ℕ → Scene → Type 0
Truthful n s = (i k : ℕ) → i < n → has (s.rank i).marks k ≡ true → has s.dead k ≡ true

module _ {anc : ℕ → ℕ} {n : ℕ} {s s' : Scene} {p kind q : ℕ} {f g : Send} (t : ByRank anc n s s' p kind q f g) where
  pub lived : (x : ℕ) → Lives n s' x → Lives n s x
  lived x l = (l.0, subst (λ (w : ℕ). has w x ≡ false) t.dead_stays l.1)

  pub own_lives : Lives n s' p
  own_lives = (t.own, subst (λ (w : ℕ). has w p ≡ false) (sym t.dead_stays) t.lives)

  -- whoever lives is unmarked by the rank whose turn it is
  pub unmarked : Truthful n s' → (x : ℕ) → Lives n s' x → has (s'.rank p).marks x ≡ false
  unmarked true' x l = fails (has (s'.rank p).marks x) (λ h. clash (has s'.dead x) (true' p x t.own h) l.1)

  -- the message that it took
  pub taken : (k : ℕ) → 0 < k → kind ≡ k → Flies s k q p
  taken k l e = subst (λ (j : ℕ). Flies s j q p) e (t.took (λ z. omega arith))

-- where ranks die, whoever lives lived
pub faded : {n : ℕ} {s s' : Scene} → ByLoss s s' → (x : ℕ) → Lives n s' x → Lives n s x
faded {n} {s} {s'} t x l = (l.0, fails (has s.dead x) (λ h. clash (has s'.dead x) (t.dead_stays x h) l.1))
