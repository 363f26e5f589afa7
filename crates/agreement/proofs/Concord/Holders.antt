-- Whose results the claim is about, the living: all that is used of them where the claim itself is. Assumes nothing.
use Prim.Native.Nat.{ℕ, ◌<◌}
use Rattle.rank.specs.declared.Send.{Send}
use Rattle.group.proofs.Scenes.{Scene}
use Rattle.group.proofs.Moves.{ByRank, ByLoss}
use Rattle.agreement.proofs.Living.{Lives, lived, faded}

abbrev pub Holder : ℕ → Scene → ℕ → Type 0
Holder n s i = Lives n s i

pub holder_in : (n : ℕ) (s : Scene) (i : ℕ) → Holder n s i → i < n
holder_in n s i l = l.0

pub lives_holds : (n : ℕ) (s : Scene) (i : ℕ) → Lives n s i → Holder n s i
lives_holds n s i l = l

-- where a rank takes its turn, and where ranks die, a holder was one before
pub held : {anc : ℕ → ℕ} {n : ℕ} {s s' : Scene} {p kind q : ℕ} {f g : Send} → ByRank anc n s s' p kind q f g → (i : ℕ) → Holder n s' i → Holder n s i
held t i l = lived t i l

pub faded_holder : {n : ℕ} {s s' : Scene} → ByLoss s s' → (i : ℕ) → Holder n s' i → Holder n s i
faded_holder t i l = faded t i l
