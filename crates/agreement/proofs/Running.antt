-- A run step by step: what holds of a fresh group, and that each accepted event of a run is a move. Over any ancestor sets. Assumes nothing.
use mathlib.Core.Path.{◌≡◌, sym, ap, subst, ◌∙◌}
use mathlib.Core.Bool.{true}
use Prim.Native.Nat.{ℕ, ◌≤◌, ◌<◌}
use native.Mathlib.Omega.{arith}
use Rattle.sets.specs.Sets.{has}
use Rattle.sets.proofs.Laws.Bools.{clash}
use Rattle.sets.proofs.Laws.Members.{has-zero}
use Rattle.tree.specs.Relations.{Ancestry}
use Rattle.rank.specs.declared.Rank.{Rank}
use Rattle.rank.specs.Words.{outside}
use Rattle.rank.specs.Triples.{fresh_triple}
use Rattle.rank.specs.Records.{fresh_rank}
use Rattle.rank.specs.declared.Triple.{Triple}
use Rattle.rank.proofs.Laws.Keeping.{fresh-outside, fresh_heard, fresh_owed, fresh-triple}
use Rattle.events.specs.declared.Event.{Event}
use Rattle.state.specs.declared.State.{State}
use Rattle.state.specs.States.{rank_at}
use Rattle.state.specs.Starting.{fresh_state, started}
use Rattle.state.proofs.Laws.Starting.{started-fresh, fresh-rank-at, fresh-count}
use Rattle.group.specs.Events.{event}
use Rattle.group.specs.Reaching.{Reaches, begun, next}
use Rattle.group.proofs.Scenes.{Scene, scene}
use Rattle.group.proofs.Moves.{Move, Entry}
use Rattle.group.proofs.Laws.Following.{event-moves}
use Rattle.group.proofs.Laws.Reached.{reached-small, reached_in_order, reached-size}
use Rattle.group.proofs.Demands.{known_deaths_are_deaths}
use Rattle.agreement.proofs.Living.{Quiet, Truthful}

-- ---- a fresh group: all are outside with a fresh triple, nobody has heard or owes anybody, nothing is in flight

module _ (anc : ℕ → ℕ) (n form span : ℕ) (small : n ≤ 64) where
  pub quiet : Quiet (scene (fresh_state anc n form span))
  quiet k b x h = let l = h.1.listed in omega (arith, fresh-count anc n form span)

  pub all-outside : (i : ℕ) → i < n → (rank_at (fresh_state anc n form span) i).phase ≡ outside
  all-outside i l = ap (λ (r : Rank). r.phase) (fresh-rank-at anc n form span i small l) ∙ fresh-outside anc n i

  pub all-fresh : (i : ℕ) → i < n → (rank_at (fresh_state anc n form span) i).triple ≡ fresh_triple n
  all-fresh i l = ap (λ (r : Rank). r.triple) (fresh-rank-at anc n form span i small l) ∙ fresh-triple anc n i

  -- a set that is empty in a fresh rank
  empty : (set : Rank → ℕ) → ((i : ℕ) → set (fresh_rank anc n i) ≡ 0) → (i x : ℕ) → i < n → has (set (rank_at (fresh_state anc n form span) i)) x ≡ true → ⊥
  empty set e i x l h = clash (has 0 x) (subst (λ (w : ℕ). has w x ≡ true) (ap set (fresh-rank-at anc n form span i small l) ∙ e i) h) (has-zero x)

  pub none_heard : (i x : ℕ) → i < n → has (rank_at (fresh_state anc n form span) i).heard x ≡ true → ⊥
  none_heard = empty (λ r. r.heard) (fresh_heard anc n)

  pub none_owed : (i x : ℕ) → i < n → has (rank_at (fresh_state anc n form span) i).owed x ≡ true → ⊥
  none_owed = empty (λ r. r.owed) (fresh_owed anc n)

-- ---- an accepted event of a run

pub reached_truthful : (anc : ℕ → ℕ) (n : ℕ) (s : State) → Reaches anc n s → Truthful n (scene s)
reached_truthful anc n s run i k l h = known_deaths_are_deaths anc n s run i l k h

pub reached-moves : (anc : ℕ → ℕ) → Ancestry anc → (n : ℕ) (s : State) (ev : Event) → Reaches anc n s → (event anc s ev).answer ≡ 0 → Move anc n (Entry (scene s) ev) (scene s) (scene (event anc s ev).state)
reached-moves anc tree n s ev run z = subst (λ (m : ℕ). Move anc m (Entry (scene s) ev) (scene s) (scene (event anc s ev).state)) (reached-size anc n s run) (event-moves anc tree s ev (reached_in_order anc n s run) z)

-- What holds of a fresh group and is kept by every move holds in every reached state.
pub every-reached : (anc : ℕ → ℕ) → Ancestry anc → (n : ℕ) (I : Scene → Type 0) → ((form span : ℕ) → n ≤ 64 → I (scene (fresh_state anc n form span))) → ((E : ℕ → Triple → Type 0) (s s' : Scene) → n ≤ 64 → Truthful n s' → I s → Move anc n E s s' → I s')
    → (s : State) → Reaches anc n s → I (scene s)
every-reached anc tree n I first keep s (begun form span z) = subst (λ (x : State). I (scene x)) (sym (started-fresh anc n form span z).1) (first form span (reached-small anc n (started anc n form span).state (begun form span z)).1)
every-reached anc tree n I first keep s (next s' ev run z) =
    keep (Entry (scene s') ev) (scene s') (scene (event anc s' ev).state) (reached-small anc n s' run).1 (reached_truthful anc n (event anc s' ev).state (next s' ev run z))
    (every-reached anc tree n I first keep s' run) (reached-moves anc tree n s' ev run z)
