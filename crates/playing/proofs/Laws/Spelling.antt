-- Spelling events out, along its code: the first k stand at their places. Assumes nothing.
use mathlib.Core.Path.{◌≡◌, refl, sym, ap, ◌∙◌}
use mathlib.Core.List.{List}
use Prim.Native.Nat.{ℕ, suc, ◌+◌, ◌*◌, ◌≤◌, ◌<◌}
use native.Mathlib.Numerals.{add-one}
use native.Mathlib.Omega.{arith}
use lib.ListN.{length}
use Rattle.events.specs.declared.Event.{Event}
use Rattle.playing.specs.Playing.{written, spelt}
use Rattle.playing.proofs.Laws.Slices.{written-long}

pub record Spelling (events : ℕ → Event) (total : ℕ) (out₀ out : List ℕ) (k : ℕ) : Type 0 where
  pub room : 3 * total ≤ length out
  pub within : k ≤ total
  pub kept : length out ≡ length out₀
  pub so_far : out ≡ spelt events k out₀

pub spelling_start : (events : ℕ → Event) (total : ℕ) (out : List ℕ) → 3 * total ≤ length out → Spelling events total out out 0
unfolding spelt
spelling_start events total out r = record { room = r; within = omega arith; kept = refl; so_far = refl }

pub spelling_room : (events : ℕ → Event) (total : ℕ) (out₀ out : List ℕ) (k : ℕ) → Spelling events total out₀ out k → k < total → 3 * k + 3 ≤ length out
spelling_room events total out₀ out k g l = omega (arith, g.room)

pub spelling_on : (events : ℕ → Event) (total : ℕ) (out₀ out : List ℕ) (k : ℕ) (ev : Event) (v : List ℕ) → Spelling events total out₀ out k → k < total → ev ≡ events k → v ≡ written out k ev.kind ev.a ev.b
    → Spelling events total out₀ v (k + 1)
unfolding spelt
spelling_on events total out₀ out k ev v g l e f =
    let long : length v ≡ length out = ap length f ∙ written-long out k ev.kind ev.a ev.b in
    let next : v ≡ spelt events (suc k) out₀ = f ∙ rw (e, g.so_far) in
    record { room = omega (arith, g.room); within = omega arith; kept = long ∙ g.kept; so_far = next ∙ ap (λ (i : ℕ). spelt events i out₀) (sym (add-one k)) }

pub spelling_end : (events : ℕ → Event) (total : ℕ) (out₀ out : List ℕ) (k : ℕ) → Spelling events total out₀ out k → total ≤ k → out ≡ spelt events total out₀
spelling_end events total out₀ out k g l = let e : k ≡ total = omega (arith, g.within) in g.so_far ∙ ap (λ (i : ℕ). spelt events i out₀) e
