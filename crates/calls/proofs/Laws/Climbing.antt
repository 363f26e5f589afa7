-- A climb along its code, and that its reply is determined by number, rank and links. Assumes nothing.
use mathlib.Core.Path.{◌≡◌, refl, sym, ap, subst, ◌∙◌}
use mathlib.Core.Bool.{Bool, true, false, cond, not}
use mathlib.Core.Logic.{⊎_elim}
use Prim.Native.Nat.{ℕ, zero, suc, ◌+◌, ◌≤◌, ◌<◌}
use native.Mathlib.Nat.{le_refl, add-zero}
use native.Mathlib.Omega.{arith}
use lib.Dec.{eqb, ltb}
use borrow.Author.Tests.{eqb-true, eq-eqb, ltb-true, lt-ltb, le-ltb}
use Rattle.std.proofs.Common.{None, Some, Result, Ok, Err, add-one}
use Rattle.sets.specs.Sets.{none, found, has, meet, below}
use Rattle.sets.proofs.Laws.Bools.{clash, eq_or_ne}
use Rattle.sets.proofs.Laws.Found.{found-some, is_found, nobody_found}
use Rattle.answers.specs.declared.Refusal.{Refusal}
use Rattle.answers.specs.Answers.{number}
use Rattle.answers.specs.Refusals.{accepted, bad_rank, dead_rank, too_short}
use Rattle.answers.proofs.Laws.Numbers.{number-not_0, number-one_to_one}
use Rattle.tree.specs.Tree.{parent, links, reached}
use Rattle.tree.specs.Forms.{tree_of}
use Rattle.tree.proofs.Laws.Climbing.{Climbing, links-root, links_link, climbing-start, climbing-step, climbing-reached, climbing-links}
use Rattle.calls.specs.Calls.{Told, told, not_climbed, named, misshapen, climbing, climbed}
use Rattle.calls.proofs.Laws.Shapes.{view-le, shape_numbers}
use Rattle.calls.specs.declared.Climbed.{Climbed}
use Rattle.calls.specs.declared.NotClimbed.{NotClimbed}
use Rattle.calls.specs.declared.NotClimbed.TheVariants.{Refused, FromMarked, Short}

pub climbing-root : (anc : ℕ → ℕ) (marks p k at allowance : ℕ) → Climbing anc marks p k at → None ≡ found (parent anc marks at) → k ≤ allowance → told (Ok (record { rank = at; links = k })) ≡ climbing anc marks p allowance
unfolding told climbing
climbing-root anc marks p k at allowance c u l =
    let n : links anc marks p ≡ k = climbing-links anc marks p k at c ∙ ap (λ (x : ℕ). k + x) (links-root anc marks at (nobody_found (parent anc marks at) u)) ∙ add-zero k in
    rw (n, climbing-reached anc marks p k at c, le-ltb allowance k l)

pub climbing_short : (anc : ℕ → ℕ) (marks p k at up allowance : ℕ) → Climbing anc marks p k at → Some up ≡ found (parent anc marks at) → k ≡ allowance → told (Err (Short (record { rank = at; links = k }))) ≡ climbing anc marks p allowance
unfolding told climbing
climbing_short anc marks p k at up allowance c u e =
    let n : allowance < links anc marks p = omega (arith, climbing-links anc marks p k at c, links_link anc marks at (parent anc marks at) refl (is_found (parent anc marks at) up u).1) in
    rw (lt-ltb allowance (links anc marks p) n, ← e, climbing-reached anc marks p k at c)

-- ---- a rank that is named is below 64

pub named_ok : (c : Climbed) (t : Told) → told (Ok c) ≡ t → c.rank < 64 → named (Ok c) ≡ found t.rank
unfolding told named
named_ok c t e l = found-some t.rank c.rank (ap (λ (x : Told). x.rank) e) (omega arith)

pub named_short : (c : Climbed) (t : Told) → told (Err (Short c)) ≡ t → c.rank < 64 → named (Err (Short c)) ≡ found t.rank
unfolding told named
named_short c t e l = found-some t.rank c.rank (ap (λ (x : Told). x.rank) e) (omega arith)

-- ---- any reply is determined by what is told and named

pub told_determines : (a b : Result Climbed NotClimbed) → told a ≡ told b → named a ≡ named b → a ≡ b
unfolding told named
told_determines (Ok c) (Ok d) e f = ap (λ (t : Told). Ok (record { rank = t.rank; links = t.climbed })) e
told_determines (Ok c) (Err (Refused _)) e f = cc
told_determines (Ok c) (Err (FromMarked _)) e f = let n = ap (λ (t : Told). t.number) e in absurd (omega arith)
told_determines (Ok c) (Err (Short _)) e f = let n = ap (λ (t : Told). t.number) e in absurd (omega arith)
told_determines (Err (Refused x)) (Ok d) e f = cc
told_determines (Err (Refused x)) (Err (Refused y)) e f = ap (λ (z : _). Err (Refused z)) (number-one_to_one x y (ap (λ (t : Told). t.number) e))
told_determines (Err (Refused x)) (Err (FromMarked _)) e f = cc
told_determines (Err (Refused x)) (Err (Short _)) e f = cc
told_determines (Err (FromMarked r)) (Ok d) e f = let n = ap (λ (t : Told). t.number) e in absurd (omega arith)
told_determines (Err (FromMarked r)) (Err (Refused _)) e f = cc
told_determines (Err (FromMarked r)) (Err (FromMarked s)) e f = ap (λ (t : Told). Err (FromMarked t.rank)) e
told_determines (Err (FromMarked r)) (Err (Short _)) e f = let n = ap (λ (t : Told). t.number) e in absurd (omega arith)
told_determines (Err (Short c)) (Ok d) e f = let n = ap (λ (t : Told). t.number) e in absurd (omega arith)
told_determines (Err (Short c)) (Err (Refused _)) e f = cc
told_determines (Err (Short c)) (Err (FromMarked _)) e f = let n = ap (λ (t : Told). t.number) e in absurd (omega arith)
told_determines (Err (Short c)) (Err (Short d)) e f = ap (λ (t : Told). Err (Short (record { rank = t.rank; links = t.climbed }))) e

-- ---- a reply whose rank stands in its case is determined by what is told alone

-- A refusal that names a rank stands in the case that holds it: 6 in FromMarked, 12 in Short.
abbrev pub InCase : Result Climbed NotClimbed → Type 0
InCase (Ok c) = Unit {0}
InCase (Err (Refused e)) = (number e ≡ dead_rank → ⊥) × (number e ≡ too_short → ⊥)
InCase (Err (FromMarked r)) = Unit {0}
InCase (Err (Short c)) = Unit {0}

accepts-nobody : (e : Refusal) → number e ≡ accepted → ⊥
accepts-nobody e z = clash (eqb (number e) 0) (eq-eqb (number e) 0 z) (number-not_0 e)

pub told_alone_determines : (a b : Result Climbed NotClimbed) → InCase a → InCase b → told a ≡ told b → a ≡ b
unfolding told
told_alone_determines (Ok c) (Ok d) x y e = ap (λ (t : Told). Ok (record { rank = t.rank; links = t.climbed })) e
told_alone_determines (Ok c) (Err (Refused q)) x y e = absurd (accepts-nobody q (sym (ap (λ (t : Told). t.number) e)))
told_alone_determines (Ok c) (Err (FromMarked _)) x y e = let n = ap (λ (t : Told). t.number) e in absurd (omega arith)
told_alone_determines (Ok c) (Err (Short _)) x y e = let n = ap (λ (t : Told). t.number) e in absurd (omega arith)
told_alone_determines (Err (Refused p)) (Ok d) x y e = absurd (accepts-nobody p (ap (λ (t : Told). t.number) e))
told_alone_determines (Err (Refused p)) (Err (Refused q)) x y e = ap (λ (z : _). Err (Refused z)) (number-one_to_one p q (ap (λ (t : Told). t.number) e))
told_alone_determines (Err (Refused p)) (Err (FromMarked _)) x y e = absurd (x.0 (ap (λ (t : Told). t.number) e))
told_alone_determines (Err (Refused p)) (Err (Short _)) x y e = absurd (x.1 (ap (λ (t : Told). t.number) e))
told_alone_determines (Err (FromMarked r)) (Ok d) x y e = let n = ap (λ (t : Told). t.number) e in absurd (omega arith)
told_alone_determines (Err (FromMarked r)) (Err (Refused q)) x y e = absurd (y.0 (sym (ap (λ (t : Told). t.number) e)))
told_alone_determines (Err (FromMarked r)) (Err (FromMarked s)) x y e = ap (λ (t : Told). Err (FromMarked t.rank)) e
told_alone_determines (Err (FromMarked r)) (Err (Short _)) x y e = let n = ap (λ (t : Told). t.number) e in absurd (omega arith)
told_alone_determines (Err (Short c)) (Ok d) x y e = let n = ap (λ (t : Told). t.number) e in absurd (omega arith)
told_alone_determines (Err (Short c)) (Err (Refused q)) x y e = absurd (y.1 (sym (ap (λ (t : Told). t.number) e)))
told_alone_determines (Err (Short c)) (Err (FromMarked _)) x y e = let n = ap (λ (t : Told). t.number) e in absurd (omega arith)
told_alone_determines (Err (Short c)) (Err (Short d)) x y e = ap (λ (t : Told). Err (Short (record { rank = t.rank; links = t.climbed }))) e

-- ---- and so stands every reply of a climb

-- a climb that goes no further than its path stands at a rank of it
stands : (anc : ℕ → ℕ) (marks p k : ℕ) → k ≤ links anc marks p → (at : ℕ) × Climbing anc marks p k at
stands anc marks p zero l = (p, climbing-start anc marks p)
stands anc marks p (suc k) l = go (stands anc marks p k (omega arith))
  where
    go : (at : ℕ) × Climbing anc marks p k at → (at : ℕ) × Climbing anc marks p (suc k) at
    go (at, c) =
        ⊎_elim (λ (z : parent anc marks at ≡ none). absurd (omega (arith, climbing-links anc marks p k at c, links-root anc marks at z)))
        (λ (h : parent anc marks at ≡ none → ⊥). (parent anc marks at, subst (λ (j : ℕ). Climbing anc marks p j (parent anc marks at)) (add-one k) (climbing-step anc marks p k at (parent anc marks at) c (found-some (parent anc marks at) (parent anc marks at) refl h))))
        (eq_or_ne (parent anc marks at) none)

reached-le : (anc : ℕ → ℕ) (marks p k : ℕ) → k ≤ links anc marks p → reached anc marks p k ≤ p
reached-le anc marks p k l = let s = stands anc marks p k l in rw (climbing-reached anc marks p k s.0 s.1) s.1.within

module _ (n form span marks p allowance : ℕ) where
  abbrev anc : ℕ → ℕ
  anc = tree_of form span

  abbrev view : ℕ
  view = meet marks (below n)

  -- What a climb tells names a rank below 64, or is a refusal that names none.
  pub climbed_by : (P : Told → Type 0) → ((k : ℕ) → (k ≡ dead_rank → ⊥) → (k ≡ too_short → ⊥) → P (not_climbed k)) → ((t : Told) → t.rank < 64 → P t) → P (climbed n form span marks p allowance)
  unfolding climbed climbing
  climbed_by P refuses names = shape (eqb (misshapen n form span) 0) refl
    where
      path : p < 64 → (b : Bool) → ltb allowance (links anc view p) ≡ b
          → P (cond b (record { number = too_short; rank = reached anc view p allowance; climbed = allowance }) (record { number = accepted; rank = reached anc view p (links anc view p); climbed = links anc view p }))
      path l true e = names _ (let a : allowance < links anc view p = ltb-true allowance (links anc view p) e in omega (arith, reached-le anc view p allowance (omega arith)))
      path l false e = names _ (omega (arith, reached-le anc view p (links anc view p) (le_refl (links anc view p))))

      from : p < 64 → (b : Bool) → has view p ≡ b → P (cond b (record { number = dead_rank; rank = p; climbed = 0 }) (climbing anc view p allowance))
      from l true e = names _ l
      from l false e = path l (ltb allowance (links anc view p)) refl

      rank : n ≤ 64 → (b : Bool) → ltb p n ≡ b → P (cond (not b) (not_climbed bad_rank) (cond (has view p) (record { number = dead_rank; rank = p; climbed = 0 }) (climbing anc view p allowance)))
      rank l true e = let b : p < n = ltb-true p n e in from (omega arith) (has view p) refl
      rank l false e = refuses bad_rank (λ x. omega arith) (λ x. omega arith)

      shape : (b : Bool) → eqb (misshapen n form span) 0 ≡ b
          → P (cond (not b) (not_climbed (misshapen n form span)) (cond (not (ltb p n)) (not_climbed bad_rank) (cond (has view p) (record { number = dead_rank; rank = p; climbed = 0 }) (climbing anc view p allowance))))
      shape true e = rank (view-le n form span (eqb-true (misshapen n form span) 0 e)) (ltb p n) refl
      shape false e = let k = shape_numbers n form span in refuses (misshapen n form span) k.0 k.1

  in_case : (a : Result Climbed NotClimbed) → told a ≡ climbed n form span marks p allowance → InCase a
  unfolding told
  in_case (Ok c) e = tt
  in_case (Err (Refused q)) e = climbed_by (λ t. told (Err (Refused q)) ≡ t → InCase (Err (Refused q))) refused ranked e
    where
      refused : (k : ℕ) → (k ≡ dead_rank → ⊥) → (k ≡ too_short → ⊥) → told (Err (Refused q)) ≡ not_climbed k → InCase (Err (Refused q))
      refused k x y e = let i : number q ≡ k = ap (λ (t : Told). t.number) e in (λ z. x (sym i ∙ z), λ z. y (sym i ∙ z))

      ranked : (t : Told) → t.rank < 64 → told (Err (Refused q)) ≡ t → InCase (Err (Refused q))
      ranked t l e = let i : none ≡ t.rank = ap (λ (t : Told). t.rank) e in absurd (omega arith)
  in_case (Err (FromMarked r)) e = tt
  in_case (Err (Short c)) e = tt

  -- So what is told of a call leaves nothing open.
  pub climb_told_determines : (a b : Result Climbed NotClimbed) → told a ≡ climbed n form span marks p allowance → told b ≡ climbed n form span marks p allowance → a ≡ b
  climb_told_determines a b e f = told_alone_determines a b (in_case a e) (in_case b f) (e ∙ sym f)
