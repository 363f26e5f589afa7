-- What each rule makes of the deaths that a rank knows, marked and acknowledged, and what it answers as moved: a notice marks one death, an ASK
-- every rank below its sender; the other rules mark none and move nothing. To acknowledge is a rule of its own; no other touches the acknowledged set. Over any ancestor sets, of any rank. Assumes nothing.
use mathlib.Core.Path.{◌≡◌, refl, sym, ◌∙◌}
use mathlib.Core.Bool.{true, false}
use mathlib.Core.List.{List}
use mathlib.Core.Logic.{⊎_elim}
use Prim.Native.Nat.{ℕ}
use Rattle.sets.specs.Sets.{has, add, union, below}
use Rattle.sets.proofs.Laws.Bools.{passes_or_fails}
use Rattle.sets.proofs.Laws.Members.{add-again}
use Rattle.tree.specs.declared.Moved.{Moved}
use Rattle.tree.specs.Tree.{fresh, moved, nobody}
use Rattle.tree.specs.Calls.{moved_below}
use Rattle.tree.proofs.Laws.Mending.{moved-again}
use Rattle.rank.specs.declared.Rank.{Rank}
use Rattle.rank.specs.declared.Said.{Said}
use Rattle.rank.specs.declared.Triple.{Triple}
use Rattle.rank.specs.Words.{gathering, waiting}
use Rattle.rank.specs.Triples.{closing}
use Rattle.rank.specs.Records.{becoming, combining, concluding, owing, admitting, proposal, hearing, viewing}
use Rattle.rank.specs.Sends.{silent}
use Rattle.rank.specs.Rules.{saying, deciding, settled, done, settling, entering, noting, raised, taking_up, lowered, taking_down, asked, taking_ask, renewing, regathering, inheriting, bereaved, noticing, acknowledging}
use Rattle.rank.proofs.Facts.{Knows}
use Rattle.rank.proofs.Laws.Cases.{settled_by, raised_by, lowered_by, asked_by, orphaned_by, bereaved_by}

module _ (anc : ℕ → ℕ) (n me : ℕ) where
  -- what a rule's part leaves, where it touches neither
  known : (r : Rank) → Knows r r.marks r.acknowledged
  known r = record { marks_are = refl; acknowledged_are = refl }

  -- a rule's part that leaves these deaths marked, and these acknowledged
  abbrev Leaves : ℕ → ℕ → Said → Type 0
  Leaves marks acknowledged s = Knows s.rank marks acknowledged

  pub settled-knows : (r : Rank) → Leaves r.marks r.acknowledged (settled anc n me r)
  unfolding saying becoming deciding concluding
  settled-knows r = settled_by anc n me (Leaves r.marks r.acknowledged) r (λ h. known r) (λ p a e. known (concluding (closing r.marks r.triple) r)) (λ p a e. known (becoming waiting r))

  pub settling-knows : (s : Said) (m : Moved) (marks acknowledged : ℕ) → Leaves marks acknowledged s → Knows (settling anc n me s m).rank marks acknowledged
  unfolding settling
  settling-knows s m marks acknowledged k = record { marks_are = (settled-knows s.rank).marks_are ∙ k.marks_are; acknowledged_are = (settled-knows s.rank).acknowledged_are ∙ k.acknowledged_are }

  -- ---- marks and acknowledged set

  pub enter-knows : (w : ℕ) (r : Rank) → Knows (entering anc n me w r).rank r.marks r.acknowledged
  unfolding entering saying becoming combining
  enter-knows w r = settling-knows (saying (becoming gathering (combining (proposal w r) r)) silent) nobody r.marks r.acknowledged (known (becoming gathering (combining (proposal w r) r)))

  pub up-knows : (q : ℕ) (x : Triple) (r : Rank) → Knows (taking_up anc n me q x r).rank r.marks r.acknowledged
  unfolding taking_up noting saying owing combining hearing
  up-knows q x r = settling-knows (raised anc n me q x r) nobody r.marks r.acknowledged (raised_by anc n me (Leaves r.marks r.acknowledged) q x r (λ e. known r) (λ e. known (noting anc n me q x r)))

  pub lowered-knows : (x : Triple) (r : Rank) → Leaves r.marks r.acknowledged (lowered anc n me x r)
  unfolding saying deciding concluding
  lowered-knows x r = lowered_by anc n me (Leaves r.marks r.acknowledged) x r (λ e. known (concluding x r)) (λ e f. known r)

  pub down-knows : (x : Triple) (r : Rank) → Knows (taking_down anc n me x r).rank r.marks r.acknowledged
  unfolding taking_down done
  down-knows x r = lowered-knows x r

  pub asked-knows : (q : ℕ) (r : Rank) → Leaves r.marks r.acknowledged (asked anc n me q r)
  unfolding saying owing
  asked-knows q r = asked_by anc n me (Leaves r.marks r.acknowledged) q r (λ e. known r) (λ e f. known (owing q r)) (λ e f. known (owing q r))

  pub ask-knows : (q : ℕ) (r : Rank) → Knows (taking_ask anc n me q r).rank (union r.marks (below q)) r.acknowledged
  unfolding taking_ask viewing
  ask-knows q r = settling-knows (asked anc n me q v) (moved_below anc n r.marks q) after r.acknowledged (asked-knows q v)
    where
      after : ℕ
      after = union r.marks (below q)

      v : Rank
      v = viewing anc n me after r

  pub bereaved-knows : (q : ℕ) (r v : Rank) → Leaves v.marks v.acknowledged (bereaved anc n me q r v)
  unfolding regathering renewing saying becoming hearing inheriting
  bereaved-knows q r v =
      bereaved_by anc n me (Leaves v.marks v.acknowledged) q r v
      (λ e f. orphaned_by anc n me (Leaves v.marks v.acknowledged) v (λ z. known (becoming gathering (hearing anc n me 0 v))) (λ z. known v)) (λ e z h. known v) (λ g h. known v)

  pub notice-knows : (q : ℕ) (r : Rank) → Knows (noticing anc n me q r).rank (add r.marks q) r.acknowledged
  unfolding noticing done saying viewing
  notice-knows q r = ⊎_elim again new (passes_or_fails (has r.marks q))
    where
      again : has r.marks q ≡ true → Knows (noticing anc n me q r).rank (add r.marks q) r.acknowledged
      again e = rw e (record { marks_are = sym (add-again r.marks q e); acknowledged_are = refl })

      new : has r.marks q ≡ false → Knows (noticing anc n me q r).rank (add r.marks q) r.acknowledged
      new e = rw e (settling-knows (bereaved anc n me q r v) (moved anc n r.marks q) v.marks v.acknowledged (bereaved-knows q r v))
        where
          v : Rank
          v = viewing anc n me (add r.marks q) r

  pub acknowledge-knows : (r : Rank) → Knows (acknowledging anc n me r).rank r.marks r.marks
  unfolding acknowledging done saying admitting
  acknowledge-knows r = record { marks_are = refl; acknowledged_are = refl }

  -- all else stays, and nothing is said
  pub acknowledge_is : (r : Rank) → ((acknowledging anc n me r).rank ≡ admitting r.marks r) × ((acknowledging anc n me r).first ≡ silent) × ((acknowledging anc n me r).second ≡ silent)
  unfolding acknowledging done saying
  acknowledge_is r = (refl, refl, refl)

  -- ---- the row after news of deaths is the fresh table

  pub ask-row : (q : ℕ) (r : Rank) → (taking_ask anc n me q r).row ≡ fresh anc n (taking_ask anc n me q r).rank.marks
  unfolding taking_ask settling
  ask-row q r = refl

  pub notice-row : (q : ℕ) (r : Rank) → (noticing anc n me q r).row ≡ fresh anc n (noticing anc n me q r).rank.marks
  unfolding noticing done settling
  notice-row q r = ⊎_elim (λ (e : has r.marks q ≡ true). rw e) (λ (e : has r.marks q ≡ false). rw e) (passes_or_fails (has r.marks q))

  -- ---- moved

  pub enter-moved : (w : ℕ) (r : Rank) → (entering anc n me w r).moved ≡ nobody
  unfolding entering settling
  enter-moved w r = refl

  pub up-moved : (q : ℕ) (x : Triple) (r : Rank) → (taking_up anc n me q x r).moved ≡ nobody
  unfolding taking_up settling
  up-moved q x r = refl

  pub down-moved : (x : Triple) (r : Rank) → (taking_down anc n me x r).moved ≡ nobody
  unfolding taking_down done
  down-moved x r = refl

  pub acknowledge-moved : (r : Rank) → (acknowledging anc n me r).moved ≡ nobody
  unfolding acknowledging done
  acknowledge-moved r = refl

  -- an ASK: the union and the sum over its marks
  pub ask-moved : (q : ℕ) (r : Rank) → (taking_ask anc n me q r).moved ≡ moved_below anc n r.marks q
  unfolding taking_ask settling
  ask-moved q r = refl

  -- a notice: the difference of the fresh tables with and without the mark, also where the death was known
  pub notice-moved : (q : ℕ) (r : Rank) → (noticing anc n me q r).moved ≡ moved anc n r.marks q
  unfolding noticing done settling
  notice-moved q r = ⊎_elim (λ (e : has r.marks q ≡ true). rw e (sym (moved-again anc n r.marks q e))) (λ (e : has r.marks q ≡ false). rw e) (passes_or_fails (has r.marks q))

  -- a notice of a death that is known changes nothing
  pub notice_known : (q : ℕ) (r : Rank) (row : List ℕ) → has r.marks q ≡ true → row ≡ fresh anc n r.marks → record { rank = r; row = row; first = silent; second = silent; moved = nobody } ≡ noticing anc n me q r
  unfolding noticing done saying
  notice_known q r row e t = rw (e, t) refl
