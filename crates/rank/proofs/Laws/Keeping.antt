-- Each rule keeps a rank in order, given what document 01 says of the event. A rule's own part leaves the rank to settle, and settle
-- puts it in order, in one place. Over any ancestor sets. Assumes nothing.
use mathlib.Core.Path.{◌≡◌, refl, sym, ap, subst, ◌∙◌}
use mathlib.Core.Bool.{Bool, true, false, cond, not}
use mathlib.Core.List.{List}
use mathlib.Core.Logic.{⊎_elim}
use Prim.Native.Nat.{ℕ, ◌≤◌, ◌<◌}
use native.Mathlib.Omega.{arith}
use borrow.Author.Tests.{eqb-true, ne_eqb}
use Rattle.sets.specs.Sets.{none, has, only, add, union, meet, minus, below}
use Rattle.sets.proofs.Laws.Bools.{passes_or_fails, clash, fails, lt-or-le, or-none, or_cases, and_l, and_not_l}
use Rattle.sets.proofs.Laws.Members.{has-zero, has-only, add-union, has_add_more, has-union, has_meet, minus_l, minus_r, has_below_ge, has-minus, add-again}
use Rattle.tree.specs.declared.Moved.{Moved}
use Rattle.tree.specs.Tree.{parent, children, fresh, moved, nobody}
use Rattle.tree.specs.Calls.{moved_below}
use Rattle.tree.proofs.Laws.Parents.{parent-lt, no_parent, no_parent_all, has-parent, parent_stays, marked-high, marked_more}
use Rattle.tree.proofs.Laws.Children.{child_o, child_gt}
use Rattle.rank.specs.declared.Rank.{Rank}
use Rattle.rank.specs.declared.Said.{Said}
use Rattle.rank.specs.declared.Triple.{Triple}
use Rattle.rank.specs.Words.{outside, gathering, waiting, decided}
use Rattle.rank.specs.Triples.{fresh_triple, closing}
use Rattle.rank.specs.Records.{becoming, combining, concluding, owing, admitting, proposal, parent_of, children_of, awaiting, fresh_rank, hearing, viewing}
use Rattle.rank.specs.Sends.{silent, reports, tells, asks}
use Rattle.rank.specs.Rules.{saying, deciding, settled, done, settling, entering, noting, raised, taking_up, lowered, taking_down, asked, taking_ask, renewing, regathering, inheriting, bereaved, noticing, acknowledging}
use Rattle.rank.specs.Between.{FreshRow}
use Rattle.rank.proofs.Facts.{Within, TripleWithin, Knows, ToSettle, RankInOrder, Posted, ActedInOrder, Steady}
use Rattle.rank.proofs.Laws.Cases.{settled_by, raised_by, lowered_by, asked_by, orphaned_by, bereaved_by}
use Rattle.rank.proofs.Laws.Knowing.{settling-knows, lowered-knows}
use Rattle.rank.proofs.Laws.Triples.{zero_within, fresh_within, combine_within, closing_within, proposal_within}

-- ---- sets within the group and without the own rank

pub within_none : (n me : ℕ) → Within n me 0
within_none n me = record { inside = λ k h. absurd (clash (has 0 k) h (has-zero k)); without = has-zero me }

pub within_only : (n me q : ℕ) → q < n → (q ≡ me → ⊥) → Within n me (only q)
within_only n me q l d = record {
  inside = λ k h. let e : k ≡ q = eqb-true k q (sym (has-only q k) ∙ h) in omega arith;
  without = has-only q me ∙ ne_eqb me q (λ e. d (sym e));
}

pub within_union : (n me a b : ℕ) → Within n me a → Within n me b → Within n me (union a b)
within_union n me a b x y = record {
  inside = λ k h. ⊎_elim (x.inside k) (y.inside k) (or_cases (has a k) (has b k) (sym (has-union a b k) ∙ h));
  without = has-union a b me ∙ or-none (has a me) (has b me) x.without y.without;
}

pub within_add : (n me a q : ℕ) → Within n me a → q < n → (q ≡ me → ⊥) → Within n me (add a q)
within_add n me a q x l d = subst (Within n me) (sym (add-union a q)) (within_union n me a (only q) x (within_only n me q l d))

within_minus : (n me a b : ℕ) → Within n me a → Within n me (minus a b)
within_minus n me a b x = record {
  inside = λ k h. x.inside k (minus_l a b k h);
  without = has-minus a b me ∙ and_not_l (has a me) (not (has b me)) x.without;
}

within_meet : (n me a b : ℕ) → Within n me a → Within n me (meet a b)
within_meet n me a b x = record {
  inside = λ k h. x.inside k (and_l (has a k) (has b k) (sym (has_meet a b k) ∙ h));
  without = has_meet a b me ∙ and_not_l (has a me) (has b me) x.without;
}

within_below : (n me q : ℕ) → q ≤ n → q ≤ me → Within n me (below q)
within_below n me q l b = record {
  inside = λ k h. ⊎_elim (λ (c : k < q). omega arith) (λ (c : q ≤ k). absurd (clash (has (below q) k) h (has_below_ge q k c))) (lt-or-le k q);
  without = has_below_ge q me b;
}

module _ (anc : ℕ → ℕ) (n me : ℕ) (small : n ≤ 64) (own : me < n) where
  -- nobody is a child of itself
  within_children : (marks : ℕ) → Within n me (children anc n marks me)
  within_children marks = record {
    inside = λ k h. (child_o anc n marks me k h).within;
    without = fails (has (children anc n marks me) me) (λ h. let l : me < me = child_gt anc n marks me me (omega arith) (child_o anc n marks me me h) in omega arith);
  }

  pub within_awaiting : (marks heard : ℕ) → Within n me (awaiting anc n me marks heard)
  unfolding awaiting
  within_awaiting marks heard = within_minus n me (children anc n marks me) heard (within_children marks)

  -- ---- sends

  pub silent-posted : (marks : ℕ) → Posted n me marks silent
  unfolding silent
  silent-posted marks = record { to_in = within_none n me; kind-known = λ k h. absurd (clash (has 0 k) h (has-zero k)); triple_in = zero_within n; ask_empty = λ e. refl; ask-root = λ e k l. absurd (omega arith) }

  reports-posted : (marks : ℕ) (r : Rank) (q : ℕ) → TripleWithin n r.triple → q < n → (q ≡ me → ⊥) → Posted n me marks (reports r q)
  unfolding reports
  reports-posted marks r q t l d = record { to_in = within_only n me q l d; kind-known = λ k h. (omega arith, omega arith); triple_in = t; ask_empty = λ e. absurd (omega arith); ask-root = λ e k l. absurd (omega arith) }

  tells-posted : (marks : ℕ) (x : Triple) (to : ℕ) → TripleWithin n x → Within n me to → Posted n me marks (tells x to)
  unfolding tells
  tells-posted marks x to t w = record { to_in = w; kind-known = λ k h. (omega arith, omega arith); triple_in = t; ask_empty = λ e. absurd (omega arith); ask-root = λ e k l. absurd (omega arith) }

  asks-posted : (marks to : ℕ) → Within n me to → parent anc marks me ≡ none → Posted n me marks (asks to)
  unfolding asks
  asks-posted marks to w e = record { to_in = w; kind-known = λ k h. (omega arith, omega arith); triple_in = zero_within n; ask_empty = λ x. refl; ask-root = λ x k l. no_parent_all anc marks me (omega arith) e k l }

  -- a parent is a rank, and not the rank itself
  parent-posted : (r s : Rank) → TripleWithin n s.triple → (parent_of anc me r ≡ none → ⊥) → Posted n me r.marks (reports s (parent_of anc me r))
  unfolding parent_of
  parent-posted r s t h =
      let l : parent anc r.marks me < me = parent-lt anc r.marks me h in
      reports-posted r.marks s (parent anc r.marks me) t (omega arith) (λ e. omega arith)

  -- ---- decide and settle

  deciding_in_order : (x : Triple) (r : Rank) → TripleWithin n x → ToSettle anc n me r → RankInOrder anc n me (deciding anc n me x r).rank
  unfolding deciding saying concluding parent_of
  deciding_in_order x r t f = record {
    to_settle = record { marks_inside = f.marks_inside; acknowledged_marked = f.acknowledged_marked; heard_in = f.heard_in; owed_in = f.owed_in; awaits = f.awaits; waits = λ e. absurd (omega arith); triple_in = f.triple_in; result_in = t; unless = λ e. absurd (e refl); known = omega arith };
    gathers = λ e. absurd (omega arith);
  }

  deciding-posted : (x : Triple) (r : Rank) → TripleWithin n x → ToSettle anc n me r → Posted n me r.marks (deciding anc n me x r).send
  unfolding deciding saying children_of
  deciding-posted x r t f = tells-posted r.marks x (minus (union (children anc n r.marks me) r.owed) r.marks) t (within_minus n me (union (children anc n r.marks me) r.owed) r.marks (within_union n me (children anc n r.marks me) r.owed (within_children r.marks) f.owed_in))

  -- a rank to settle, settled
  abbrev Settles : Rank → Said → Type 0
  Settles r s = RankInOrder anc n me s.rank × (s.rank.marks ≡ r.marks) × Posted n me r.marks s.send

  settles : (r : Rank) → ToSettle anc n me r → Settles r (settled anc n me r)
  unfolding saying becoming parent_of deciding concluding
  settles r f =
      settled_by anc n me (Settles r) r
      (λ h. (record { to_settle = f; gathers = h }, refl, silent-posted r.marks))
      (λ p a e. let t : TripleWithin n (closing r.marks r.triple) = closing_within n r.marks r.triple f.triple_in f.marks_inside.inside in (deciding_in_order (closing r.marks r.triple) r t f, refl, deciding-posted (closing r.marks r.triple) r t f))
      (λ p a e. (
        record {
          to_settle = record { marks_inside = f.marks_inside; acknowledged_marked = f.acknowledged_marked; heard_in = f.heard_in; owed_in = f.owed_in; awaits = f.awaits; waits = λ x. e; triple_in = f.triple_in; result_in = f.result_in; unless = λ x. f.unless (λ y. omega arith); known = omega arith };
          gathers = λ x. absurd (omega arith);
        },
        refl,
        parent-posted r r f.triple_in e,
      ))

  -- a rule's own part: the rank is to settle, knows these deaths, and may send this
  abbrev Leaves : ℕ → ℕ → Said → Type 0
  Leaves marks acknowledged s = ToSettle anc n me s.rank × Knows s.rank marks acknowledged × Posted n me marks s.send

  same : (r : Rank) → Knows r r.marks r.acknowledged
  same r = record { marks_are = refl; acknowledged_are = refl }

  leaves_in_order : (marks acknowledged : ℕ) (s : Said) (m : Moved) → Leaves marks acknowledged s → ActedInOrder anc n me marks acknowledged (settling anc n me s m)
  unfolding settling
  leaves_in_order marks acknowledged s m l =
      let t : Settles s.rank (settled anc n me s.rank) = settles s.rank l.0 in
      let e : (settled anc n me s.rank).rank.marks ≡ marks = t.1 ∙ l.1.marks_are in
      record { in_order = t.0; knows = settling-knows anc n me s m marks acknowledged l.1; row_is = ap (fresh anc n) e; first-posted = l.2; second_posted = subst (λ (x : ℕ). Posted n me x (settled anc n me s.rank).send) l.1.marks_are t.2 }

  done_in_order : (marks acknowledged : ℕ) (s : Said) (m : Moved) → RankInOrder anc n me s.rank → Knows s.rank marks acknowledged → Posted n me marks s.send → ActedInOrder anc n me marks acknowledged (done anc n me s m)
  unfolding done
  done_in_order marks acknowledged s m f k p = record { in_order = f; knows = k; row_is = ap (fresh anc n) k.marks_are; first-posted = p; second_posted = silent-posted marks }

  -- ---- the rules

  pub enter_in_order : (w : ℕ) (r : Rank) → RankInOrder anc n me r → r.phase ≡ outside → ActedInOrder anc n me r.marks r.acknowledged (entering anc n me w r)
  unfolding entering saying becoming combining
  enter_in_order w r o p =
      leaves_in_order r.marks r.acknowledged (saying v silent) nobody (
        record { marks_inside = o.to_settle.marks_inside; acknowledged_marked = o.to_settle.acknowledged_marked; heard_in = o.to_settle.heard_in; owed_in = o.to_settle.owed_in; awaits = o.to_settle.awaits; waits = λ e. absurd (omega arith); triple_in = combine_within n r.triple (proposal w r) o.to_settle.triple_in (proposal_within anc n me w r o.to_settle); result_in = o.to_settle.result_in; unless = λ e. o.to_settle.unless (λ x. omega arith); known = omega arith },
        same v,
        silent-posted r.marks,
      )
    where
      v : Rank
      v = becoming gathering (combining (proposal w r) r)

  pub up_in_order : (q : ℕ) (x : Triple) (r : Rank) → RankInOrder anc n me r → TripleWithin n x → q < n → (q ≡ me → ⊥) → ActedInOrder anc n me r.marks r.acknowledged (taking_up anc n me q x r)
  unfolding taking_up noting saying owing combining hearing parent_of
  up_in_order q x r o t l d =
      leaves_in_order r.marks r.acknowledged (raised anc n me q x r) nobody
      (raised_by anc n me (Leaves r.marks r.acknowledged) q x r
      (λ e. (o.to_settle, same r, tells-posted r.marks r.result (only q) o.to_settle.result_in (within_only n me q l d)))
      (λ e. (
        record { marks_inside = o.to_settle.marks_inside; acknowledged_marked = o.to_settle.acknowledged_marked; heard_in = within_add n me r.heard q o.to_settle.heard_in l d; owed_in = within_add n me r.owed q o.to_settle.owed_in l d; awaits = refl; waits = o.to_settle.waits; triple_in = combine_within n r.triple x o.to_settle.triple_in t; result_in = o.to_settle.result_in; unless = o.to_settle.unless; known = o.to_settle.known },
        same (noting anc n me q x r),
        silent-posted r.marks,
      )))

  pub down_in_order : (x : Triple) (r : Rank) → RankInOrder anc n me r → TripleWithin n x → ActedInOrder anc n me r.marks r.acknowledged (taking_down anc n me x r)
  unfolding taking_down saying deciding concluding
  down_in_order x r o t =
      let y : Settles r (lowered anc n me x r) = lowered_by anc n me (Settles r) x r (λ e. (deciding_in_order x r t o.to_settle, refl, deciding-posted x r t o.to_settle)) (λ e f. (o, refl, silent-posted r.marks)) in
      done_in_order r.marks r.acknowledged (lowered anc n me x r) nobody y.0 (lowered-knows anc n me x r) y.2

  pub ask_in_order : (q : ℕ) (r : Rank) → RankInOrder anc n me r → q < me → has r.marks q ≡ false → ActedInOrder anc n me (union r.marks (below q)) r.acknowledged (taking_ask anc n me q r)
  unfolding taking_ask saying owing viewing parent_of
  ask_in_order q r o l free =
      leaves_in_order after r.acknowledged (asked anc n me q v) (moved_below anc n r.marks q)
      (asked_by anc n me (Leaves after r.acknowledged) q v
      (λ e. (to_settle, same v, tells-posted after r.result (only q) o.to_settle.result_in (within_only n me q (omega arith) (λ x. omega arith))))
      (λ e f. (owes, same (owing q v), reports-posted after v q o.to_settle.triple_in (omega arith) (λ x. omega arith)))
      (λ e f. (owes, same (owing q v), silent-posted after)))
    where
      after : ℕ
      after = union r.marks (below q)

      v : Rank
      v = viewing anc n me after r

      to_settle : ToSettle anc n me v
      to_settle = record {
        marks_inside = within_union n me r.marks (below q) o.to_settle.marks_inside (within_below n me q (omega arith) (omega arith));
        acknowledged_marked = λ k h. marked_more r.marks q k (o.to_settle.acknowledged_marked k h);
        heard_in = o.to_settle.heard_in;
        owed_in = o.to_settle.owed_in;
        awaits = refl;
        triple_in = o.to_settle.triple_in;
        result_in = o.to_settle.result_in;
        waits = λ e. has-parent anc after me q (omega arith) l (marked-high r.marks q q (omega arith) ∙ free);
        unless = o.to_settle.unless;
        known = o.to_settle.known;
      }

      owes : ToSettle anc n me (owing q v)
      owes = record { marks_inside = to_settle.marks_inside; acknowledged_marked = to_settle.acknowledged_marked; heard_in = to_settle.heard_in; owed_in = within_add n me r.owed q o.to_settle.owed_in (omega arith) (λ x. omega arith); awaits = refl; waits = to_settle.waits; triple_in = to_settle.triple_in; result_in = to_settle.result_in; unless = to_settle.unless; known = to_settle.known }

  notice-again : (q : ℕ) (r : Rank) → has r.marks q ≡ true → noticing anc n me q r ≡ done anc n me (saying r silent) nobody
  unfolding noticing
  notice-again q r e = rw e

  notice_new : (q : ℕ) (r : Rank) → has r.marks q ≡ false → noticing anc n me q r ≡ settling anc n me (bereaved anc n me q r (viewing anc n me (add r.marks q) r)) (moved anc n r.marks q)
  unfolding noticing
  notice_new q r e = rw e

  -- what a death leaves, once q is marked
  bereaved-leaves : (q : ℕ) (r : Rank) → RankInOrder anc n me r → q < n → (q ≡ me → ⊥) → Leaves (add r.marks q) r.acknowledged (bereaved anc n me q r (viewing anc n me (add r.marks q) r))
  unfolding regathering renewing saying viewing becoming hearing parent_of inheriting children_of
  bereaved-leaves q r o l d =
      bereaved_by anc n me (Leaves after r.acknowledged) q r v
      (λ e f.
      orphaned_by anc n me (Leaves after r.acknowledged) v
      (λ z. (
        record { marks_inside = marked; acknowledged_marked = acknowledged; heard_in = within_none n me; owed_in = o.to_settle.owed_in; awaits = refl; waits = λ x. absurd (omega arith); triple_in = o.to_settle.triple_in; result_in = o.to_settle.result_in; unless = λ x. o.to_settle.unless (λ y. omega arith); known = omega arith },
        same (becoming gathering (hearing anc n me 0 v)),
        asks-posted after (children anc n after me) (within_children after) z,
      ))
      (λ z. (seen (λ x. z), same v, parent-posted v v o.to_settle.triple_in z)))
      (λ e z h. (seen (λ x. absurd (omega arith)), same v, asks-posted after (meet (children anc n after me) (children anc n r.marks q)) (within_meet n me (children anc n after me) (children anc n r.marks q) (within_children after)) (still-root z)))
      (λ g h. (seen (λ x y. o.to_settle.waits x (sym (parent_stays anc r.marks q me (g x)) ∙ y)), same v, silent-posted after))
    where
      after : ℕ
      after = add r.marks q

      v : Rank
      v = viewing anc n me after r

      marked : Within n me after
      marked = within_add n me r.marks q o.to_settle.marks_inside l d

      acknowledged : (k : ℕ) → has r.acknowledged k ≡ true → has after k ≡ true
      acknowledged k h = has_add_more r.marks q k (o.to_settle.acknowledged_marked k h)

      seen : (r.phase ≡ waiting → parent anc after me ≡ none → ⊥) → ToSettle anc n me v
      seen w = record { marks_inside = marked; acknowledged_marked = acknowledged; heard_in = o.to_settle.heard_in; owed_in = o.to_settle.owed_in; awaits = refl; waits = w; triple_in = o.to_settle.triple_in; result_in = o.to_settle.result_in; unless = o.to_settle.unless; known = o.to_settle.known }

      still-root : parent anc r.marks me ≡ none → parent anc after me ≡ none
      still-root z = no_parent anc after me (λ k b. has_add_more r.marks q k (no_parent_all anc r.marks me (omega arith) z k b))

  pub notice_in_order : (q : ℕ) (r : Rank) → RankInOrder anc n me r → q < n → (q ≡ me → ⊥) → ActedInOrder anc n me (add r.marks q) r.acknowledged (noticing anc n me q r)
  unfolding saying
  notice_in_order q r o l d = ⊎_elim again new (passes_or_fails (has r.marks q))
    where
      again : has r.marks q ≡ true → ActedInOrder anc n me (add r.marks q) r.acknowledged (noticing anc n me q r)
      again e = rw (notice-again q r e, add-again r.marks q e) (done_in_order r.marks r.acknowledged (saying r silent) nobody o (same r) (silent-posted r.marks))

      new : has r.marks q ≡ false → ActedInOrder anc n me (add r.marks q) r.acknowledged (noticing anc n me q r)
      new e = rw (notice_new q r e) (leaves_in_order (add r.marks q) r.acknowledged (bereaved anc n me q r (viewing anc n me (add r.marks q) r)) (moved anc n r.marks q) (bereaved-leaves q r o l d))

  pub acknowledge_in_order : (r : Rank) → RankInOrder anc n me r → ActedInOrder anc n me r.marks r.marks (acknowledging anc n me r)
  unfolding acknowledging saying admitting parent_of
  acknowledge_in_order r o =
      done_in_order r.marks r.marks (saying (admitting r.marks r) silent) nobody
      (record {
        to_settle = record { marks_inside = o.to_settle.marks_inside; acknowledged_marked = λ k h. h; heard_in = o.to_settle.heard_in; owed_in = o.to_settle.owed_in; awaits = o.to_settle.awaits; waits = o.to_settle.waits; triple_in = o.to_settle.triple_in; result_in = o.to_settle.result_in; unless = o.to_settle.unless; known = o.to_settle.known };
        gathers = o.gathers;
      })
      (record { marks_are = refl; acknowledged_are = refl })
      (silent-posted r.marks)

  -- A fresh rank is in order.
  pub fresh_rank_in_order : RankInOrder anc n me (fresh_rank anc n me)
  unfolding fresh_rank
  fresh_rank_in_order = record {
    to_settle = record { marks_inside = within_none n me; acknowledged_marked = λ k h. h; heard_in = within_none n me; owed_in = within_none n me; awaits = refl; waits = λ e. absurd (omega arith); triple_in = fresh_within n; result_in = zero_within n; unless = λ e. refl; known = omega arith };
    gathers = λ e. absurd (omega arith);
  }

-- It knows of no death, and its row is the table of that view.
pub fresh-marks : (anc : ℕ → ℕ) (n me : ℕ) → (fresh_rank anc n me).marks ≡ 0
unfolding fresh_rank
fresh-marks anc n me = refl

pub fresh-outside : (anc : ℕ → ℕ) (n me : ℕ) → (fresh_rank anc n me).phase ≡ outside
unfolding fresh_rank
fresh-outside anc n me = refl

pub fresh_heard : (anc : ℕ → ℕ) (n me : ℕ) → (fresh_rank anc n me).heard ≡ 0
unfolding fresh_rank
fresh_heard anc n me = refl

pub fresh_owed : (anc : ℕ → ℕ) (n me : ℕ) → (fresh_rank anc n me).owed ≡ 0
unfolding fresh_rank
fresh_owed anc n me = refl

pub fresh-triple : (anc : ℕ → ℕ) (n me : ℕ) → (fresh_rank anc n me).triple ≡ fresh_triple n
unfolding fresh_rank
fresh-triple anc n me = refl

-- whom a rank in order awaits is a child not heard, and one that waits has a parent
pub awaited_child : (anc : ℕ → ℕ) (n me : ℕ) (r : Rank) → RankInOrder anc n me r → (c : ℕ) → has r.awaited c ≡ true → (has (children anc n r.marks me) c ≡ true) × (has r.heard c ≡ false)
unfolding awaiting
awaited_child anc n me r o c h =
    let t : has (minus (children anc n r.marks me) r.heard) c ≡ true = subst (λ (w : ℕ). has w c ≡ true) o.to_settle.awaits h in
    (minus_l (children anc n r.marks me) r.heard c t, minus_r (children anc n r.marks me) r.heard c t)

pub waiting-led : (anc : ℕ → ℕ) (n me : ℕ) (r : Rank) → RankInOrder anc n me r → r.phase ≡ waiting → parent anc r.marks me ≡ none → ⊥
unfolding parent_of
waiting-led anc n me r o = o.to_settle.waits

pub fresh_row_kept : (anc : ℕ → ℕ) (n me : ℕ) (row : List ℕ) → n ≤ 64 → me < n → row ≡ fresh anc n 0 → FreshRow anc n me (fresh_rank anc n me) row
fresh_row_kept anc n me row s l e = record { size = s; own = l; table = e ∙ sym (ap (fresh anc n) (fresh-marks anc n me)) }

-- ---- phases move as the rules say

module _ (anc : ℕ → ℕ) (n me : ℕ) where
  same_phase : (r r' : Rank) → r'.phase ≡ r.phase → r'.result ≡ r.result → Steady r r'
  same_phase r r' p e = record { stays_outside = λ x. p ∙ x; stays_in = λ h x. h (sym p ∙ x); final = λ x. (p ∙ x, e) }

  -- a rank that has entered and not decided may go to any phase but outside
  open_phase : (r r' : Rank) → (r.phase ≡ outside → ⊥) → (r.phase ≡ decided → ⊥) → (r'.phase ≡ outside → ⊥) → Steady r r'
  open_phase r r' a b c = record { stays_outside = λ x. absurd (a x); stays_in = λ h. c; final = λ x. absurd (b x) }

  steady_trans : (a b c : Rank) → Steady a b → Steady b c → Steady a c
  steady_trans a b c s t = record {
    stays_outside = λ x. t.stays_outside (s.stays_outside x);
    stays_in = λ h. t.stays_in (s.stays_in h);
    final = λ x. let u = s.final x in let v = t.final u.0 in (v.0, v.1 ∙ u.1);
  }

  abbrev Becomes : Rank → Said → Type 0
  Becomes r s = Steady r s.rank

  settled_steady : (r : Rank) → Steady r (settled anc n me r).rank
  unfolding saying becoming deciding concluding
  settled_steady r =
      settled_by anc n me (Becomes r) r (λ h. same_phase r r refl refl)
      (λ p a e. open_phase r (concluding (closing r.marks r.triple) r) (λ x. omega arith) (λ x. omega arith) (λ x. omega arith))
      (λ p a e. open_phase r (becoming waiting r) (λ x. omega arith) (λ x. omega arith) (λ x. omega arith))

  settling_steady : (r : Rank) (s : Said) (m : Moved) → Becomes r s → Steady r (settling anc n me s m).rank
  unfolding settling
  settling_steady r s m h = steady_trans r s.rank (settled anc n me s.rank).rank h (settled_steady s.rank)

  pub up_steady : (q : ℕ) (x : Triple) (r : Rank) → Steady r (taking_up anc n me q x r).rank
  unfolding taking_up noting saying owing combining hearing
  up_steady q x r =
      settling_steady r (raised anc n me q x r) nobody
      (raised_by anc n me (Becomes r) q x r (λ e. same_phase r r refl refl) (λ e. same_phase r (noting anc n me q x r) refl refl))

  pub down_steady : (x : Triple) (r : Rank) → Steady r (taking_down anc n me x r).rank
  unfolding taking_down done saying deciding concluding
  down_steady x r =
      lowered_by anc n me (Becomes r) x r
      (λ e. ⊎_elim (λ (g : r.phase ≡ gathering). open_phase r (concluding x r) (λ y. omega arith) (λ y. omega arith) (λ y. omega arith)) (λ (w : r.phase ≡ waiting). open_phase r (concluding x r) (λ y. omega arith) (λ y. omega arith) (λ y. omega arith)) e)
      (λ e f. same_phase r r refl refl)

  pub ask_steady : (q : ℕ) (r : Rank) → Steady r (taking_ask anc n me q r).rank
  unfolding taking_ask saying owing viewing
  ask_steady q r =
      settling_steady r (asked anc n me q v) (moved_below anc n r.marks q)
      (asked_by anc n me (Becomes r) q v (λ e. same_phase r v refl refl) (λ e f. same_phase r (owing q v) refl refl) (λ e f. same_phase r (owing q v) refl refl))
    where
      v : Rank
      v = viewing anc n me (union r.marks (below q)) r

  pub notice_steady : (q : ℕ) (r : Rank) → Steady r (noticing anc n me q r).rank
  unfolding noticing done saying regathering renewing viewing becoming hearing inheriting
  notice_steady q r = go (has r.marks q)
    where
      v : Rank
      v = viewing anc n me (add r.marks q) r

      -- whoever lost its parent waited
      lost : Becomes r (bereaved anc n me q r v)
      lost =
          bereaved_by anc n me (Becomes r) q r v
          (λ e f.
          orphaned_by anc n me (Becomes r) v (λ z. open_phase r (regathering anc n me v).rank (λ x. omega arith) (λ x. omega arith) (λ x. omega arith)) (λ z. same_phase r v refl refl))
          (λ e z h. same_phase r v refl refl)
          (λ g h. same_phase r v refl refl)

      go : (b : Bool) → Steady r (cond b (done anc n me (saying r silent) nobody) (settling anc n me (bereaved anc n me q r v) (moved anc n r.marks q))).rank
      go true = same_phase r r refl refl
      go false = settling_steady r (bereaved anc n me q r v) (moved anc n r.marks q) lost

  pub acknowledge_steady : (r : Rank) → Steady r (acknowledging anc n me r).rank
  unfolding acknowledging done saying admitting
  acknowledge_steady r = same_phase r (admitting r.marks r) refl refl
