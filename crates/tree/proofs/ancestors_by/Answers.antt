-- `tree::ancestors_by` meets its contract. The invariant: the rank reached is one, where the lowest unmarked rank is below it; and for every `next` that
-- says what `above` answers, the ancestors of p above the rank reached are marked, those found among them, and that rank is an ancestor of p while
-- the lowest unmarked rank is below it. The measure is that rank, as the rank above is smaller. Assumes nothing.
use mathlib.Core.Path.{refl}
use native.Mathlib.Omega.{arith}
use Rattle.tree.proofs.Laws.Finding.{rising_start, rising_step, rising_found, rising_end, passed_start, passed_step, passed_found, passed_end, low_within}
use Rattle.tree.proofs.ancestors_by.Goals as goal

pub loop-at-init : goal.loop-at-init
loop-at-init g c = let pre = c.requires in
    record {
      within = λ l. low_within _ _ _ _ pre.p_bound pre.lowest_value l (omega (arith, c.above-at.type_inv)) (λ h. pre.smaller _ _ h c.above-at.ensures);
      passed = λ next is small. passed_start next _ _ _ _ (rising_start next small _ _ 64 _ _ _ _ pre.p_bound (omega (arith, c.above-at.type_inv)) refl refl pre.lowest_value (is _ _ c.above-at.ensures));
    }

pub returns-then-not-member : goal.returns-then-not-member
returns-then-not-member g c next is small = let inv = c.loop-at.invariant.passed next is small in
    passed_found next _ _ _ _ _ _ _ _ (c.loop-at.invariant.within c.loop-at-test.true) inv c.with-found.ensures c.member.ensures c.if-not-member.true
    (rising_found next small _ _ _ _ _ inv.rising c.loop-at-test.true c.member.ensures c.if-not-member.true)

pub loop-at-preserved : goal.loop-at-preserved
loop-at-preserved g c = record {
  within = λ l. let h = c.requires.smaller c.loop-at.at c.above-at-in-loop-at.result (omega arith) c.above-at-in-loop-at.ensures in let k = c.loop-at.invariant.within c.loop-at-test.true in omega arith;
  passed = λ next is small. let inv = c.loop-at.invariant.passed next is small in
      passed_step next _ _ _ _ _ _ _ _ inv (rising_step next small _ _ _ _ _ _ inv.rising c.loop-at-test.true c.member.ensures c.if-not-member.false (is _ _ c.above-at-in-loop-at.ensures)) c.with-found.ensures c.member.ensures c.if-not-member.false;
}

pub returns : goal.returns
returns g c next is small = let inv = c.loop-at.invariant.passed next is small in
    let pre = c.requires in
    passed_end next _ _ _ _ _ _ inv (rising_end next small _ _ 64 _ _ _ _ inv.rising c.loop-at-test.false pre.p_bound refl refl pre.lowest_value)
