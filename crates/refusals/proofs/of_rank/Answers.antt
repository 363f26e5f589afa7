-- `of_rank` meets its contract: the tests on the way pick the definition's case. Assumes nothing.
use Prim.Native.Nat.{◌<◌}
use native.Mathlib.Omega.{arith}
use Rattle.refusals.proofs.Laws.Refusing.{rank_below, told_below, rank_4, rank_6, rank-outside, rank-notice, rank_crash}
use Rattle.refusals.proofs.of_rank.Goals as goal

pub returns-then-wrong_rank : goal.returns-then-wrong_rank
returns-then-wrong_rank c = search rank_4

pub overflow_cast-ev : goal.overflow_cast-ev
overflow_cast-ev c = let l : c.args.ev.a < c.args.n = search rank_below in omega arith

pub member-requires : goal.member-requires
member-requires c = let l : c.args.ev.a < c.args.n = search rank_below in omega arith

pub returns-then-member : goal.returns-then-member
returns-then-member c = search rank_6

pub overflow_cast-ev-in-4 : goal.overflow_cast-ev-in-4
overflow_cast-ev-in-4 c = let l : c.args.ev.b < c.args.n = search told_below in omega arith

pub of_notice-requires : goal.of_notice-requires
of_notice-requires c = let l : c.args.ev.b < c.args.n = search told_below in omega arith

pub overflow_cast-ev-in_default : goal.overflow_cast-ev-in_default
overflow_cast-ev-in_default c = let l : c.args.ev.a < c.args.n = search rank_below in omega arith

pub of_crash-requires-clause-p_bound : goal.of_crash-requires-clause-p_bound
of_crash-requires-clause-p_bound c = let l : c.args.ev.a < c.args.n = search rank_below in omega arith

pub returns-in-1 : goal.returns-in-1
returns-in-1 c = search rank-outside

pub returns-in-4 : goal.returns-in-4
returns-in-4 c = search rank-notice

pub returns-in_default : goal.returns-in_default
returns-in_default c = search rank_crash
