-- `post` meets its contract: each turn writes the message to the smallest receiver that is left. Assumes nothing.
use borrow.Author.Rules.{rules}
use native.Mathlib.Omega.{arith}
use Rattle.sets.proofs.Laws.Found.{first_found, none_first}
use Rattle.net.proofs.Laws.Net.{posting_begin, posting_room, posting_fewer, posting_on, posting_done}
use Rattle.net.proofs.Flight.post.Goals as goal

pub loop-q-init : goal.loop-q-init
loop-q-init c = search (posting_begin, rules)

pub join-requires : goal.join-requires
join-requires c = let i = c.loop-q.invariant in posting_room _ _ _ _ _ _ i (first_found _ _ _ i.word (omega arith) c.in-Some.ensures)

pub only-requires : goal.only-requires
only-requires c = (first_found _ _ _ c.loop-q.invariant.word (omega arith) c.in-Some.ensures).within

pub loop-q-smaller : goal.loop-q-smaller
loop-q-smaller c = posting_fewer _ _ _ _ (first_found _ _ _ c.loop-q.invariant.word (omega arith) c.in-Some.ensures) c.only.ensures c.minus-left.ensures

pub loop-q-preserved : goal.loop-q-preserved
loop-q-preserved c = let i = c.loop-q.invariant in
    posting_on _ _ _ _ _ _ _ _ _ i (first_found _ _ _ i.word (omega arith) c.in-Some.ensures) c.join.ensures c.only.ensures c.minus-left.ensures (omega (arith, c.minus-left.type_inv))

pub returns : goal.returns
returns c = let i = c.loop-q.invariant in posting_done _ _ _ _ _ i (none_first _ 64 i.word (omega arith) (search rules))
