-- `list` meets its contract: the first line, the event lines, the rank lines and the last. Assumes nothing.
use native.Mathlib.Omega.{arith}
use borrow.Author.Rules.{rules}
use Rattle.text.proofs.Laws.Writing.{puts_then, name_kept, page_ends}
use Rattle.listing.proofs.Laws.Lines.{room_events, room_ranks, room_last}
use Rattle.listing.specs.Listings.{rank_lines, listing}
use Rattle.listing.proofs.list.Goals as goal

pub put_events-requires-clause-page_in_bounds : goal.put_events-requires-clause-page_in_bounds
put_events-requires-clause-page_in_bounds c = omega (arith, room_events c.args.s.group.n _ (omega arith) c.put_first.ensures)

pub put_ranks-requires-clause-page_in_bounds : goal.put_ranks-requires-clause-page_in_bounds
put_ranks-requires-clause-page_in_bounds c = omega (arith, room_ranks _ c.args.s.group.n _ (room_events _ _ (omega arith) c.put_first.ensures) c.put_events.ensures)

pub put_last-requires : goal.put_last-requires
put_last-requires c = room_last _ _ _ (room_ranks _ _ _ (room_events _ _ (omega arith) c.put_first.ensures) c.put_events.ensures) c.put_ranks.ensures

pub returns : goal.returns
unfolding listing rank_lines
returns c =
    let w = puts_then c.put_first.ensures (puts_then c.put_events.ensures (puts_then c.put_ranks.ensures c.put_last.ensures)) in
    let e = name_kept w in
    page_ends w (search rules)
