-- `put_node_line` meets its contract: two tests, and one piece after the other, 24 bytes at most. Assumes nothing.
use borrow.Author.Rules.{rules}
use native.Mathlib.Omega.{arith}
use Rattle.text.proofs.Laws.Writing.{room_after}
use Rattle.text.proofs.Laws.Digits.{length-decimal}
use Rattle.dot.proofs.Laws.Lines.{node_marked, node_root, node_plain}
use Rattle.dot.proofs.put_node_line.Goals as goal

pub returns-then-member : goal.returns-then-member
returns-then-member c = search node_marked

pub put_letters-requires : goal.put_letters-requires
put_letters-requires c = omega (arith, room_after 10 14 c.put_number.ensures (length-decimal _) c.requires.page_in_bounds)

pub put_letters-requires-else-is_root : goal.put_letters-requires-else-is_root
put_letters-requires-else-is_root c = omega (arith, room_after 10 14 c.put_number.ensures (length-decimal _) c.requires.page_in_bounds)

pub returns-then-is_root : goal.returns-then-is_root
returns-then-is_root c = node_root _ _ _ _ _ _ _ _ c.member.ensures c.if-member.false c.parent_of.ensures (search rules) c.if-is_root.true c.put_number.ensures c.put_letters.ensures

pub returns-else-is_root : goal.returns-else-is_root
returns-else-is_root c = node_plain _ _ _ _ _ _ _ _ c.member.ensures c.if-member.false c.parent_of.ensures (search rules) c.if-is_root.false c.put_number.ensures c.put_letters-else-is_root.ensures
