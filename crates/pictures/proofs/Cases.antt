-- Each case of the list is what it says, by computation. Assumes nothing.
use mathlib.Core.Path.{◌≡◌, refl}
use mathlib.Core.Bool.{true}
use Rattle.sets.specs.Sets.{has, only, union, minus, add, below, largest, smallest, all}
use Rattle.tree.specs.Tree.{lineage, ancestors, half, flat, parent}
use Rattle.tree.specs.Calls.{wrong_size, same}
use Rattle.text.specs.Text.{pasted, digits_of, decimal, lines}
use Rattle.dot.specs.Dot.{opening_line, shape, node_line, edge, edge_line}
use Rattle.pictures.specs.Pictures.{picture}
use Rattle.pictures.specs.Writing.{wrong_marks, refused_writing, accepted_writing, room_for, writing}
use Rattle.pictures.specs.Cases.{three_without0, one, three_of64, all_but, writes, buffer, cases}

pub cases_hold : all cases ≡ true
unfolding has only union minus add below largest smallest all lineage ancestors half flat parent wrong_size same pasted digits_of decimal lines opening_line shape node_line edge edge_line picture wrong_marks refused_writing accepted_writing room_for writing three_without0 one three_of64 all_but writes buffer cases
cases_hold = refl
