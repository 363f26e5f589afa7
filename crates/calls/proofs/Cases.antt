-- Each case of mark, of an ASK's marks and of climb is what it says, by computation. Assumes nothing.
use mathlib.Core.Path.{◌≡◌, refl}
use mathlib.Core.Bool.{true}
use Rattle.sets.specs.Sets.{has, only, union, meet, minus, add, below, set_of, count, largest, smallest, every, all}
use Rattle.tree.specs.Tree.{lineage, ancestors, half, flat, parent, row, entry, fresh, moves, sized, moved, upwards, path, links, reached, digits}
use Rattle.tree.specs.Forms.{head_of, place_of, head_above, in_star, in_nest, above_in, tree_of}
use Rattle.tree.specs.Calls.{and_then, moved_below, same, wrong_size}
use Rattle.calls.specs.Calls.{misshapen, wrong_view, mark_refused, marked, climbing, climbed}
use Rattle.calls.specs.Examples.{tallies, tells}
use Rattle.calls.specs.Cases.{answers, damaged, nobody_twice, nobody_marked, in_every_view, cases}

pub cases_hold : all cases ≡ true
unfolding all every cases tallies answers damaged nobody_twice nobody_marked in_every_view tells and_then moved_below same wrong_size misshapen wrong_view mark_refused marked climbing climbed lineage ancestors half flat head_of place_of head_above in_star in_nest above_in tree_of parent row entry fresh moves sized moved upwards path links reached digits has only union meet minus add below set_of count largest smallest
cases_hold = refl
