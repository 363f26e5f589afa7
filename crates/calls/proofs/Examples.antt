-- Document 01's examples hold, by computation.
use mathlib.Core.Path.{◌≡◌, refl}
use mathlib.Core.Bool.{true}
use Rattle.sets.specs.Sets.{has, only, union, meet, minus, add, below, set_of, count, largest, smallest, all}
use Rattle.tree.specs.Tree.{lineage, ancestors, half, flat, parent, row, entry, fresh, moves, sized, moved, upwards, path, links, reached}
use Rattle.tree.specs.Forms.{head_of, place_of, head_above, in_star, in_nest, above_in, tree_of}
use Rattle.tree.specs.Calls.{same, wrong_size}
use Rattle.calls.specs.Calls.{misshapen, wrong_view, mark_refused, marked, climbing, climbed}
use Rattle.calls.specs.Examples.{parents8, tallies, gives, tells, after1, after0, after01, after012, again, examples}

pub examples_hold : all examples ≡ true
unfolding all examples parents8 tallies gives tells after1 after0 after01 after012 again same wrong_size misshapen wrong_view mark_refused marked climbing climbed lineage ancestors half flat head_of place_of head_above in_star in_nest above_in tree_of parent row entry fresh moves sized moved upwards path links reached has only union meet minus add below set_of count largest smallest
examples_hold = refl
