-- Each file gets the number that its case names, by computation. Assumes nothing.
use mathlib.Core.Path.{◌≡◌, refl}
use mathlib.Core.Bool.{true}
use Rattle.sets.specs.Sets.{all}
use Rattle.tree.specs.Calls.{wrong_size}
use Rattle.files.specs.Files.{byte_at, short_at, events_in, wrong_mark, wrong_version, broken, header}
use Rattle.files.specs.Cases.{file, gets, cases}

pub cases_hold : all cases ≡ true
unfolding all cases gets file byte_at short_at events_in wrong_mark wrong_version broken header wrong_size
cases_hold = refl
