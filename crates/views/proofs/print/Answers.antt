-- `print` meets its contract, as that of `printing` does: what was read is a front of what the reader has, whole or as long as the longest file and a
-- byte more, and what is drawn of that front is what is drawn of it all. Assumes nothing.
use Rattle.std.proofs.Common.{◌≤◌, List, ℕ, arith, rules, length, sym}
use Rattle.std.proofs.lemmas.List.{length-take-le}
use Rattle.std.proofs.lemmas.Result.{on_ok_weaker}
use Rattle.reading.proofs.Laws.Fronts.{whole_written}
use Rattle.text.proofs.Laws.Writing.{wrote_taken, wrote_kept}
use Rattle.listing.specs.Listings.{file_room}
use Rattle.drawing.specs.Drawings.{drawing}
use Rattle.drawing.proofs.Laws.Drawing.{drawing_fits}
use Rattle.drawing.proofs.Views.{drawing_of_the_start}
use Rattle.views.proofs.print.Goals as goal

pub slice_bounds-text-end : goal.slice_bounds-text-end
slice_bounds-text-end g c = drawing_fits _ _ _ _ _ c.report-end.ensures.wrote (search rules)

pub slice_bounds-write_all-end : goal.slice_bounds-write_all-end
slice_bounds-write_all-end g c = sym (length-take-le _ _ (drawing_fits _ _ _ _ _ c.report-end.ensures.wrote (search rules)))

pub returns-clause-ok : goal.returns-clause-ok
returns-clause-ok g c =
    let w = c.report-end.ensures.wrote in
    let fits : c.report-end.result ≤ length c.report-end.new.text = drawing_fits _ _ _ _ _ w (search rules) in
    let said = wrote_taken w (omega (arith, w.next_is, wrote_kept w, fits)) in
    let got = c.in_ok-got.ensures in
    let start = λ (file : List ℕ). drawing_of_the_start file _ in
    on_ok_weaker c.write_all.result
    (whole_written (λ (file : List ℕ). drawing file _) file_room _ _ _ _ c.read_full.new.buffer _ c.in_ok-got.got start (search rules) got.within got.bytes got.end said)
    c.write_all.ensures.bytes
