-- `print` meets its contract: what was read is a front of what the reader has, whole or as long as the longest file and a byte more, and what is
-- reported of that front is what is reported of it all. Assumes nothing.
use Rattle.std.proofs.Common.{◌≤◌, List, ℕ, arith, rules, length, sym}
use Rattle.std.proofs.lemmas.List.{length-take-le}
use Rattle.std.proofs.lemmas.Result.{on_ok_weaker}
use Rattle.reading.proofs.Laws.Fronts.{whole_written}
use Rattle.text.proofs.Laws.Writing.{wrote_taken, wrote_kept}
use Rattle.listing.specs.Listings.{file_room, report}
use Rattle.listing.proofs.Laws.Reporting.{report_fits}
use Rattle.listing.proofs.Printing.{report_of_the_start}
use Rattle.printing.proofs.print.Goals as goal

pub slice_bounds-text-end : goal.slice_bounds-text-end
slice_bounds-text-end g c = report_fits _ _ _ _ _ c.report-end.ensures.wrote (search rules)

pub slice_bounds-write_full-end : goal.slice_bounds-write_full-end
slice_bounds-write_full-end g c = sym (length-take-le _ _ (report_fits _ _ _ _ _ c.report-end.ensures.wrote (search rules)))

pub returns-clause-ok : goal.returns-clause-ok
returns-clause-ok g c =
    let w = c.report-end.ensures.wrote in
    let fits : c.report-end.result ≤ length c.report-end.new.text = report_fits _ _ _ _ _ w (search rules) in
    let said = wrote_taken w (omega (arith, w.next_is, wrote_kept w, fits)) in
    let got = c.in_ok-got.ensures in
    let start = λ (file : List ℕ). report_of_the_start file _ in
    on_ok_weaker c.write_full.result
    (whole_written (λ (file : List ℕ). report file _) file_room _ _ _ _ c.read_full.new.buffer _ c.in_ok-got.got start (search rules) got.within got.bytes got.end said)
    c.write_full.ensures.ok
