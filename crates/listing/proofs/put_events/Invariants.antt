-- The lines that `put_events` puts.
use Rattle.listing.proofs.Laws.Lines.{event_lines}
use Rattle.listing.proofs.put_events.Given as goal

abbrev pub ghost-put_lines : goal.ghost-put_lines
ghost-put_lines a = event_lines a.line.0.now
