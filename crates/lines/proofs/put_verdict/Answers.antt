-- `put_verdict` meets its contract: one test. Assumes nothing.
use Rattle.lines.proofs.Laws.Lines.{verdict-decided, verdict_dash}
use Rattle.lines.proofs.put_verdict.Goals as goal

pub returns-then-phase-eq-DECIDED : goal.returns-then-phase-eq-DECIDED
returns-then-phase-eq-DECIDED c = search verdict-decided

pub returns-else-phase-eq-DECIDED : goal.returns-else-phase-eq-DECIDED
returns-else-phase-eq-DECIDED c = search verdict_dash
