-- `take_out` meets its contract. Assumes nothing.
use mathlib.Core.Path.{refl, sym, ap, ◌∙◌}
use lib.ListN.{length}
use native.Mathlib.Omega.{arith}
use Rattle.net.specs.Net.{without}
use Rattle.net.proofs.Laws.Net.{closing_on, closing_done, before_put, clear_put, clear_out, padded_clear}
use Rattle.net.proofs.Laws.Numbers.{messages-long, flight-long, flight_clear}
use Rattle.net.proofs.Flight.take_out.Goals as goal

pub loop-i-init : goal.loop-i-init
loop-i-init c = let s = c.self.invariant in (refl, omega (arith, sym (flight-long _ _ s.0) ∙ ap length c.self.view_is), refl, s.1, flight_clear _ _ s.0 s.2)

pub loop-i-preserved : goal.loop-i-preserved
loop-i-preserved c =
    let h = c.loop-i.invariant in
    (h.0, omega (arith, h.0), closing_on _ _ _ _ _ _ (omega (arith, h.0)) (omega (arith, h.0, messages-long c.loop-i.self-inside.numbers, c.self.invariant.0)) refl c.pull.ensures.messages h.2, c.pull.ensures.small h.3, clear_put _ _ _ _ _ _ h.4 (omega arith) h.1 c.pull.ensures.messages)

pub invariant_of-self : goal.invariant_of-self
invariant_of-self c =
    let h = c.loop-i.invariant in
    (omega (arith, c.self.invariant.0), c.put.ensures.small h.3, padded_clear _ _ (messages-long _) (omega (arith, c.self.invariant.0)) (clear_out _ _ _ _ _ h.4 (omega (arith, h.0)) (omega (arith, messages-long c.loop-i.self-inside.numbers)) c.nothing.ensures c.put.ensures.messages))

pub returns : goal.returns
returns c =
    let h = c.loop-i.invariant in
    let k = rw h.0 at h.2 in
    before_put _ _ _ _ _ (omega (arith, h.0, c.self.invariant.0)) c.put.ensures.messages
    ∙ closing_done _ _ _ _ (omega (arith, h.0)) (omega arith) (omega (arith, messages-long c.loop-i.self-inside.numbers, c.self.invariant.0)) k ∙ ap (without c.args.place) c.self.view_is
