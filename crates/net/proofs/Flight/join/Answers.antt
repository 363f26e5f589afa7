-- `join` meets its contract: the first free place gets the message. Assumes nothing.
use mathlib.Core.Path.{sym, ap, ◌∙◌}
use mathlib.Core.List.{List, [], ◌∷◌, ◌++◌}
use lib.ListN.{length}
use native.Mathlib.Omega.{arith}
use Rattle.rank.specs.declared.Message.{Message}
use Rattle.net.proofs.Laws.Net.{clear_put, padded_clear}
use Rattle.net.proofs.Laws.Numbers.{messages-long, flight-long, flight_clear, flight_more}
use Rattle.net.proofs.Flight.join.Goals as goal

pub put-requires : goal.put-requires
put-requires c = let l = sym (flight-long _ _ c.self.invariant.0) ∙ ap length c.self.view_is in omega arith

pub invariant_of-self : goal.invariant_of-self
invariant_of-self c =
    let s = c.self.invariant in
    let l = sym (flight-long _ _ s.0) ∙ ap length c.self.view_is in
    (omega arith, c.put.ensures.small s.1, padded_clear _ _ (messages-long _) (omega arith) (clear_put _ _ _ _ _ _ (flight_clear _ _ s.0 s.2) (omega arith) (omega arith) c.put.ensures.messages))

pub returns : goal.returns
returns c =
    let l = sym (flight-long _ _ c.self.invariant.0) ∙ ap length c.self.view_is in
    flight_more _ _ _ _ (omega arith) c.put.ensures.messages ∙ ap (λ (t : List Message). t ++ (c.args.m ∷ [])) c.self.view_is
