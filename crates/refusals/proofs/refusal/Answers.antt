-- `refusal` meets its contract: a kind that is wrong, or what it names. Assumes nothing.
use mathlib.Core.Path.{sym, ◌∙◌}
use Rattle.refusals.proofs.Laws.Refusing.{refusal_3, names_one}
use Rattle.refusals.proofs.refusal.Goals as goal

pub returns-then-wrong_kind : goal.returns-then-wrong_kind
returns-then-wrong_kind c = search refusal_3

pub of_rank-requires-clause-ev_value : goal.of_rank-requires-clause-ev_value
of_rank-requires-clause-ev_value c = let right = sym c.wrong_kind.ensures ∙ c.if-wrong_kind.false in
    (right, names_one _ right (sym c.names_place.ensures ∙ c.if-names_place.false))
