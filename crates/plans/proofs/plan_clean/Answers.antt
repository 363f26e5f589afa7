-- `plan_clean` meets its contract: no room, or what the event does. Assumes nothing.
use Rattle.refusals.proofs.Laws.Refusing.{notice_names}
use Rattle.plans.proofs.Laws.Planning.{draft_fits, draft_full}
use Rattle.plans.proofs.plan_clean.Goals as goal

pub draft-p-requires-clause-b_lt_n : goal.draft-p-requires-clause-b_lt_n
draft-p-requires-clause-b_lt_n c = notice_names _ _ _ _ _ _ c.requires.m_value

pub returns-then-afterwards-gt128 : goal.returns-then-afterwards-gt128
returns-then-afterwards-gt128 c = rw c.not_planned.ensures (draft_full _ _ _ _ _ _ _ _ _ _ _ c.requires.m_value c.draft-p.ensures c.afterwards.ensures c.if-afterwards-gt128.true)

pub returns : goal.returns
returns c = draft_fits _ _ _ _ _ _ _ _ _ _ _ c.requires.m_value c.draft-p.ensures c.afterwards.ensures c.if-afterwards-gt128.false
