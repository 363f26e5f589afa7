-- What a rank does: document 01's rules, in its order, with request 2026-04's for an UP and with request 2026-08's triple for a word, over any ancestor sets. n is the group's size, me the rank's own number.
use Rattle.std.specs.Prelude.{ℕ, Bool, cond, ◌&&◌, ◌||◌, eqb}
use Rattle.sets.specs.Sets.{none, has, only, add, union, meet, minus, below}
use Rattle.tree.specs.declared.Moved.{Moved}
use Rattle.tree.specs.Tree.{children, fresh, moved, nobody}
use Rattle.tree.specs.Calls.{moved_below}
use Rattle.rank.specs.declared.Rank.{Rank}
use Rattle.rank.specs.declared.Send.{Send}
use Rattle.rank.specs.declared.Said.{Said}
use Rattle.rank.specs.declared.Acted.{Acted}
use Rattle.rank.specs.declared.Triple.{Triple}
use Rattle.rank.specs.Words.{gathering, waiting, decided}
use Rattle.rank.specs.Triples.{closing}
use Rattle.rank.specs.Records.{becoming, combining, concluding, owing, admitting, proposal, parent_of, children_of, hearing, viewing}
use Rattle.rank.specs.Sends.{silent, reports, tells, asks}

-- The rank is in this phase.
unfoldable pub in_phase : ℕ → Rank → Bool
in_phase p r = eqb r.phase p

-- The rank after a rule's own part, and what that part sends.
unfoldable pub saying : Rank → Send → Said
saying r s = record { rank = r; send = s }

module _ (anc : ℕ → ℕ) (n me : ℕ) where
  -- Decide x: result x, phase decided, send DOWN x to every unmarked rank in children or owed.
  unfoldable pub deciding : Triple → Rank → Said
  deciding x r = saying (concluding x r) (tells x (minus (union (children_of anc n me r) r.owed) r.marks))

  -- Settle: if gathering and awaited is empty, a rank with no parent decides its triple with its marks ORed into the
  -- known dead; any other sends UP triple to its parent and becomes waiting.
  unfoldable pub settled : Rank → Said
  settled r =
      cond (in_phase gathering r && eqb r.awaited 0)
      (cond (eqb (parent_of anc me r) none)
      (deciding (closing r.marks r.triple) r)
      (saying (becoming waiting r) (reports r (parent_of anc me r))))
      (saying r silent)

  -- All of a rule: its own part, then nothing; and its own part, then settle. The table is the fresh one of the rank's view.
  unfoldable pub done : Said → Moved → Acted
  done s moved = record { rank = s.rank; row = fresh anc n s.rank.marks; first = s.send; second = silent; moved = moved }

  unfoldable pub settling : Said → Moved → Acted
  settling s moved =
      record { rank = (settled s.rank).rank; row = fresh anc n (settled s.rank).rank.marks; first = s.send; second = (settled s.rank).send; moved = moved }

  -- Enter with w: the triple is combined with what the rank proposes, phase gathering. Then settle.
  unfoldable pub entering : ℕ → Rank → Acted
  entering w r = settling (saying (becoming gathering (combining (proposal w r) r)) silent) nobody

  -- UP x from q. If decided, send DOWN result to q. Else q joins heard and owed, and the triple is combined with x. Then settle.
  unfoldable pub noting : ℕ → Triple → Rank → Rank
  noting q x r = owing q (combining x (hearing anc n me (add r.heard q) r))

  unfoldable pub raised : ℕ → Triple → Rank → Said
  raised q x r =
      cond (in_phase decided r)
      (saying r (tells r.result (only q)))
      (saying (noting q x r) silent)

  unfoldable pub taking_up : ℕ → Triple → Rank → Acted
  taking_up q x r = settling (raised q x r) nobody

  -- DOWN x. If gathering or waiting, decide x. Else nothing.
  unfoldable pub lowered : Triple → Rank → Said
  lowered x r = cond (in_phase gathering r || in_phase waiting r) (deciding x r) (saying r silent)

  unfoldable pub taking_down : Triple → Rank → Acted
  taking_down x r = done (lowered x r) nobody

  -- ASK from q. Mark every rank below q, ascending. If decided, send DOWN result to q. Else q joins owed, and if waiting and q is now
  -- the parent, send UP triple to q. Then settle.
  unfoldable pub asked : ℕ → Rank → Said
  asked q r =
      cond (in_phase decided r)
      (saying r (tells r.result (only q)))
      (cond (in_phase waiting r && eqb (parent_of anc me r) q)
      (saying (owing q r) (reports r q))
      (saying (owing q r) silent))

  unfoldable pub taking_ask : ℕ → Rank → Acted
  taking_ask q r = settling (asked q (viewing anc n me (union r.marks (below q)) r)) (moved_below anc n r.marks q)

  -- Notice that q is dead. If waiting and q was the parent: with a new parent, send it UP triple; with none, empty heard, become gathering
  -- and ASK all children.
  unfoldable pub renewing : Rank → Said
  renewing r = saying r (reports r (parent_of anc me r))

  unfoldable pub regathering : Rank → Said
  regathering r = saying (becoming gathering (hearing anc n me 0 r)) (asks (children_of anc n me r))

  unfoldable pub orphaned : Rank → Said
  orphaned r = cond (eqb (parent_of anc me r) none) (regathering r) (renewing r)

  -- If gathering, without a parent before the mark, and q was a child: ASK each child gained from q, that is, each whose parent was q.
  unfoldable pub inheriting : ℕ → Rank → Rank → Said
  inheriting q before r = saying r (asks (meet (children_of anc n me r) (children anc n before.marks q)))

  unfoldable pub bereaved : ℕ → Rank → Rank → Said
  bereaved q before r =
      cond (in_phase waiting before && eqb (parent_of anc me before) q)
      (orphaned r)
      (cond (in_phase gathering before && eqb (parent_of anc me before) none && has (children_of anc n me before) q)
      (inheriting q before r)
      (saying r silent))

  -- If already marked, nothing. Else mark q, then the parts above. Then settle.
  unfoldable pub noticing : ℕ → Rank → Acted
  noticing q r =
      cond (has r.marks q)
      (done (saying r silent) nobody)
      (settling (bereaved q r (viewing anc n me (add r.marks q) r)) (moved anc n r.marks q))

  -- Acknowledge: the acknowledged set becomes the marks. Nothing is sent, and nothing moves.
  unfoldable pub acknowledging : Rank → Acted
  acknowledging r = done (saying (admitting r.marks r) silent) nobody
