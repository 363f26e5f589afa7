-- Refusals 3 to 10 of an event, each a test under document 01's words. The lowest number that applies is given.
use Rattle.std.specs.Prelude.{ℕ, Bool, cond, not, ◌&&◌, ◌||◌, eqb, leb}
use Rattle.sets.specs.Sets.{has, only, minus, below}
use Rattle.answers.specs.Refusals.{accepted, bad_kind, bad_rank, bad_place, dead_rank, entered, living_rank, only_living, living_ends}
use Rattle.rank.specs.declared.Rank.{Rank}
use Rattle.rank.specs.declared.Message.{Message}
use Rattle.rank.specs.Words.{outside}
use Rattle.events.specs.declared.Event.{Event}
use Rattle.events.specs.Events.{enters, crashes, notices, loses, acknowledges, names_rank, names_place}

-- 3: kind not 1 to 6, or b not 0 where it must be: for kinds 2, 3, 5 and 6.
unfoldable pub wrong_kind : Event → Bool
wrong_kind ev =
    not (names_rank ev.kind || names_place ev.kind)
    || (names_place ev.kind || eqb ev.kind crashes || eqb ev.kind acknowledges) && not (eqb ev.b 0)

-- 4: a rank number (a for kinds 1, 3, 4, 6; b for kind 4) is not below n.
unfoldable pub wrong_rank : ℕ → Event → Bool
wrong_rank n ev = names_rank ev.kind && leb n ev.a || eqb ev.kind notices && leb n ev.b

-- 5: no message at that place.
unfoldable pub no_message : ℕ → Event → Bool
no_message count ev = names_place ev.kind && leb count ev.a

-- 6: kind 1, 3, 4 or 6 and rank a is dead.
unfoldable pub is_dead : ℕ → Event → Bool
is_dead dead ev = names_rank ev.kind && has dead ev.a

-- 7: kind 1 or 6 and a is not outside.
unfoldable pub not_outside : Event → Rank → Bool
not_outside ev r = (eqb ev.kind enters || eqb ev.kind acknowledges) && not (eqb r.phase outside)

-- 8: kind 4 and b is living.
unfoldable pub is_living : ℕ → Event → Bool
is_living dead ev = eqb ev.kind notices && not (has dead ev.b)

-- 9: kind 3 and a is the only living rank.
unfoldable pub is_last : ℕ → ℕ → Event → Bool
is_last n dead ev = eqb ev.kind crashes && eqb (minus (below n) dead) (only ev.a)

-- 10: kind 5 and both ends live.
unfoldable pub both_live : ℕ → Event → Message → Bool
both_live dead ev m = eqb ev.kind loses && not (has dead m.from) && not (has dead m.to)

-- The lowest that applies, or 0. r is rank a's record and m the message at place a.
unfoldable pub late_refusal : ℕ → ℕ → Event → Rank → Message → ℕ
late_refusal n dead ev r m =
    cond (not_outside ev r) entered
    (cond (is_living dead ev) living_rank
    (cond (is_last n dead ev) only_living
    (cond (both_live dead ev m) living_ends accepted)))

unfoldable pub refusal : ℕ → ℕ → ℕ → Event → Rank → Message → ℕ
refusal n dead count ev r m =
    cond (wrong_kind ev) bad_kind
    (cond (wrong_rank n ev) bad_rank
    (cond (no_message count ev) bad_place
    (cond (is_dead dead ev) dead_rank
    (late_refusal n dead ev r m))))
