-- What a rule sends. A send goes to a set of ranks, in ascending order of receiver; the sends of a rule go out in the order written.
use Rattle.std.specs.Prelude.{ℕ, List, map}
use Rattle.sets.specs.Sets.{has, only, listed, count}
use Rattle.rank.specs.declared.Rank.{Rank}
use Rattle.rank.specs.declared.Send.{Send}
use Rattle.rank.specs.declared.Message.{Message}
use Rattle.rank.specs.declared.Triple.{Triple}
use Rattle.rank.specs.Words.{up, down, ask}
use Rattle.rank.specs.Triples.{zero_triple}

-- Nothing is sent.
unfoldable pub silent : Send
silent = record { kind = 0; triple = zero_triple; to = 0 }

-- UP triple to q.
unfoldable pub reports : Rank → ℕ → Send
reports r q = record { kind = up; triple = r.triple; to = only q }

-- DOWN x to each rank of the set.
unfoldable pub tells : Triple → ℕ → Send
tells x to = record { kind = down; triple = x; to = to }

-- ASK each rank of the set.
unfoldable pub asks : ℕ → Send
asks to = record { kind = ask; triple = zero_triple; to = to }

-- The messages of a send by the rank `me`, and those of all that a rule sends.
unfoldable pub letter : ℕ → Send → ℕ → Message
letter me s q = record { kind = s.kind; from = me; to = q; triple = s.triple }

unfoldable pub letters : ℕ → Send → List Message
letters me s = map (letter me s) (listed (has s.to) 64)

-- How many messages a send makes.
abbrev pub size : Send → ℕ
size s = count (has s.to) 64
