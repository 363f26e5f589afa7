-- What a rank holds, and the changes that the rules are made of. Each change sets what its name says and nothing else, save that
-- the awaited set is always the children not in heard.
use Rattle.std.specs.Prelude.{ℕ}
use Rattle.sets.specs.Sets.{add, minus}
use Rattle.tree.specs.Tree.{children, parent}
use Rattle.rank.specs.declared.Rank.{Rank}
use Rattle.rank.specs.declared.Triple.{Triple}
use Rattle.rank.specs.Words.{outside, decided}
use Rattle.rank.specs.Triples.{fresh_triple, zero_triple, combine}

-- ---- what belongs to a rank's agreement

unfoldable pub becoming : ℕ → Rank → Rank
becoming p r = record { phase = p; marks = r.marks; acknowledged = r.acknowledged; heard = r.heard; awaited = r.awaited; owed = r.owed; triple = r.triple; result = r.result }

unfoldable pub combining : Triple → Rank → Rank
combining x r = record { phase = r.phase; marks = r.marks; acknowledged = r.acknowledged; heard = r.heard; awaited = r.awaited; owed = r.owed; triple = combine r.triple x; result = r.result }

unfoldable pub concluding : Triple → Rank → Rank
concluding x r = record { phase = decided; marks = r.marks; acknowledged = r.acknowledged; heard = r.heard; awaited = r.awaited; owed = r.owed; triple = r.triple; result = x }

unfoldable pub owing : ℕ → Rank → Rank
owing q r = record { phase = r.phase; marks = r.marks; acknowledged = r.acknowledged; heard = r.heard; awaited = r.awaited; owed = add r.owed q; triple = r.triple; result = r.result }

-- What a rank knows of deaths is its own in every agreement: a new acknowledged set.
unfoldable pub admitting : ℕ → Rank → Rank
admitting a r = record { phase = r.phase; marks = r.marks; acknowledged = a; heard = r.heard; awaited = r.awaited; owed = r.owed; triple = r.triple; result = r.result }

-- What a rank proposes on Enter with w: w, its marks and its acknowledged set.
unfoldable pub proposal : ℕ → Rank → Triple
proposal w r = record { word = w; known = r.marks; acknowledged = r.acknowledged }

-- ---- with the view: over any ancestor sets, in a group of n ranks, for the rank numbered me

-- The rank's parent and children in its own view.
unfoldable pub parent_of : (ℕ → ℕ) → ℕ → Rank → ℕ
parent_of anc me r = parent anc r.marks me

module _ (anc : ℕ → ℕ) (n me : ℕ) where
  unfoldable pub children_of : Rank → ℕ
  children_of r = children anc n r.marks me

  -- Awaited set: children not in heard.
  unfoldable pub awaiting : ℕ → ℕ → ℕ
  awaiting marks heard = minus (children anc n marks me) heard

  -- A fresh rank is outside, with marks, acknowledged set, heard and owed empty.
  unfoldable pub fresh_rank : Rank
  fresh_rank = record { phase = outside; marks = 0; acknowledged = 0; heard = 0; awaited = awaiting 0 0; owed = 0; triple = fresh_triple n; result = zero_triple }

  -- A new heard set.
  unfoldable pub hearing : ℕ → Rank → Rank
  hearing h r = record { phase = r.phase; marks = r.marks; acknowledged = r.acknowledged; heard = h; awaited = awaiting r.marks h; owed = r.owed; triple = r.triple; result = r.result }

  -- A new view.
  unfoldable pub viewing : ℕ → Rank → Rank
  viewing m r = record { phase = r.phase; marks = m; acknowledged = r.acknowledged; heard = r.heard; awaited = awaiting m r.heard; owed = r.owed; triple = r.triple; result = r.result }
