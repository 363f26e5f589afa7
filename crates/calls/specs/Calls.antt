-- What the calls on a view answer: mark and climb, in a form with a box size; document 01, "The tree" and "Refusal numbers", and request 2026-09.
use Rattle.std.specs.Prelude.{ℕ, Bool, cond, not, ◌||◌, List, Option, None, Some, Result, Ok, Err, eqb, ltb}
use Rattle.sets.specs.Sets.{none, has, add, meet, minus, below}
use Rattle.answers.specs.Refusals.{accepted, bad_size, not_in_order, bad_rank, dead_rank, too_short, bad_box, bad_form}
use Rattle.answers.specs.Answers.{number}
use Rattle.tree.specs.declared.Moved.{Moved}
use Rattle.tree.specs.declared.Mended.{Mended}
use Rattle.tree.specs.Tree.{fresh, moved, nobody, links, reached}
use Rattle.tree.specs.Forms.{nested_form, tree_of}
use Rattle.tree.specs.Calls.{wrong_size, same}
use Rattle.calls.specs.declared.NotMarked.{NotMarked}
use Rattle.calls.specs.declared.Climbed.{Climbed}
use Rattle.calls.specs.declared.NotClimbed.{NotClimbed}
use Rattle.calls.specs.declared.NotClimbed.TheVariants.{Refused, FromMarked, Short}

-- What start, mark and climb check first: the group size (1), then the box size (50), then the form (51). 0 where all are right.
unfoldable pub misshapen : ℕ → ℕ → ℕ → ℕ
misshapen n form span =
    cond (wrong_size n) bad_size
    (cond (wrong_size span) bad_box
    (cond (ltb nested_form form) bad_form
    accepted))

-- Marks outside the group, or a table that isn't the fresh one.
unfoldable pub wrong_view : (ℕ → ℕ) → ℕ → ℕ → List ℕ → Bool
wrong_view anc n marks table = not (eqb (minus marks (below n)) 0) || not (same table (fresh anc n marks))

-- A mark answers a number, a view with its table, and moved.
pub record Marked : Type 0 where
  pub answer : ℕ
  pub marks : ℕ
  pub table : List ℕ
  pub moved : Moved

-- Marking takes size, form and box size, a view, its table and a rank. A refusal hands back view and table unchanged with moved 0, of
-- nobody; even the last unmarked rank may be marked.
unfoldable pub mark_refused : ℕ → ℕ → List ℕ → Marked
mark_refused number marks table = record { answer = number; marks = marks; table = table; moved = nobody }

unfoldable pub marked : ℕ → ℕ → ℕ → ℕ → List ℕ → ℕ → Marked
marked n form span marks table q =
    let anc = tree_of form span in
    cond (not (eqb (misshapen n form span) accepted)) (mark_refused (misshapen n form span) marks table)
    (cond (wrong_view anc n marks table) (mark_refused not_in_order marks table)
    (cond (not (ltb q n)) (mark_refused bad_rank marks table)
    (record { answer = accepted; marks = add marks q; table = fresh anc n (add marks q); moved = moved anc n marks q })))

-- The number, view, table and moved of each reply to a mark.
unfoldable pub mark_told : Result Mended NotMarked → Marked
mark_told (Ok m) = record { answer = accepted; marks = m.marks; table = m.table; moved = m.moved }
mark_told (Err e) = mark_refused (number e.refusal) e.marks e.table

-- A climb answers a number, a rank and a count of links.
pub record Told : Type 0 where
  pub number : ℕ
  pub rank : ℕ
  pub climbed : ℕ

-- The number, rank and links of each reply to a climb.
abbrev pub not_climbed : ℕ → Told
not_climbed number = record { number = number; rank = none; climbed = 0 }

unfoldable pub told : Result Climbed NotClimbed → Told
told (Ok c) = record { number = accepted; rank = c.rank; climbed = c.links }
told (Err (Refused e)) = not_climbed (number e)
told (Err (FromMarked r)) = record { number = dead_rank; rank = r; climbed = 0 }
told (Err (Short c)) = record { number = too_short; rank = c.rank; climbed = c.links }

-- The rank that a reply names, if it names one.
unfoldable pub named : Result Climbed NotClimbed → Option ℕ
named (Ok c) = Some c.rank
named (Err (Refused e)) = None
named (Err (FromMarked r)) = Some r
named (Err (Short c)) = Some c.rank

-- A climb asks for the root above an unmarked rank with an allowance of links. It answers the root and the links climbed, or
-- refusal 12 with the rank reached and the allowance used up, exactly when more links are needed. Marks at n and above are
-- ignored; refusals 1, 50, 51 and 4 answer rank 255 and 0 links, 6 the rank asked and 0 links.
unfoldable pub climbing : (ℕ → ℕ) → ℕ → ℕ → ℕ → Told
climbing anc view p allowance =
    cond (ltb allowance (links anc view p))
    (record { number = too_short; rank = reached anc view p allowance; climbed = allowance })
    (record { number = accepted; rank = reached anc view p (links anc view p); climbed = links anc view p })

unfoldable pub climbed : ℕ → ℕ → ℕ → ℕ → ℕ → ℕ → Told
climbed n form span marks p allowance =
    cond (not (eqb (misshapen n form span) accepted)) (not_climbed (misshapen n form span))
    (cond (not (ltb p n)) (not_climbed bad_rank)
    (cond (has (meet marks (below n)) p) (record { number = dead_rank; rank = p; climbed = 0 })
    (climbing (tree_of form span) (meet marks (below n)) p allowance)))
