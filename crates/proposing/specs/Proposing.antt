-- The view that the reader proposes for a text, from the first line and the node lines. Nobody need believe it: the reader accepts only
-- where the writer's text for this view is the text in hand.
use Rattle.std.specs.Prelude.{ℕ, zero, suc, ◌+◌, ◌*◌, ◌-◌, Bool, cond, ◌&&◌, List, eqb, ltb, leb, get_or}
use Rattle.sets.specs.Sets.{none, add}

unfoldable pub is_digit : ℕ → Bool
is_digit b = leb 48 b && leb b 57

-- A number of one digit or two, from its bytes; none where the first is no digit.
unfoldable pub number_from : ℕ → ℕ → ℕ
number_from first second = cond (is_digit first) (cond (is_digit second) (10 * (first - 48) + (second - 48)) (first - 48)) none

-- The number at a place.
unfoldable pub number_in : List ℕ → ℕ → ℕ
number_in text at = number_from (get_or text at 0) (get_or text (at + 1) 0)

-- How many digits a rank or a size has.
unfoldable pub width : ℕ → ℕ
width p = cond (ltb p 10) 1 2

-- The place after the node line of p: after its number come `;` and a line feed, or twelve bytes more.
unfoldable pub after_node : List ℕ → ℕ → ℕ → ℕ
after_node text at p = at + width p + cond (eqb (get_or text (at + width p) 0) 59) 2 14

-- The marks of the next `left` ranks, from p on, joined to those of the ranks before: a rank is unmarked where the next line begins with
-- its number.
unfoldable pub marks_from : List ℕ → ℕ → ℕ → ℕ → ℕ → ℕ
marks_from text zero p at marks = marks
marks_from text (suc left) p at marks =
    cond (eqb (number_in text at) p) (marks_from text left (p + 1) (after_node text at p) marks) (marks_from text left (p + 1) at (add marks p))

-- The size stands after nine letters; the node lines follow three bytes after it.
unfoldable pub size_in : List ℕ → ℕ
size_in text = number_in text 9

unfoldable pub marks_in : List ℕ → ℕ → ℕ
marks_in text n = marks_from text n 0 (12 + width n) 0
