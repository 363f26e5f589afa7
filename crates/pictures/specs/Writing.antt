-- What the writer answers and leaves in the lent buffer.
use Rattle.std.specs.Prelude.{ℕ, Result, Ok, Err, Bool, cond, not, ◌||◌, List, eqb, ltb, length}
use Rattle.sets.specs.Sets.{minus, below}
use Rattle.answers.specs.declared.Refusal.{Refusal}
use Rattle.answers.specs.declared.Refusal.TheVariants.{NoRoom}
use Rattle.answers.specs.Answers.{number}
use Rattle.answers.specs.Refusals.{accepted, bad_size, not_in_order}
use Rattle.tree.specs.Calls.{wrong_size}
use Rattle.text.specs.Text.{pasted}
use Rattle.pictures.specs.Pictures.{picture}

-- Marks outside the group or no rank left.
unfoldable pub wrong_marks : ℕ → ℕ → Bool
wrong_marks n marks = not (eqb (minus marks (below n)) 0) || eqb (minus (below n) marks) 0

-- The writer's answer: a refusal number, or 0 with the length of the text.
pub record Written : Type 0 where
  pub answer : ℕ
  pub length : ℕ

-- What the code's result answers.
abbrev pub written : Result ℕ Refusal → Written
written (Ok length) = record { answer = accepted; length = length }
written (Err refusal) = record { answer = number refusal; length = 0 }

-- The writer's answer, the length of what it wrote, and the buffer.
pub record Outcome : Type 0 where
  pub answer : ℕ
  pub length : ℕ
  pub text : List ℕ

-- What is answered, and the buffer then.
abbrev pub reply : Written → List ℕ → Outcome
reply r text = record { answer = r.answer; length = r.length; text = text }

-- A refusal writes nothing.
unfoldable pub refused_writing : ℕ → List ℕ → Outcome
refused_writing number text = record { answer = number; length = 0; text = text }

-- The picture stands from the buffer's start on; places past it stay as found.
unfoldable pub accepted_writing : List ℕ → List ℕ → Outcome
accepted_writing bytes text = record { answer = accepted; length = length bytes; text = pasted text 0 bytes }

-- 30 exactly when the text is longer than the buffer.
unfoldable pub room_for : List ℕ → List ℕ → Outcome
room_for bytes text = cond (ltb (length text) (length bytes)) (refused_writing (number NoRoom) text) (accepted_writing bytes text)

-- The writer gives 1 for a bad size, 2 for marks outside the group or no rank left, then 30.
unfoldable pub writing : ℕ → ℕ → List ℕ → Outcome
writing n marks text =
    cond (wrong_size n) (refused_writing bad_size text)
    (cond (wrong_marks n marks) (refused_writing not_in_order text) (room_for (picture n marks) text))
