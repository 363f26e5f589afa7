-- What the reader answers: the view written, or that there is none.
use Rattle.std.specs.Prelude.{ℕ, ◌≡◌, Result, Ok, Err, false, List}
use Rattle.answers.specs.declared.Refusal.{Refusal}
use Rattle.answers.specs.declared.Refusal.TheVariants.{NoPicture}
use Rattle.answers.specs.Answers.{number}
use Rattle.answers.specs.Refusals.{accepted}
use Rattle.tree.specs.Calls.{wrong_size}
use Rattle.pictures.specs.Pictures.{picture}
use Rattle.pictures.specs.Writing.{wrong_marks}
use Rattle.pictures.specs.declared.View.{View}

-- A size of 1 to 64 and a set of marks that leaves at least one rank: what the writer does not refuse with 1 or 2.
pub record IsView (n marks : ℕ) : Type 0 where
  pub sized : wrong_size n ≡ false
  pub leaves : wrong_marks n marks ≡ false

-- The reader's answer: a refusal number, or 0 with the view.
pub record Viewed : Type 0 where
  pub answer : ℕ
  pub n : ℕ
  pub marks : ℕ

-- What the code's result answers.
abbrev pub viewed : Result View Refusal → Viewed
viewed (Ok view) = record { answer = accepted; n = view.n; marks = view.marks }
viewed (Err refusal) = record { answer = number refusal; n = 0; marks = 0 }

-- A text is read as the view whose picture it is, or refused with 31, size 0 and no marks, exactly where it is the picture of no view.
pub data Reads (text : List ℕ) : Viewed → Type 0 where
  a_picture : (n marks : ℕ) → IsView n marks → text ≡ picture n marks → Reads text (record { answer = accepted; n = n; marks = marks })
  not_a_picture : ((n marks : ℕ) → IsView n marks → text ≡ picture n marks → ⊥) → Reads text (record { answer = number NoPicture; n = 0; marks = 0 })
