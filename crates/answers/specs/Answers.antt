-- The number of each refusal, and of an answer: 0 is acceptance. Those of files, pictures and runs stand here under document 01's and document
-- 02's words, the others in Refusals.
use Rattle.std.specs.Prelude.{ℕ, Result, Ok, Err}
use Rattle.answers.specs.declared.Refusal.{Refusal}
use Rattle.answers.specs.declared.Refusal.TheVariants.{BadSize, NotInOrder, BadKind, BadRank, BadPlace, DeadRank, Entered, LivingRank, OnlyLiving, LivingEnds, TooMany, TooShort, NoHeader, WrongMark, WrongVersion, Broken, TooLong, FewPlaces, NoRoom, NoPicture, NotByThree, FewAnswers, BadBox, BadForm}
use Rattle.answers.specs.Refusals.{accepted, bad_size, not_in_order, bad_kind, bad_rank, bad_place, dead_rank, entered, living_rank, only_living, living_ends, too_many, too_short, bad_box, bad_form}

abbrev pub number : Refusal → ℕ
number BadSize = bad_size
number NotInOrder = not_in_order
number BadKind = bad_kind
number BadRank = bad_rank
number BadPlace = bad_place
number DeadRank = dead_rank
number Entered = entered
number LivingRank = living_rank
number OnlyLiving = only_living
number LivingEnds = living_ends
number TooMany = too_many
number TooShort = too_short
-- a schedule file has fewer than 6 bytes; its mark; its version; a broken last event; more than 36,870 bytes; fewer than three places an event
number NoHeader = 20
number WrongMark = 21
number WrongVersion = 22
number Broken = 23
number TooLong = 24
number FewPlaces = 25
-- a picture finds no room in the lent buffer; a text that the writer produces for no view
number NoRoom = 30
number NoPicture = 31
-- events lent as numbers: their length is no multiple of three; the answer slice is too short for three numbers an event
number NotByThree = 40
number FewAnswers = 41
number BadBox = bad_box
number BadForm = bad_form

abbrev pub answer_of : {A : Type 0} → Result A Refusal → ℕ
answer_of (Ok _) = accepted
answer_of (Err e) = number e
