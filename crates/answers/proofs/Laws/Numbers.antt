-- A refusal is known by its number, which is never 0, and so an answer is known by its number. Assumes nothing.
use mathlib.Core.Path.{◌≡◌, refl, sym, ap, ◌∙◌}
use mathlib.Core.Bool.{false, cond}
use Prim.Native.Nat.{ℕ}
use lib.Dec.{eqb}
use Rattle.answers.specs.declared.Refusal.{Refusal}
use Rattle.answers.specs.declared.Refusal.TheVariants.{BadSize, NotInOrder, BadKind, BadRank, BadPlace, DeadRank, Entered, LivingRank, OnlyLiving, LivingEnds, TooMany, TooShort, NoHeader, WrongMark, WrongVersion, Broken, TooLong, FewPlaces, NoRoom, NoPicture, NotByThree, FewAnswers, BadBox, BadForm}
use Rattle.answers.specs.Answers.{number}

-- The refusal of a number.
abbrev of_number : ℕ → Refusal
of_number k =
    (cond (eqb k 1) BadSize
    (cond (eqb k 2) NotInOrder
    (cond (eqb k 3) BadKind
    (cond (eqb k 4) BadRank
    (cond (eqb k 5) BadPlace
    (cond (eqb k 6) DeadRank
    (cond (eqb k 7) Entered
    (cond (eqb k 8) LivingRank
    (cond (eqb k 9) OnlyLiving
    (cond (eqb k 10) LivingEnds
    (cond (eqb k 11) TooMany
    (cond (eqb k 12) TooShort
    (cond (eqb k 20) NoHeader
    (cond (eqb k 21) WrongMark
    (cond (eqb k 22) WrongVersion
    (cond (eqb k 23) Broken
    (cond (eqb k 24) TooLong
    (cond (eqb k 25) FewPlaces
    (cond (eqb k 30) NoRoom
    (cond (eqb k 31) NoPicture
    (cond (eqb k 40) NotByThree
    (cond (eqb k 41) FewAnswers
    (cond (eqb k 50) BadBox
    BadForm)))))))))))))))))))))))

of_its_number : (e : Refusal) → of_number (number e) ≡ e
of_its_number BadSize = refl
of_its_number NotInOrder = refl
of_its_number BadKind = refl
of_its_number BadRank = refl
of_its_number BadPlace = refl
of_its_number DeadRank = refl
of_its_number Entered = refl
of_its_number LivingRank = refl
of_its_number OnlyLiving = refl
of_its_number LivingEnds = refl
of_its_number TooMany = refl
of_its_number TooShort = refl
of_its_number NoHeader = refl
of_its_number WrongMark = refl
of_its_number WrongVersion = refl
of_its_number Broken = refl
of_its_number TooLong = refl
of_its_number FewPlaces = refl
of_its_number NoRoom = refl
of_its_number NoPicture = refl
of_its_number NotByThree = refl
of_its_number FewAnswers = refl
of_its_number BadBox = refl
of_its_number BadForm = refl

pub number-one_to_one : (a b : Refusal) → number a ≡ number b → a ≡ b
number-one_to_one a b e = sym (of_its_number a) ∙ ap of_number e ∙ of_its_number b

pub number-not_0 : (e : Refusal) → eqb (number e) 0 ≡ false
number-not_0 BadSize = refl
number-not_0 NotInOrder = refl
number-not_0 BadKind = refl
number-not_0 BadRank = refl
number-not_0 BadPlace = refl
number-not_0 DeadRank = refl
number-not_0 Entered = refl
number-not_0 LivingRank = refl
number-not_0 OnlyLiving = refl
number-not_0 LivingEnds = refl
number-not_0 TooMany = refl
number-not_0 TooShort = refl
number-not_0 NoHeader = refl
number-not_0 WrongMark = refl
number-not_0 WrongVersion = refl
number-not_0 Broken = refl
number-not_0 TooLong = refl
number-not_0 FewPlaces = refl
number-not_0 NoRoom = refl
number-not_0 NoPicture = refl
number-not_0 NotByThree = refl
number-not_0 FewAnswers = refl
number-not_0 BadBox = refl
number-not_0 BadForm = refl
