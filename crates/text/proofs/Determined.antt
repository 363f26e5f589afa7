-- A public contract leaves nothing open: two replies to the same call that meet it are the same, and so is the page at exit.
-- Assumes nothing.
use mathlib.Core.Path.{◌≡◌, refl}
use contract.Lifetimes.{Lfts}
use Rattle.text.proofs.Laws.Writing.{puts_alike}
use Rattle.text.proofs.Page.put_byte.Reads as put_byte
use Rattle.text.proofs.Page.put_letters.Reads as put_letters
use Rattle.text.proofs.Page.put_number.Reads as put_number
use Rattle.text.proofs.Page.put_field.Reads as put_field
use Rattle.text.proofs.Page.put_end.Reads as put_end
use Rattle.text.proofs.Page.put_three.Reads as put_three
use Rattle.text.proofs.Page.put_lines.Reads as put_lines

pub put_byte_determined : (κs : Lfts 2) (a : _) (t u : _) (x y : _) → put_byte.Post κs a t x → put_byte.Post κs a u y → (t ≡ u) × (x.0.now ≡ y.0.now)
put_byte_determined κs a t u x y e f = (refl, puts_alike e f)

pub put_letters_determined : (κs : Lfts 3) (a : _) (t u : _) (x y : _) → put_letters.Post κs a t x → put_letters.Post κs a u y → (t ≡ u) × (x.0.now ≡ y.0.now)
put_letters_determined κs a t u x y e f = (refl, puts_alike e f)

pub put_number_determined : (κs : Lfts 2) (a : _) (t u : _) (x y : _) → put_number.Post κs a t x → put_number.Post κs a u y → (t ≡ u) × (x.0.now ≡ y.0.now)
put_number_determined κs a t u x y e f = (refl, puts_alike e f)

pub put_field_determined : (κs : Lfts 2) (a : _) (t u : _) (x y : _) → put_field.Post κs a t x → put_field.Post κs a u y → (t ≡ u) × (x.0.now ≡ y.0.now)
put_field_determined κs a t u x y e f = (refl, puts_alike e f)

pub put_end_determined : (κs : Lfts 2) (a : _) (t u : _) (x y : _) → put_end.Post κs a t x → put_end.Post κs a u y → (t ≡ u) × (x.0.now ≡ y.0.now)
put_end_determined κs a t u x y e f = (refl, puts_alike e f)

pub put_three_determined : (κs : Lfts 2) (a : _) (t u : _) (x y : _) → put_three.Post κs a t x → put_three.Post κs a u y → (t ≡ u) × (x.0.now ≡ y.0.now)
put_three_determined κs a t u x y e f = (refl, puts_alike e f)

-- Whatever the function is that puts the lines.
pub put_lines_determined : (F : _) (laws : _) (fn : _) (d e f h : _) (of : _) (κs : Lfts 3) (a : _) (t u : _) (x y : _) → put_lines.Post-at F laws fn d e f h of κs a t x
    → put_lines.Post-at F laws fn d e f h of κs a u y → (t ≡ u) × (x.0.now ≡ y.0.now)
put_lines_determined F laws fn d e f h of κs a t u x y p q = (refl, puts_alike p q)
