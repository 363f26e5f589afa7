-- A public contract leaves nothing open: two replies to the same call that meet it are the same, and so is the lent buffer at exit.
-- Assumes nothing.
use mathlib.Core.Path.{◌≡◌, refl, ap}
use mathlib.Core.List.{List}
use Prim.Native.Nat.{ℕ}
use contract.Lifetimes.{Lfts}
use Rattle.std.specs.Prelude.{Result}
use Rattle.answers.specs.declared.Refusal.{Refusal}
use Rattle.sets.proofs.Laws.Alike.{alike}
use Rattle.text.proofs.Laws.Writing.{puts_alike}
use Rattle.pictures.specs.Writing.{Written, written, Outcome, reply}
use Rattle.pictures.proofs.Laws.Calls.{reads_alike, written_alike, viewed_alike}
use Rattle.pictures.proofs.put_picture.Reads as put_picture
use Rattle.pictures.proofs.write.Reads as write
use Rattle.pictures.proofs.read.Reads as read

pub put_picture_determined : (κs : Lfts 2) (a : _) (t u : _) (x y : _) → put_picture.Post κs a t x → put_picture.Post κs a u y → (t ≡ u) × (x.0.now ≡ y.0.now)
put_picture_determined κs a t u x y e f = (refl, puts_alike e f)

-- The answer, the length and the buffer.
same : (t u : Result ℕ Refusal) (x y : List ℕ) → reply (written t) x ≡ reply (written u) y → (t ≡ u) × (x ≡ y)
same t u x y e = (written_alike t u (ap {B = Written} (λ (w : Outcome). record { answer = w.answer; length = w.length }) e), ap (λ (w : Outcome). w.text) e)

pub write_determined : (κs : Lfts 1) (a : _) (t u : _) (x y : _) → write.Post κs a t x → write.Post κs a u y → (t ≡ u) × (x.1.1.0.now ≡ y.1.1.0.now)
write_determined κs a t u x y e f = same t u x.1.1.0.now y.1.1.0.now (alike e f)

-- The answer and the view: two views with the same picture are the same.
pub read_determined : (κs : Lfts 1) (a : _) (t u : _) (x y : _) → read.Post κs a t x → read.Post κs a u y → t ≡ u
read_determined κs a t u x y e f = viewed_alike t u (reads_alike e f)

-- The entry points ask nothing of their callers.
pub write-asks-nothing : (κs : Lfts 1) (a : _) → write.Pre κs a
write-asks-nothing κs a = tt

pub read-asks-nothing : (κs : Lfts 1) (a : _) → read.Pre κs a
read-asks-nothing κs a = tt
