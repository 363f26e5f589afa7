-- A public contract leaves nothing open: two replies to the same call that meet it are the same, and so is the page at exit.
-- Assumes nothing.
use mathlib.Core.Path.{◌≡◌, refl}
use contract.Lifetimes.{Lfts}
use Rattle.text.proofs.Laws.Writing.{puts_alike}
use Rattle.lines.proofs.put_first.Reads as put_first
use Rattle.lines.proofs.put_event.Reads as put_event
use Rattle.lines.proofs.put_rank.Reads as put_rank
use Rattle.lines.proofs.put_last.Reads as put_last
use Rattle.lines.proofs.put_refused.Reads as put_refused

pub put_first_determined : (κs : Lfts 2) (a : _) (t u : _) (x y : _) → put_first.Post κs a t x → put_first.Post κs a u y → (t ≡ u) × (x.0.now ≡ y.0.now)
put_first_determined κs a t u x y e f = (refl, puts_alike e f)

pub put_event_determined : (κs : Lfts 3) (a : _) (t u : _) (x y : _) → put_event.Post κs a t x → put_event.Post κs a u y → (t ≡ u) × (x.0.now ≡ y.0.now)
put_event_determined κs a t u x y e f = (refl, puts_alike e f)

pub put_rank_determined : (κs : Lfts 2) (a : _) (t u : _) (x y : _) → put_rank.Post κs a t x → put_rank.Post κs a u y → (t ≡ u) × (x.0.now ≡ y.0.now)
put_rank_determined κs a t u x y e f = (refl, puts_alike e f)

pub put_last_determined : (κs : Lfts 2) (a : _) (t u : _) (x y : _) → put_last.Post κs a t x → put_last.Post κs a u y → (t ≡ u) × (x.0.now ≡ y.0.now)
put_last_determined κs a t u x y e f = (refl, puts_alike e f)

pub put_refused_determined : (κs : Lfts 2) (a : _) (t u : _) (x y : _) → put_refused.Post κs a t x → put_refused.Post κs a u y → (t ≡ u) × (x.0.now ≡ y.0.now)
put_refused_determined κs a t u x y e f = (refl, puts_alike e f)
