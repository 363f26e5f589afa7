-- A public contract leaves nothing open: two replies to the same call that meet it are the same. Assumes nothing.
use mathlib.Core.Path.{◌≡◌}
use Prim.Native.Nat.{ℕ}
use contract.Lifetimes.{Lfts}
use Rattle.sets.proofs.Laws.Alike.{alike}
use Rattle.rank.specs.declared.Triple.{Triple}
use Rattle.rank.specs.declared.Rank.{Rank}
use Rattle.rank.specs.declared.Send.{Send}
use Rattle.rank.specs.declared.Acted.{Acted}
use Rattle.rank.proofs.Triple.zero.Reads as zero
use Rattle.rank.proofs.Triple.code.Reads as code
use Rattle.rank.proofs.Send.silent.Reads as silent
use Rattle.rank.proofs.Send.down.Reads as send_down
use Rattle.rank.proofs.Send.ask.Reads as send_ask
use Rattle.rank.proofs.Rank.fresh.Reads as fresh
use Rattle.rank.proofs.Seat.settle.Reads as settle
use Rattle.rank.proofs.Seat.enter.Reads as enter
use Rattle.rank.proofs.Seat.up.Reads as up
use Rattle.rank.proofs.Seat.down.Reads as seat_down
use Rattle.rank.proofs.Seat.ask.Reads as seat_ask
use Rattle.rank.proofs.Seat.notice.Reads as notice
use Rattle.rank.proofs.Seat.acknowledge.Reads as acknowledge

pub zero_determined : (κs : Lfts 0) (a : _) (t u : Triple) (x y : _) → zero.Post κs a t x → zero.Post κs a u y → t ≡ u
zero_determined κs a t u x y e f = alike e f

pub code_determined : (κs : Lfts 0) (a : _) (t u : ℕ) (x y : _) → code.Post κs a t x → code.Post κs a u y → t ≡ u
code_determined κs a t u x y e f = alike e f

pub silent_determined : (κs : Lfts 0) (a : _) (t u : Send) (x y : _) → silent.Post κs a t x → silent.Post κs a u y → t ≡ u
silent_determined κs a t u x y e f = alike e f

pub send_down_determined : (κs : Lfts 0) (a : _) (t u : Send) (x y : _) → send_down.Post κs a t x → send_down.Post κs a u y → t ≡ u
send_down_determined κs a t u x y e f = alike e f

pub send_ask_determined : (κs : Lfts 0) (a : _) (t u : Send) (x y : _) → send_ask.Post κs a t x → send_ask.Post κs a u y → t ≡ u
send_ask_determined κs a t u x y e f = alike e f

pub fresh_determined : (κs : Lfts 0) (a : _) (t u : Rank) (x y : _) → fresh.Post κs a t x → fresh.Post κs a u y → t ≡ u
fresh_determined κs a t u x y e f = alike e f

pub settle_determined : (κs : Lfts 0) (a : _) (t u : Acted) (x y : _) → settle.Post κs a t x → settle.Post κs a u y → t ≡ u
settle_determined κs a t u x y e f = alike e f

pub enter_determined : (κs : Lfts 0) (a : _) (t u : Acted) (x y : _) → enter.Post κs a t x → enter.Post κs a u y → t ≡ u
enter_determined κs a t u x y e f = alike e f

pub up_determined : (κs : Lfts 0) (a : _) (t u : Acted) (x y : _) → up.Post κs a t x → up.Post κs a u y → t ≡ u
up_determined κs a t u x y e f = alike e f

pub seat_down_determined : (κs : Lfts 0) (a : _) (t u : Acted) (x y : _) → seat_down.Post κs a t x → seat_down.Post κs a u y → t ≡ u
seat_down_determined κs a t u x y e f = alike e f

pub seat_ask_determined : (κs : Lfts 0) (a : _) (t u : Acted) (x y : _) → seat_ask.Post κs a t x → seat_ask.Post κs a u y → t ≡ u
seat_ask_determined κs a t u x y e f = alike e f

pub notice_determined : (κs : Lfts 0) (a : _) (t u : Acted) (x y : _) → notice.Post κs a t x → notice.Post κs a u y → t ≡ u
notice_determined κs a t u x y e f = alike e f

pub acknowledge_determined : (κs : Lfts 0) (a : _) (t u : Acted) (x y : _) → acknowledge.Post κs a t x → acknowledge.Post κs a u y → t ≡ u
acknowledge_determined κs a t u x y e f = alike e f
