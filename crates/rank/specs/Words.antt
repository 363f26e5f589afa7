-- Document 01's numbers for phases and messages.
use Rattle.std.specs.Prelude.{ℕ}

-- Phase: 0 outside, 1 gathering, 2 waiting, 3 decided.
abbrev pub outside : ℕ
outside = 0

abbrev pub gathering : ℕ
gathering = 1

abbrev pub waiting : ℕ
waiting = 2

abbrev pub decided : ℕ
decided = 3

-- Messages: UP (1) with a triple, DOWN (2) with a triple, ASK (3).
abbrev pub up : ℕ
up = 1

abbrev pub down : ℕ
down = 2

abbrev pub ask : ℕ
ask = 3
