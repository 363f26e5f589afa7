-- Document 01's refusal numbers, and 50 and 51 of request 2026-09, each under its words. Answer 0 is acceptance.
use Rattle.std.specs.Prelude.{ℕ}

abbrev pub accepted : ℕ
accepted = 0

-- group size is not 1 to 64
abbrev pub bad_size : ℕ
bad_size = 1

-- state not in order
abbrev pub not_in_order : ℕ
not_in_order = 2

-- kind not 1 to 6, or b not 0 where it must be
abbrev pub bad_kind : ℕ
bad_kind = 3

-- a rank number (a for kinds 1, 3, 4, 6; b for kind 4; the rank of a climb or mark) is not below n
abbrev pub bad_rank : ℕ
bad_rank = 4

-- no message at that place
abbrev pub bad_place : ℕ
bad_place = 5

-- kind 1, 3, 4 or 6 and rank a is dead; a climb from a marked rank
abbrev pub dead_rank : ℕ
dead_rank = 6

-- kind 1 or 6 and a is not outside
abbrev pub entered : ℕ
entered = 7

-- kind 4 and b is living
abbrev pub living_rank : ℕ
living_rank = 8

-- kind 3 and a is the only living rank
abbrev pub only_living : ℕ
only_living = 9

-- kind 5 and both ends live
abbrev pub living_ends : ℕ
living_ends = 10

-- over 128 messages would be in flight afterwards
abbrev pub too_many : ℕ
too_many = 11

-- allowance too short
abbrev pub too_short : ℕ
too_short = 12

-- box size not 1 to 64, for the flat form too
abbrev pub bad_box : ℕ
bad_box = 50

-- unknown form
abbrev pub bad_form : ℕ
bad_form = 51
