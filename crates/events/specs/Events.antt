-- An event is three numbers: its kind, a and b. What the kinds are, and what a names.
use Rattle.std.specs.Prelude.{ℕ, Bool, ◌||◌, eqb}
use Rattle.events.specs.declared.Event.{Event}

-- Event kinds: 1 rank a enters with word b, 2 message at place a is delivered, 3 rank a crashes, 4 rank a is told that rank b is dead,
-- 5 message at place a is lost, 6 rank a acknowledges the deaths it has marked.
abbrev pub enters : ℕ
enters = 1

abbrev pub delivers : ℕ
delivers = 2

abbrev pub crashes : ℕ
crashes = 3

abbrev pub notices : ℕ
notices = 4

abbrev pub loses : ℕ
loses = 5

abbrev pub acknowledges : ℕ
acknowledges = 6

-- The event of three numbers.
abbrev pub event_of : ℕ → ℕ → ℕ → Event
event_of kind a b = record { kind = kind; a = a; b = b }

-- a names a rank, for kinds 1, 3, 4 and 6; it names a place, for kinds 2 and 5.
abbrev pub names_rank : ℕ → Bool
names_rank kind = eqb kind enters || eqb kind crashes || eqb kind notices || eqb kind acknowledges

abbrev pub names_place : ℕ → Bool
names_place kind = eqb kind delivers || eqb kind loses
