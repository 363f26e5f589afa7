-- The list of messages in flight. A record keeps it in 128 places: the messages in order, then zeros.
use Rattle.std.specs.Prelude.{ℕ, suc, ◌+◌, ◌-◌, ◌*◌, ◌/◌, ◌%◌, ◌^◌, ◌<◌, ◌≡◌, List, ◌++◌, length, get_or, take, drop, replicate}
use Rattle.tree.specs.Tree.{row}
use Rattle.rank.specs.declared.Message.{Message}
use Rattle.rank.specs.declared.Send.{Send}
use Rattle.rank.specs.Triples.{zero_triple}
use Rattle.rank.specs.Sends.{letters}

-- At most 128 messages are in flight.
abbrev pub in_flight : ℕ
in_flight = 128

abbrev pub zero_message : Message
zero_message = record { kind = 0; from = 0; to = 0; triple = zero_triple }

-- The messages in their places, and zeros after the last.
unfoldable pub padded : List Message → List Message
padded l = l ++ replicate (in_flight - length l) zero_message

-- A delivered or lost message leaves the list and later ones move up one place.
unfoldable pub without : ℕ → List Message → List Message
without place l = take place l ++ drop (suc place) l

-- The 128 places, and how many of them hold messages.
pub record Joined : Type 0 where
  pub net : List Message
  pub count : ℕ

-- A list in its 128 places, with its length; and with the messages of a send at its end.
abbrev pub placed : List Message → Joined
placed l = record { net = padded l; count = length l }

unfoldable pub joining : List Message → ℕ → Send → Joined
joining l me s = placed (l ++ letters me s)

-- While events are played a message is three numbers: its kind, sender and receiver in the lowest three bytes of the first, and its word above
-- them; its known dead; its acknowledged set.
unfoldable pub message_of : ℕ → ℕ → ℕ → Message
message_of x k a =
    record { kind = x % 256; from = x / 256 % 256; to = x / 65536 % 256; triple = record { word = x / 16777216 % 4294967296; known = k; acknowledged = a } }

-- What an array of 384 such numbers holds: the message of place i has its numbers at i, at 128 + i and at 256 + i.
unfoldable pub messages_of : List ℕ → List Message
messages_of l = row (λ i. message_of (get_or l i 0) (get_or l (in_flight + i) 0) (get_or l (2 * in_flight + i) 0)) in_flight

-- There are 384 of them, of eight bytes, and the first of a message has seven.
pub record Small (numbers : List ℕ) : Type 0 where
  pub long : length numbers ≡ 3 * in_flight
  pub first : (i : ℕ) → i < in_flight → get_or numbers i 0 < 2 ^ 56
  pub bound : (i : ℕ) → get_or numbers i 0 < 2 ^ 64
