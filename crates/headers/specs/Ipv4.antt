-- An IPv4 datagram (RFC 791), of which the end may not have been captured.
use Rattle.std.specs.Prelude.{ℕ, ◌*◌, ◌-◌, ◌/◌, ◌%◌, Bool, not, ◌&&◌, ◌||◌, ◌==◌, if◌then◌else◌, nat_lt, List, [], ◌∷◌, length, take, drop, Option, Some, None}
use Rattle.headers.specs.declared.key.Network.TheVariants.{V4}
use Rattle.headers.specs.declared.key.Reason.TheVariants.{Short, Header, Fragment, Length}
use Rattle.headers.specs.declared.packet.Place.{Place}
use Rattle.headers.specs.Bytes.{byte_at, half_at, version, word_at}
use Rattle.headers.specs.Checks.{Check, refuse}
use Rattle.headers.specs.Layers.{PacketParts}

-- the bytes of the header, which counts them by four in the lower half of the first byte
abbrev pub header_length : List ℕ → ℕ
header_length datagram = 4 * (byte_at 0 datagram % 16)

-- the bytes of the header and of what the datagram carries, as the header says
abbrev pub total_length : List ℕ → ℕ
total_length datagram = half_at 2 datagram

-- other fragments follow: the third bit of the field with the flags
abbrev pub has_more_fragments : List ℕ → Bool
has_more_fragments datagram = not (half_at 6 datagram / 0x2000 % 2 == 0)

-- the place in the whole that it is a fragment of, by eight bytes: the low 13 bits of the same field
abbrev pub fragment_offset : List ℕ → ℕ
fragment_offset datagram = half_at 6 datagram % 0x2000

-- the datagram is a fragment
abbrev pub is_fragment : List ℕ → Bool
is_fragment datagram = has_more_fragments datagram || not (fragment_offset datagram == 0)

-- the number of the protocol above
abbrev pub protocol : List ℕ → ℕ
protocol datagram = byte_at 9 datagram

-- how many bytes the datagram carries, as its header says
abbrev pub carried_length : List ℕ → ℕ
carried_length datagram = total_length datagram - header_length datagram

-- where it stands in what it is a fragment of, if it is one
abbrev pub place_of : List ℕ → Option Place
place_of datagram = if is_fragment datagram then Some (record { id = half_at 4 datagram; offset = fragment_offset datagram }) else None

-- what the header says: addresses, identification, protocol
abbrev pub datagram_of : List ℕ → PacketParts
datagram_of datagram = record {
  network = V4 (word_at 12 datagram) (word_at 16 datagram) (half_at 4 datagram);
  inner = record {
    protocol = protocol datagram;
    length = carried_length datagram;
    carried = take (carried_length datagram) (drop (header_length datagram) datagram);
    cut = place_of datagram;
  };
}

-- why a datagram has no key, whatever it carries; a fragment has one where fragments are wanted
abbrev pub datagram_checks : List ℕ → Bool → List Check
datagram_checks datagram fragments =
    refuse (nat_lt (length datagram) 20) Short
    ∷ refuse (not (version datagram == 4) || nat_lt (header_length datagram) 20) Header
    ∷ refuse (nat_lt (total_length datagram) (header_length datagram)) Length
    ∷ refuse (nat_lt (length datagram) (header_length datagram)) Short
    ∷ refuse (is_fragment datagram && not fragments) Fragment
    ∷ []
