-- What a datagram carries: a TCP segment (RFC 9293) or a UDP datagram (RFC 768). The header below says how long it is;
-- the bytes are those that were captured.
use Rattle.std.specs.Prelude.{ℕ, true, ◌+◌, ◌*◌, ◌-◌, ◌/◌, ◌||◌, ◌==◌, if◌then◌else◌, nat_lt, min, List, [], ◌∷◌, length, take, drop}
use Rattle.headers.specs.declared.key.Reason.TheVariants.{Other, Short, Header, Length}
use Rattle.headers.specs.declared.key.Segment.{Segment}
use Rattle.headers.specs.declared.key.Transport.{Transport}
use Rattle.headers.specs.declared.key.Transport.TheVariants.{Tcp, Udp}
use Rattle.headers.specs.declared.key.UserDatagram.{UserDatagram}
use Rattle.headers.specs.declared.key.Wanted.{Wanted}
use Rattle.headers.specs.Bytes.{byte_at, half_at, word_at}
use Rattle.headers.specs.Checks.{Check, refuse}
use Rattle.headers.specs.Options.{chosen_options, option_checks}

-- ---- TCP
-- the bytes of the header, which counts them by four in the upper half of its thirteenth byte: the payload's place
abbrev pub data_offset : List ℕ → ℕ
data_offset segment = 4 * (byte_at 12 segment / 16)

-- the options, which fill the header behind its first 20 bytes
abbrev pub options_in : List ℕ → List ℕ
options_in segment = drop 20 (take (data_offset segment) segment)

-- how many bytes of its payload the key has
abbrev pub tcp_taken : ℕ → List ℕ → ℕ → ℕ
tcp_taken whole segment payload_bytes = min payload_bytes (whole - data_offset segment)

-- why a segment of this length has no key
abbrev pub tcp_checks : ℕ → List ℕ → Wanted → List Check
tcp_checks whole segment wanted =
    refuse (nat_lt whole 20) Length
    ∷ refuse (nat_lt (length segment) 20) Short
    ∷ refuse (nat_lt (data_offset segment) 20) Header
    ∷ refuse (nat_lt whole (data_offset segment)) Length
    ∷ refuse (nat_lt (length segment) (data_offset segment + tcp_taken whole segment wanted.payload_bytes)) Short
    ∷ option_checks wanted.tcp_options (options_in segment)

-- what the key has of a segment
abbrev pub tcp_part : ℕ → List ℕ → Wanted → Segment
tcp_part whole segment wanted = record {
  source_port = half_at 0 segment;
  target_port = half_at 2 segment;
  sequence = word_at 4 segment;
  acknowledged = word_at 8 segment;
  flags = byte_at 13 segment;
  length = whole - data_offset segment;
  payload = record { items = take (tcp_taken whole segment wanted.payload_bytes) (drop (data_offset segment) segment) };
  options = record { items = chosen_options wanted.tcp_options (options_in segment) };
}

-- ---- UDP
-- the bytes of the header and the payload, as the header says
abbrev pub udp_length : List ℕ → ℕ
udp_length datagram = half_at 4 datagram

-- how many bytes of its payload the key has
abbrev pub udp_taken : List ℕ → ℕ → ℕ
udp_taken datagram payload_bytes = min payload_bytes (udp_length datagram - 8)

-- why a UDP datagram has no key, for which there is so much room in the one that carries it
abbrev pub udp_checks : ℕ → List ℕ → ℕ → List Check
udp_checks whole datagram payload_bytes =
    refuse (nat_lt whole 8) Length
    ∷ refuse (nat_lt (length datagram) 8) Short
    ∷ refuse (nat_lt (udp_length datagram) 8 || nat_lt whole (udp_length datagram)) Length
    ∷ refuse (nat_lt (length datagram) (8 + udp_taken datagram payload_bytes)) Short
    ∷ []

-- what the key has of a UDP datagram
abbrev pub udp_part : List ℕ → ℕ → UserDatagram
udp_part datagram payload_bytes = record {
  source_port = half_at 0 datagram;
  target_port = half_at 2 datagram;
  length = udp_length datagram;
  payload = record { items = take (udp_taken datagram payload_bytes) (drop 8 datagram) };
}

-- ---- either
-- why what a datagram of this protocol carries has no key
abbrev pub carried_checks : ℕ → ℕ → List ℕ → Wanted → List Check
carried_checks protocol whole carried wanted =
    if protocol == 6 then tcp_checks whole carried wanted
    else if protocol == 17 then udp_checks whole carried wanted.payload_bytes
    else refuse true Other ∷ []

-- what the key has of it: it is TCP, or else UDP
abbrev pub carried_part : ℕ → ℕ → List ℕ → Wanted → Transport
carried_part protocol whole carried wanted =
    if protocol == 6 then Tcp (tcp_part whole carried wanted)
    else Udp (udp_part carried wanted.payload_bytes)
