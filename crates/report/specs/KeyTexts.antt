-- The text of a key.
use Rattle.std.specs.Prelude.{ℕ, ◌+◌, ◌^◌, ◌/◌, ◌%◌, List, [], ◌∷◌, ◌++◌, Option, Some, None, nat_lt, if◌then◌else◌, codes}
use Rattle.std.specs.List.{flat_map}
use Rattle.atto.specs.Decimal.{decimal_of}
use Rattle.line_format.specs.Words.{words}
use Rattle.headers.specs.declared.key.Network.{Network}
use Rattle.headers.specs.declared.key.Network.TheVariants.{V4, V6}
use Rattle.headers.specs.declared.key.Piece.{Piece}
use Rattle.headers.specs.declared.key.Ports.{Ports}
use Rattle.headers.specs.declared.key.Segment.{Segment}
use Rattle.headers.specs.declared.key.Transport.{Transport}
use Rattle.headers.specs.declared.key.Transport.TheVariants.{Fragment, Tcp, Udp}
use Rattle.headers.specs.declared.key.UserDatagram.{UserDatagram}
use Rattle.traces.specs.Seen.{Content, MessageKey, Packet, Word}

-- an IPv4 address of 32 bits: its four bytes as decimals, with dots between
abbrev pub dotted : ℕ → List ℕ
dotted a = decimal_of (a / 2 ^ 24) ++ 46 ∷ decimal_of (a / 2 ^ 16 % 256) ++ 46 ∷ decimal_of (a / 2 ^ 8 % 256) ++ 46 ∷ decimal_of (a % 256)

-- an address, a colon and a port
abbrev pub endpoint : ℕ → ℕ → List ℕ
endpoint address port = dotted address ++ 58 ∷ decimal_of port

-- a digit of the hexadecimal number system, in lower case
abbrev pub hex_digit : ℕ → ℕ
hex_digit n = if nat_lt n 10 then 48 + n else 87 + n

-- the four digits of a number's lowest 16 bits
abbrev pub quad : ℕ → List ℕ
quad n = hex_digit (n / 2 ^ 12 % 16) ∷ hex_digit (n / 2 ^ 8 % 16) ∷ hex_digit (n / 2 ^ 4 % 16) ∷ hex_digit (n % 16) ∷ []

-- four groups of a number's lowest 64 bits, with colons between
abbrev pub four_groups : ℕ → List ℕ
four_groups n = quad (n / 2 ^ 48) ++ 58 ∷ quad (n / 2 ^ 32) ++ 58 ∷ quad (n / 2 ^ 16) ++ 58 ∷ quad n

-- an IPv6 address of 128 bits: eight groups of four digits, with colons between
abbrev pub groups : ℕ → List ℕ
groups a = four_groups (a / 2 ^ 64) ++ 58 ∷ four_groups a

-- such an address in brackets, a colon and a port
abbrev pub wide_endpoint : ℕ → ℕ → List ℕ
wide_endpoint address port = 91 ∷ groups address ++ 93 ∷ 58 ∷ decimal_of port

-- two digits for each byte
abbrev pub hex : List ℕ → List ℕ
hex bytes = flat_map (λ (b : ℕ). hex_digit (b / 16) ∷ hex_digit (b % 16) ∷ []) bytes

-- bytes in hexadecimal digits, or a dash for none
abbrev pub payload_word : List ℕ → List ℕ
payload_word [] = codes "-"
payload_word (b ∷ more) = hex (b ∷ more)

-- the words of both addresses with these ports, and of IPv4 of the identification
abbrev pub network_words : Network → ℕ → ℕ → List (List ℕ)
network_words (V4 source target id) from to = endpoint source from ∷ endpoint target to ∷ codes "id" ∷ decimal_of id ∷ []
network_words (V6 source target) from to = wide_endpoint source from ∷ wide_endpoint target to ∷ []

-- the words of the options of a segment that are in its key, if any are
abbrev pub option_words : List ℕ → List (List ℕ)
option_words [] = []
option_words (b ∷ more) = codes "options" ∷ payload_word (b ∷ more) ∷ []

-- the words of a segment of TCP behind its ports
abbrev pub segment_words : Segment → List (List ℕ)
segment_words s = codes "seq" ∷ decimal_of s.sequence ∷ codes "ack" ∷ decimal_of s.acknowledged ∷ codes "flags" ∷ decimal_of s.flags
    ∷ codes "length" ∷ decimal_of s.length ∷ codes "payload" ∷ payload_word s.payload.items ∷ option_words s.options.items

-- the words of a datagram of UDP behind its ports
abbrev pub datagram_words : UserDatagram → List (List ℕ)
datagram_words d = codes "length" ∷ decimal_of d.length ∷ codes "payload" ∷ payload_word d.payload.items ∷ []

-- the words of both addresses
abbrev pub address_words : Network → List (List ℕ)
address_words (V4 source target id) = dotted source ∷ dotted target ∷ []
address_words (V6 source target) = groups source ∷ groups target ∷ []

-- the words of the ports of a first fragment
abbrev pub port_words : Option Ports → List (List ℕ)
port_words None = []
port_words (Some p) = codes "from" ∷ decimal_of p.source ∷ codes "to" ∷ decimal_of p.target ∷ []

-- the words of a fragment behind its addresses
abbrev pub piece_words : Piece → List (List ℕ)
piece_words p = codes "id" ∷ decimal_of p.id ∷ codes "protocol" ∷ decimal_of p.protocol ∷ codes "offset" ∷ decimal_of p.offset
    ∷ codes "length" ∷ decimal_of p.length ∷ port_words p.ports ++ codes "payload" ∷ payload_word p.payload.items ∷ []

-- the words of a packet
abbrev pub packet_words : Network → Transport → List (List ℕ)
packet_words network (Tcp s) = codes "tcp" ∷ network_words network s.source_port s.target_port ++ segment_words s
packet_words network (Udp d) = codes "udp" ∷ network_words network d.source_port d.target_port ++ datagram_words d
packet_words network (Fragment p) = codes "fragment" ∷ address_words network ++ piece_words p

-- the words of what stands in a message
abbrev pub key_words : Content → List (List ℕ)
key_words (Word w) = codes "log" ∷ w ∷ []
key_words (Packet k) = packet_words k.network k.transport

-- the text of what a message is known by, whatever segment it was seen on
abbrev pub key_text : MessageKey → List ℕ
key_text key = words (key_words key.content)
