-- A file of two interfaces and two packets, worked out byte for byte.
use Rattle.std.proofs.Common.{◌≡◌, ◌∷◌, [], ◌++◌, ℕ, List, refl, length}
use Rattle.pcapng_blocks.specs.Bytes.{SaidInterface, SaidPacket, comment_options, filled, interface_bytes, packet_bytes, section_header}
use Rattle.pcapng_blocks.specs.File.{file_bytes}

-- an Ethernet interface "a" of which "x y" is said, and a packet of 3 of 60 bytes at 2^32 + 5 ns with the comment "ok"
abbrev interface : SaidInterface
interface = record { link = 1; name = 97 ∷ []; description = 120 ∷ 32 ∷ 121 ∷ [] }

abbrev packet : SaidPacket
packet = record { interface = 1; stamp = 4294967301; original = 60; bytes = 7 ∷ 8 ∷ 9 ∷ []; comment = 111 ∷ 107 ∷ [] }

abbrev plain : SaidPacket
plain = record { interface = 0; stamp = 9; original = 0; bytes = []; comment = [] }

abbrev header : List ℕ
header = 10 ∷ 13 ∷ 13 ∷ 10 ∷ 28 ∷ 0 ∷ 0 ∷ 0 ∷ 77 ∷ 60 ∷ 43 ∷ 26 ∷ 1 ∷ 0 ∷ 0 ∷ 0 ∷ 255 ∷ 255 ∷ 255 ∷ 255 ∷ 255 ∷ 255 ∷ 255 ∷ 255 ∷ 28 ∷ 0 ∷ 0 ∷ 0 ∷ []

abbrev described : List ℕ
described = 1 ∷ 0 ∷ 0 ∷ 0 ∷ 48 ∷ 0 ∷ 0 ∷ 0 ∷ 1 ∷ 0 ∷ 0 ∷ 0 ∷ 0 ∷ 0 ∷ 0 ∷ 0 ∷ 2 ∷ 0 ∷ 1 ∷ 0 ∷ 97 ∷ 0 ∷ 0 ∷ 0 ∷ 3 ∷ 0 ∷ 3 ∷ 0 ∷ 120 ∷ 32 ∷ 121 ∷ 0
    ∷ 9 ∷ 0 ∷ 1 ∷ 0 ∷ 9 ∷ 0 ∷ 0 ∷ 0 ∷ 0 ∷ 0 ∷ 0 ∷ 0 ∷ 48 ∷ 0 ∷ 0 ∷ 0 ∷ []

abbrev captured : List ℕ
captured = 6 ∷ 0 ∷ 0 ∷ 0 ∷ 48 ∷ 0 ∷ 0 ∷ 0 ∷ 1 ∷ 0 ∷ 0 ∷ 0 ∷ 1 ∷ 0 ∷ 0 ∷ 0 ∷ 5 ∷ 0 ∷ 0 ∷ 0 ∷ 3 ∷ 0 ∷ 0 ∷ 0 ∷ 60 ∷ 0 ∷ 0 ∷ 0 ∷ 7 ∷ 8 ∷ 9 ∷ 0
    ∷ 1 ∷ 0 ∷ 2 ∷ 0 ∷ 111 ∷ 107 ∷ 0 ∷ 0 ∷ 0 ∷ 0 ∷ 0 ∷ 0 ∷ 48 ∷ 0 ∷ 0 ∷ 0 ∷ []

abbrev empty : List ℕ
empty = 6 ∷ 0 ∷ 0 ∷ 0 ∷ 32 ∷ 0 ∷ 0 ∷ 0 ∷ 0 ∷ 0 ∷ 0 ∷ 0 ∷ 0 ∷ 0 ∷ 0 ∷ 0 ∷ 9 ∷ 0 ∷ 0 ∷ 0 ∷ 0 ∷ 0 ∷ 0 ∷ 0 ∷ 0 ∷ 0 ∷ 0 ∷ 0 ∷ 32 ∷ 0 ∷ 0 ∷ 0 ∷ []

worked-header : section_header [] ≡ header
worked-header = refl

worked-interface : interface_bytes interface ≡ described
worked-interface = refl

worked-packet : packet_bytes packet ≡ captured
worked-packet = refl

worked-file : file_bytes (record { comment = []; interfaces = interface ∷ interface ∷ []; packets = plain ∷ packet ∷ [] }) ≡ header ++ (described ++ described) ++ (empty ++ captured)
worked-file = refl

-- four bytes are filled already
worked-filled : filled (1 ∷ 2 ∷ 3 ∷ 4 ∷ []) ≡ 1 ∷ 2 ∷ 3 ∷ 4 ∷ []
worked-filled = refl

worked-comment : length (comment_options (111 ∷ 107 ∷ [])) ≡ 12
worked-comment = refl
