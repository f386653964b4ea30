-- Packets of IPv6 with extension headers, from the first of these on, and fragments.
use Rattle.std.proofs.Common.{◌≡◌, ℕ, List, [], ◌∷◌, ◌++◌, Some, None, refl}
use Rattle.std.specs.Prelude.{Ok, Err}
use Rattle.headers.specs.declared.key.Reason.TheVariants.{Length, Other, Short}
use Rattle.headers.specs.Checks.{first_reason}
use Rattle.headers.specs.Extensions.{walked}
use Rattle.headers.specs.Ipv4.{place_of}
use Rattle.headers.specs.Layers.{InnerPart}
use Rattle.headers.specs.Pieces.{piece_checks, piece_part}

-- an extension header of eight bytes, and then another header
abbrev options : ℕ → List ℕ
options next = next ∷ 0 ∷ 1 ∷ 4 ∷ 0 ∷ 0 ∷ 0 ∷ 0 ∷ []

-- a datagram of UDP without a payload
abbrev datagram : List ℕ
datagram = 19 ∷ 136 ∷ 23 ∷ 112 ∷ 0 ∷ 8 ∷ 0 ∷ 0 ∷ []

abbrev inner : ℕ → ℕ → List ℕ → InnerPart
inner protocol length carried = record { protocol = protocol; length = length; carried = carried; cut = None }

hop_by_hop : walked 8 (inner 0 16 (options 17 ++ datagram)) ≡ Ok (inner 17 8 datagram)
unfolding walked
hop_by_hop = refl

no_header : walked 8 (inner 17 8 datagram) ≡ Ok (inner 17 8 datagram)
unfolding walked
no_header = refl

-- of packet 70000, which goes on: the fragment at byte 1480
piece : walked 8 (inner 44 12 (17 ∷ 0 ∷ 5 ∷ 201 ∷ 0 ∷ 1 ∷ 17 ∷ 112 ∷ 65 ∷ 66 ∷ 67 ∷ 68 ∷ [])) ≡ Ok (record { protocol = 17; length = 4; carried = 65 ∷ 66 ∷ 67 ∷ 68 ∷ []; cut = Some (record { id = 70000; offset = 185 }) })
unfolding walked
piece = refl

-- what begins at 0 and does not go on is whole
atomic : walked 8 (inner 44 16 ((17 ∷ 0 ∷ 0 ∷ 0 ∷ 0 ∷ 1 ∷ 17 ∷ 112 ∷ []) ++ datagram)) ≡ Ok (inner 17 8 datagram)
unfolding walked
atomic = refl

-- behind the header of a fragment no other header is looked for
fragmented_options : walked 8 (inner 44 16 ((60 ∷ 0 ∷ 0 ∷ 1 ∷ 0 ∷ 0 ∷ 0 ∷ 7 ∷ []) ++ options 17)) ≡ Ok (record { protocol = 60; length = 8; carried = options 17; cut = Some (record { id = 7; offset = 0 }) })
unfolding walked
fragmented_options = refl

abbrev seven : List ℕ
seven = options 60 ++ options 60 ++ options 60 ++ options 60 ++ options 60 ++ options 60 ++ options 60

eight : walked 8 (inner 0 72 (seven ++ options 17 ++ datagram)) ≡ Ok (inner 17 8 datagram)
unfolding walked
eight = refl

nine : walked 8 (inner 0 80 (seven ++ options 60 ++ options 17 ++ datagram)) ≡ Err Other
unfolding walked
nine = refl

-- a header that was captured in part, one that the payload length leaves no room for, one that goes past its end
short : walked 8 (inner 0 16 (17 ∷ 0 ∷ 1 ∷ 4 ∷ [])) ≡ Err Short
unfolding walked
short = refl

no_room : walked 8 (inner 0 16 (options 60)) ≡ Err Short
unfolding walked
no_room = refl

past_end : walked 8 (inner 0 12 (options 60 ++ (17 ∷ 0 ∷ 1 ∷ 4 ∷ []))) ≡ Err Length
unfolding walked
past_end = refl

long : walked 8 (inner 0 16 (17 ∷ 2 ∷ 1 ∷ 4 ∷ 0 ∷ 0 ∷ 0 ∷ 0 ∷ datagram)) ≡ Err Length
unfolding walked
long = refl

-- ---- IPv4
-- the front of a datagram's header, with this field of flags and place
abbrev front : ℕ → ℕ → List ℕ
front high low = 69 ∷ 0 ∷ 0 ∷ 44 ∷ 1 ∷ 44 ∷ high ∷ low ∷ []

first_place : place_of (front 32 0) ≡ Some (record { id = 300; offset = 0 })
first_place = refl

last_place : place_of (front 0 185) ≡ Some (record { id = 300; offset = 185 })
last_place = refl

-- one that is not to be cut
whole_place : place_of (front 64 0) ≡ None
whole_place = refl

-- ---- what a fragment gives to a key
first_piece : piece_part (record { id = 7; offset = 0 }) (inner 17 12 (datagram ++ (65 ∷ 66 ∷ 67 ∷ 68 ∷ []))) 2
    ≡ record { protocol = 17; id = 7; offset = 0; length = 12; ports = Some (record { source = 5000; target = 6000 }); payload = record { items = 65 ∷ 66 ∷ [] } }
first_piece = refl

later_piece : piece_part (record { id = 7; offset = 185 }) (inner 17 4 (65 ∷ 66 ∷ 67 ∷ 68 ∷ [])) 2 ≡ record { protocol = 17; id = 7; offset = 185; length = 4; ports = None; payload = record { items = 65 ∷ 66 ∷ [] } }
later_piece = refl

-- a header of UDP that is cut by the end of the first fragment, or of what was captured of it
cut_by_fragment : first_reason (piece_checks (record { id = 7; offset = 0 }) (inner 17 4 (19 ∷ 136 ∷ 23 ∷ 112 ∷ [])) 2) ≡ Some Length
cut_by_fragment = refl

cut_by_capture : first_reason (piece_checks (record { id = 7; offset = 0 }) (inner 17 16 (19 ∷ 136 ∷ 23 ∷ 112 ∷ [])) 2) ≡ Some Short
cut_by_capture = refl
