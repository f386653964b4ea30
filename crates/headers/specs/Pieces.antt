-- What a fragment carries: the first one begins with the header of TCP (RFC 9293) or UDP (RFC 768), where it is one of
-- these; any other, and one of another protocol, has bytes alone.
use Rattle.std.specs.Prelude.{ℕ, ◌+◌, ◌-◌, Bool, ◌&&◌, ◌||◌, ◌==◌, if◌then◌else◌, nat_lt, min, List, [], ◌∷◌, length, take, drop, Option, Some, None}
use Rattle.headers.specs.declared.key.Piece.{Piece}
use Rattle.headers.specs.declared.key.Ports.{Ports}
use Rattle.headers.specs.declared.key.Reason.TheVariants.{Short, Header, Length}
use Rattle.headers.specs.declared.key.Transport.{Transport}
use Rattle.headers.specs.declared.key.Transport.TheVariants.{Fragment}
use Rattle.headers.specs.declared.key.Wanted.{Wanted}
use Rattle.headers.specs.declared.packet.Place.{Place}
use Rattle.headers.specs.Bytes.{half_at}
use Rattle.headers.specs.Checks.{Check, refuse}
use Rattle.headers.specs.Layers.{InnerPart}
use Rattle.headers.specs.Transport.{carried_checks, carried_part, data_offset}

-- the fragment at this offset begins with the header of this protocol
abbrev pub begins : ℕ → ℕ → ℕ → Bool
begins number offset protocol = offset == 0 && protocol == number

-- the least bytes of the header that it begins with: 0 for none
abbrev pub least_front : ℕ → ℕ → ℕ
least_front offset protocol = if begins 6 offset protocol then 20 else if begins 17 offset protocol then 8 else 0

-- the bytes of that header
abbrev pub front_size : ℕ → ℕ → List ℕ → ℕ
front_size offset protocol carried = if begins 6 offset protocol then data_offset carried else least_front offset protocol

-- how many bytes of what is behind it the key has
abbrev pub piece_taken : ℕ → InnerPart → ℕ → ℕ
piece_taken offset inner payload_bytes = min payload_bytes (inner.length - front_size offset inner.protocol inner.carried)

-- the ports of that header
abbrev pub ports_in : ℕ → ℕ → List ℕ → Option Ports
ports_in offset protocol carried =
    if begins 6 offset protocol || begins 17 offset protocol then Some (record { source = half_at 0 carried; target = half_at 2 carried })
    else None

-- why a fragment has no key
abbrev pub piece_checks : Place → InnerPart → ℕ → List Check
piece_checks place inner payload_bytes =
    refuse (nat_lt inner.length (least_front place.offset inner.protocol)) Length
    ∷ refuse (nat_lt (length inner.carried) (least_front place.offset inner.protocol)) Short
    ∷ refuse (nat_lt (front_size place.offset inner.protocol inner.carried) (least_front place.offset inner.protocol)) Header
    ∷ refuse (nat_lt inner.length (front_size place.offset inner.protocol inner.carried)) Length
    ∷ refuse (nat_lt (length inner.carried) (front_size place.offset inner.protocol inner.carried + piece_taken place.offset inner payload_bytes)) Short
    ∷ []

-- what the key has of a fragment
abbrev pub piece_part : Place → InnerPart → ℕ → Piece
piece_part place inner payload_bytes = record {
  protocol = inner.protocol;
  id = place.id;
  offset = place.offset;
  length = inner.length;
  ports = ports_in place.offset inner.protocol inner.carried;
  payload = record { items = take (piece_taken place.offset inner payload_bytes) (drop (front_size place.offset inner.protocol inner.carried) inner.carried) };
}

-- ---- a fragment, or what a whole packet carries
-- why what has this place, or none, has no key
abbrev pub checks_by : Option Place → InnerPart → Wanted → List Check
checks_by None inner wanted = carried_checks inner.protocol inner.length inner.carried wanted
checks_by (Some place) inner wanted = piece_checks place inner wanted.payload_bytes

-- what the key has of it
abbrev pub part_by : Option Place → InnerPart → Wanted → Transport
part_by None inner wanted = carried_part inner.protocol inner.length inner.carried wanted
part_by (Some place) inner wanted = Fragment (piece_part place inner wanted.payload_bytes)

-- why what stands behind the headers has no key
abbrev pub inner_checks : InnerPart → Wanted → List Check
inner_checks inner wanted = checks_by inner.cut inner wanted

-- what the key has of what stands behind the headers
abbrev pub inner_part : InnerPart → Wanted → Transport
inner_part inner wanted = part_by inner.cut inner wanted
