-- The extension headers of IPv6 (RFC 8200), which stand between the header of a packet and what it carries.
use Rattle.std.specs.Prelude.{ℕ, zero, suc, ◌+◌, ◌*◌, ◌-◌, ◌/◌, ◌%◌, Bool, not, ◌&&◌, ◌||◌, ◌==◌, if◌then◌else◌, nat_lt, is_none, List, [], ◌∷◌, length, drop, Option, Some, None, Result, Ok, Err}
use Rattle.headers.specs.declared.key.Reason.{Reason}
use Rattle.headers.specs.declared.key.Reason.TheVariants.{Other, Short, Length}
use Rattle.headers.specs.declared.packet.Place.{Place}
use Rattle.headers.specs.Bytes.{byte_at, half_at, word_at}
use Rattle.headers.specs.Checks.{Check, first_reason, refuse}
use Rattle.headers.specs.Layers.{InnerPart}

-- ---- one header
-- the number is one of hop-by-hop options, routing, a fragment or destination options
abbrev pub is_extension : ℕ → Bool
is_extension number = number == 0 || number == 43 || number == 44 || number == 60

-- the bytes of the header that comes first: of a fragment eight, any other says how many eights follow its first
abbrev pub extension_size : InnerPart → ℕ
extension_size inner = if inner.protocol == 44 then 8 else 8 * (byte_at 1 inner.carried + 1)

-- why nothing behind it has a key
abbrev pub extension_checks : InnerPart → List Check
extension_checks inner =
    refuse (nat_lt inner.length 8) Length
    ∷ refuse (nat_lt (length inner.carried) 8) Short
    ∷ refuse (nat_lt inner.length (extension_size inner)) Length
    ∷ refuse (nat_lt (length inner.carried) (extension_size inner)) Short
    ∷ []

-- the place that the header of a fragment tells, by eight bytes: the upper 13 bits of its third and fourth byte
abbrev pub piece_offset : List ℕ → ℕ
piece_offset header = half_at 2 header / 8

-- it says that other fragments follow: the lowest of these bits
abbrev pub has_more_pieces : List ℕ → Bool
has_more_pieces header = not (half_at 2 header % 2 == 0)

-- where a fragment stands, by its header: one that is first and last has all of the packet (RFC 6946), and is no fragment
abbrev pub piece_place : List ℕ → Option Place
piece_place header = if has_more_pieces header || not (piece_offset header == 0) then Some (record { id = word_at 4 header; offset = piece_offset header }) else None

-- what follows the header that comes first
abbrev pub behind_extension : InnerPart → InnerPart
behind_extension inner = record {
  protocol = byte_at 0 inner.carried;
  length = inner.length - extension_size inner;
  carried = drop (extension_size inner) inner.carried;
  cut = if inner.protocol == 44 then piece_place inner.carried else None;
}

-- ---- all headers
-- an extension header comes; what a fragment carries begins right behind its header
abbrev pub goes_on : InnerPart → Bool
goes_on inner = is_none inner.cut && is_extension inner.protocol

-- what follows a header, where nothing speaks against it
abbrev pub past : Option Reason → Result InnerPart Reason → Result InnerPart Reason
past None more = more
past (Some reason) more = Err reason

-- what stands behind at most so many headers, or why that has no key
unfoldable pub walked : ℕ → InnerPart → Result InnerPart Reason
walked zero inner = if goes_on inner then Err Other else Ok inner
walked (suc n) inner = if goes_on inner then past (first_reason (extension_checks inner)) (walked n (behind_extension inner)) else Ok inner
