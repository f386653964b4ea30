-- An IPv6 packet (RFC 8200), of which the end may not have been captured.
use Rattle.std.specs.Prelude.{ℕ, Bool, true, not, ◌==◌, if◌then◌else◌, nat_lt, List, [], ◌∷◌, length, take, drop, None, Result, Ok, Err}
use Rattle.headers.specs.declared.key.Network.TheVariants.{V6}
use Rattle.headers.specs.declared.key.Reason.{Reason}
use Rattle.headers.specs.declared.key.Reason.TheVariants.{Short, Header}
use Rattle.headers.specs.Bytes.{address_at, byte_at, half_at, version}
use Rattle.headers.specs.Checks.{Check, refuse}
use Rattle.headers.specs.Extensions.{walked}
use Rattle.headers.specs.Layers.{InnerPart, PacketParts}

-- how many bytes follow the header, as it says
abbrev pub payload_length : List ℕ → ℕ
payload_length packet = half_at 4 packet

-- the number of what follows the header
abbrev pub next_header : List ℕ → ℕ
next_header packet = byte_at 6 packet

-- what follows the header
abbrev pub behind_header : List ℕ → InnerPart
behind_header packet = record {
  protocol = next_header packet;
  length = payload_length packet;
  carried = take (payload_length packet) (drop 40 packet);
  cut = None;
}

-- what stands behind all headers, at most eight extension headers among them where fragments are wanted
abbrev pub behind_headers : List ℕ → Bool → Result InnerPart Reason
behind_headers packet fragments = if fragments then walked 8 (behind_header packet) else Ok (behind_header packet)

-- what was found, or else this
abbrev pub found_or : InnerPart → Result InnerPart Reason → InnerPart
found_or other (Ok inner) = inner
found_or other (Err reason) = other

-- why nothing was found
abbrev pub walk_checks : Result InnerPart Reason → List Check
walk_checks (Ok inner) = []
walk_checks (Err reason) = refuse true reason ∷ []

-- what the headers say: addresses, and what is behind
abbrev pub ipv6_packet_of : List ℕ → Bool → PacketParts
ipv6_packet_of packet fragments = record {
  network = V6 (address_at 8 packet) (address_at 24 packet);
  inner = found_or (behind_header packet) (behind_headers packet fragments);
}

-- why a packet has no key, whatever it carries
abbrev pub ipv6_checks : List ℕ → Bool → List Check
ipv6_checks packet fragments =
    refuse (nat_lt (length packet) 40) Short
    ∷ refuse (not (version packet == 6)) Header
    ∷ walk_checks (behind_headers packet fragments)
