-- What a frame is known by.
use Rattle.std.specs.Prelude.{ℕ, List, ◌++◌, Option, Some, None, Result, Ok, Err}
use Rattle.headers.specs.declared.key.PacketKey.{PacketKey}
use Rattle.headers.specs.declared.key.Reason.{Reason}
use Rattle.headers.specs.declared.key.Wanted.{Wanted}
use Rattle.headers.specs.Checks.{Check, first_reason}
use Rattle.headers.specs.Frame.{carried_in, link_checks}
use Rattle.headers.specs.Keys.{key_of}
use Rattle.headers.specs.Packet.{packet_checks, parts_of, transport_checks}

-- why a frame on this link has no key: first by the link, then by the packet, then by what that carries
abbrev pub checks : ℕ → List ℕ → Wanted → List Check
checks link frame wanted = link_checks link frame ++ packet_checks (carried_in link frame) wanted ++ transport_checks (parts_of (carried_in link frame) wanted) wanted

-- this key, where there is no reason against it
abbrev pub answer_by : Option Reason → PacketKey → Result PacketKey Reason
answer_by None key = Ok key
answer_by (Some reason) key = Err reason

-- what a frame on this link is known by, where this is wanted
unfoldable pub decoded : ℕ → List ℕ → Wanted → Result PacketKey Reason
decoded link frame wanted = answer_by (first_reason (checks link frame wanted)) (key_of (carried_in link frame) wanted)
