-- A packet of either version, and what it carries.
use Rattle.std.specs.Prelude.{ℕ, Bool, List}
use Rattle.headers.specs.declared.key.Transport.{Transport}
use Rattle.headers.specs.declared.key.Wanted.{Wanted}
use Rattle.headers.specs.declared.link.Version.{Version}
use Rattle.headers.specs.declared.link.Version.TheVariants.{Four, Six}
use Rattle.headers.specs.Checks.{Check}
use Rattle.headers.specs.Frame.{FramePart}
use Rattle.headers.specs.Ipv4.{datagram_checks, datagram_of}
use Rattle.headers.specs.Ipv6.{ipv6_checks, ipv6_packet_of}
use Rattle.headers.specs.Layers.{PacketParts}
use Rattle.headers.specs.Pieces.{inner_checks, inner_part}

-- what its headers say
abbrev pub version_parts : Version → List ℕ → Bool → PacketParts
version_parts Four bytes fragments = datagram_of bytes
version_parts Six bytes fragments = ipv6_packet_of bytes fragments

-- why it has no key, whatever it carries
abbrev pub header_checks : Version → List ℕ → Bool → List Check
header_checks Four bytes fragments = datagram_checks bytes fragments
header_checks Six bytes fragments = ipv6_checks bytes fragments

-- what the headers of the packet in a frame say
abbrev pub parts_of : FramePart → Wanted → PacketParts
parts_of frame wanted = version_parts frame.version frame.bytes wanted.fragments

-- why the packet in a frame has no key, whatever it carries
abbrev pub packet_checks : FramePart → Wanted → List Check
packet_checks frame wanted = header_checks frame.version frame.bytes wanted.fragments

-- why what it carries has no key
abbrev pub transport_checks : PacketParts → Wanted → List Check
transport_checks packet wanted = inner_checks packet.inner wanted

-- what the key has of it
abbrev pub transport_part : PacketParts → Wanted → Transport
transport_part packet wanted = inner_part packet.inner wanted
