-- What a packet is known by, and when two are known by the same.
use Rattle.std.specs.Prelude.{Bool, true, false, ◌&&◌, ◌==◌, Option, Some, None}
use Rattle.std.specs.Str.{bytes_eq}
use Rattle.headers.specs.declared.key.Network.{Network}
use Rattle.headers.specs.declared.key.Network.TheVariants.{V4, V6}
use Rattle.headers.specs.declared.key.PacketKey.{PacketKey}
use Rattle.headers.specs.declared.key.Piece.{Piece}
use Rattle.headers.specs.declared.key.Ports.{Ports}
use Rattle.headers.specs.declared.key.Segment.{Segment}
use Rattle.headers.specs.declared.key.Transport.{Transport}
use Rattle.headers.specs.declared.key.Transport.TheVariants.{Fragment, Tcp, Udp}
use Rattle.headers.specs.declared.key.UserDatagram.{UserDatagram}
use Rattle.headers.specs.declared.key.Wanted.{Wanted}
use Rattle.headers.specs.Frame.{FramePart}
use Rattle.headers.specs.Packet.{parts_of, transport_part}

-- the key of the packet in a frame, with what is wanted of it
abbrev pub key_of : FramePart → Wanted → PacketKey
key_of part wanted = record { network = (parts_of part wanted).network; transport = transport_part (parts_of part wanted) wanted }

-- two headers of one version give the same
abbrev pub is_same_network : Network → Network → Bool
is_same_network (V4 source target id) (V4 source' target' id') = (source == source') && ((target == target') && (id == id'))
is_same_network (V4 source target id) (V6 source' target') = false
is_same_network (V6 source target) (V4 source' target' id') = false
is_same_network (V6 source target) (V6 source' target') = (source == source') && (target == target')

-- two segments of TCP do
abbrev pub is_same_segment : Segment → Segment → Bool
is_same_segment a b = (a.source_port == b.source_port) && ((a.target_port == b.target_port) && ((a.sequence == b.sequence)
    && ((a.acknowledged == b.acknowledged) && ((a.flags == b.flags) && ((a.length == b.length) && (bytes_eq a.payload.items b.payload.items && bytes_eq a.options.items b.options.items))))))

-- two datagrams of UDP do
abbrev pub is_same_datagram : UserDatagram → UserDatagram → Bool
is_same_datagram a b = (a.source_port == b.source_port) && ((a.target_port == b.target_port) && ((a.length == b.length) && bytes_eq a.payload.items b.payload.items))

-- two fragments have no ports, or the same
abbrev pub are_same_ports : Option Ports → Option Ports → Bool
are_same_ports None None = true
are_same_ports None (Some b) = false
are_same_ports (Some a) None = false
are_same_ports (Some a) (Some b) = (a.source == b.source) && (a.target == b.target)

-- two fragments do
abbrev pub is_same_piece : Piece → Piece → Bool
is_same_piece a b = (a.protocol == b.protocol) && ((a.id == b.id) && ((a.offset == b.offset) && ((a.length == b.length)
    && (are_same_ports a.ports b.ports && bytes_eq a.payload.items b.payload.items))))

-- two headers of one protocol do, or two fragments
abbrev pub is_same_transport : Transport → Transport → Bool
is_same_transport (Tcp a) (Tcp b) = is_same_segment a b
is_same_transport (Tcp a) (Udp b) = false
is_same_transport (Tcp a) (Fragment b) = false
is_same_transport (Udp a) (Tcp b) = false
is_same_transport (Udp a) (Udp b) = is_same_datagram a b
is_same_transport (Udp a) (Fragment b) = false
is_same_transport (Fragment a) (Tcp b) = false
is_same_transport (Fragment a) (Udp b) = false
is_same_transport (Fragment a) (Fragment b) = is_same_piece a b

-- two packets are known by the same
abbrev pub is_same_packet : PacketKey → PacketKey → Bool
is_same_packet a b = is_same_network a.network b.network && is_same_transport a.transport b.transport
