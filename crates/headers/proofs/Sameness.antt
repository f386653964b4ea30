-- The test on keys says exactly whether two are one, and is the one that the code derives.
use Rattle.std.proofs.Common.{◌≡◌, ℕ, Bool, true, ◌==◌, ◌&&◌, Option, Some, None, bytes_eq, refl, ap, subst}
use Rattle.std.specs.Option.{option_eq}
use Rattle.std.specs.Prelude.{◌↔◌}
use Rattle.std.proofs.lemmas.Bool.{and_from, and_parts, eq-eqb, eqb-true, false≢true}
use Rattle.std.proofs.lemmas.Slice.Eq.{bytes_eq-Decides}
use Rattle.headers.specs.Keys.{are_same_ports, is_same_network, is_same_segment, is_same_datagram, is_same_piece, is_same_transport, is_same_packet}
use Rattle.headers.specs.contracts.key.NetworkPartialEq.TheImpl as network_eq
use Rattle.headers.specs.contracts.key.PacketKeyPartialEq.TheImpl as packet_eq
use Rattle.headers.specs.contracts.key.PiecePartialEq.TheImpl as piece_eq
use Rattle.headers.specs.contracts.key.PortsPartialEq.TheImpl as ports_eq
use Rattle.headers.specs.contracts.key.TransportPartialEq.TheImpl as transport_eq
use Rattle.headers.specs.declared.key.Network.{Network}
use Rattle.headers.specs.declared.key.Network.TheVariants.{V4, V6}
use Rattle.headers.specs.declared.key.PacketKey.{PacketKey}
use Rattle.headers.specs.declared.key.Piece.{Piece}
use Rattle.headers.specs.declared.key.Ports.{Ports}
use Rattle.headers.specs.declared.key.Segment.{Segment}
use Rattle.headers.specs.declared.key.Transport.{Transport}
use Rattle.headers.specs.declared.key.Transport.TheVariants.{Fragment, Tcp, Udp}
use Rattle.headers.specs.declared.key.UserDatagram.{UserDatagram}

-- a number that passes before other tests
number_of : (m n : ℕ) (more : Bool) → ((m == n) && more) ≡ true → (m ≡ n) × (more ≡ true)
number_of m n more is = let both = and_parts (m == n) more is in (eqb-true m n both.0, both.1)

number_to : (m : ℕ) (more : Bool) → more ≡ true → ((m == m) && more) ≡ true
number_to m more is = and_from (m == m) more (eq-eqb m m refl) is

same_network : (a b : Network) → is_same_network a b ≡ true → a ≡ b
same_network (V4 source target id) (V4 source' target' id') is =
    let from = number_of source source' _ is in
    let to = number_of target target' _ from.1 in
    let same : id ≡ id' = eqb-true id id' to.1 in
    rw (from.0, to.0, same) refl
same_network (V4 source target id) (V6 source' target') is = absurd (false≢true is)
same_network (V6 source target) (V4 source' target' id') is = absurd (false≢true is)
same_network (V6 source target) (V6 source' target') is =
    let from = number_of source source' _ is in
    let same : target ≡ target' = eqb-true target target' from.1 in
    rw (from.0, same) refl

own_network : (a : Network) → is_same_network a a ≡ true
own_network (V4 source target id) = number_to source _ (number_to target _ (eq-eqb id id refl))
own_network (V6 source target) = number_to source _ (eq-eqb target target refl)

same_segment : (a b : Segment) → is_same_segment a b ≡ true → a ≡ b
same_segment a b is =
    let source = number_of a.source_port b.source_port _ is in
    let target = number_of a.target_port b.target_port _ source.1 in
    let sequence = number_of a.sequence b.sequence _ target.1 in
    let acknowledged = number_of a.acknowledged b.acknowledged _ sequence.1 in
    let flags = number_of a.flags b.flags _ acknowledged.1 in
    let length = number_of a.length b.length _ flags.1 in
    let both = and_parts (bytes_eq a.payload.items b.payload.items) _ length.1 in
    let payload : a.payload.items ≡ b.payload.items = (bytes_eq-Decides a.payload.items b.payload.items).0 both.0 in
    let options : a.options.items ≡ b.options.items = (bytes_eq-Decides a.options.items b.options.items).0 both.1 in
    rw (source.0, target.0, sequence.0, acknowledged.0, flags.0, length.0, payload, options) refl

own_segment : (a : Segment) → is_same_segment a a ≡ true
own_segment a =
    number_to a.source_port _ (number_to a.target_port _ (number_to a.sequence _ (number_to a.acknowledged _ (number_to a.flags _ (number_to a.length _
    (and_from (bytes_eq a.payload.items a.payload.items) _ ((bytes_eq-Decides a.payload.items a.payload.items).1 refl) ((bytes_eq-Decides a.options.items a.options.items).1 refl)))))))

same_datagram : (a b : UserDatagram) → is_same_datagram a b ≡ true → a ≡ b
same_datagram a b is =
    let source = number_of a.source_port b.source_port _ is in
    let target = number_of a.target_port b.target_port _ source.1 in
    let length = number_of a.length b.length _ target.1 in
    let payload : a.payload.items ≡ b.payload.items = (bytes_eq-Decides a.payload.items b.payload.items).0 length.1 in
    rw (source.0, target.0, length.0, payload) refl

own_datagram : (a : UserDatagram) → is_same_datagram a a ≡ true
own_datagram a = number_to a.source_port _ (number_to a.target_port _ (number_to a.length _ ((bytes_eq-Decides a.payload.items a.payload.items).1 refl)))

same_ports : (a b : Option Ports) → are_same_ports a b ≡ true → a ≡ b
same_ports None None is = refl
same_ports None (Some b) is = absurd (false≢true is)
same_ports (Some a) None is = absurd (false≢true is)
same_ports (Some a) (Some b) is =
    let source = number_of a.source b.source _ is in
    let target : a.target ≡ b.target = eqb-true a.target b.target source.1 in
    rw (source.0, target) refl

own_ports : (a : Option Ports) → are_same_ports a a ≡ true
own_ports None = refl
own_ports (Some a) = number_to a.source _ (eq-eqb a.target a.target refl)

same_piece : (a b : Piece) → is_same_piece a b ≡ true → a ≡ b
same_piece a b is =
    let protocol = number_of a.protocol b.protocol _ is in
    let id = number_of a.id b.id _ protocol.1 in
    let offset = number_of a.offset b.offset _ id.1 in
    let length = number_of a.length b.length _ offset.1 in
    let both = and_parts (are_same_ports a.ports b.ports) _ length.1 in
    let ports : a.ports ≡ b.ports = same_ports a.ports b.ports both.0 in
    let payload : a.payload.items ≡ b.payload.items = (bytes_eq-Decides a.payload.items b.payload.items).0 both.1 in
    rw (protocol.0, id.0, offset.0, length.0, ports, payload) refl

own_piece : (a : Piece) → is_same_piece a a ≡ true
own_piece a =
    number_to a.protocol _ (number_to a.id _ (number_to a.offset _ (number_to a.length _
    (and_from (are_same_ports a.ports a.ports) _ (own_ports a.ports) ((bytes_eq-Decides a.payload.items a.payload.items).1 refl)))))

same_transport : (a b : Transport) → is_same_transport a b ≡ true → a ≡ b
same_transport (Tcp a) (Tcp b) is = ap (λ (s : Segment). Tcp s) (same_segment a b is)
same_transport (Tcp a) (Udp b) is = absurd (false≢true is)
same_transport (Tcp a) (Fragment b) is = absurd (false≢true is)
same_transport (Udp a) (Tcp b) is = absurd (false≢true is)
same_transport (Udp a) (Udp b) is = ap (λ (d : UserDatagram). Udp d) (same_datagram a b is)
same_transport (Udp a) (Fragment b) is = absurd (false≢true is)
same_transport (Fragment a) (Tcp b) is = absurd (false≢true is)
same_transport (Fragment a) (Udp b) is = absurd (false≢true is)
same_transport (Fragment a) (Fragment b) is = ap (λ (p : Piece). Fragment p) (same_piece a b is)

own_transport : (a : Transport) → is_same_transport a a ≡ true
own_transport (Tcp a) = own_segment a
own_transport (Udp a) = own_datagram a
own_transport (Fragment a) = own_piece a

same_packet : (a b : PacketKey) → is_same_packet a b ≡ true → a ≡ b
same_packet a b is =
    let both = and_parts (is_same_network a.network b.network) _ is in
    rw (same_network a.network b.network both.0, same_transport a.transport b.transport both.1) refl

own_packet : (a : PacketKey) → is_same_packet a a ≡ true
own_packet a = and_from (is_same_network a.network a.network) _ (own_network a.network) (own_transport a.transport)

-- two keys are one exactly where the test says so
pub packets_tell : (a b : PacketKey) → (is_same_packet a b ≡ true) ↔ (a ≡ b)
packets_tell a b = (same_packet a b, λ is. subst (λ (k : PacketKey). is_same_packet a k ≡ true) is (own_packet a))

-- ---- the derived test
network_is : (a b : Network) → network_eq.eq-value.it a b ≡ is_same_network a b
network_is (V4 source target id) (V4 source' target' id') = refl
network_is (V4 source target id) (V6 source' target') = refl
network_is (V6 source target) (V4 source' target' id') = refl
network_is (V6 source target) (V6 source' target') = refl

ports_is : (a b : Option Ports) → option_eq ports_eq.eq-value.it a b ≡ are_same_ports a b
ports_is None None = refl
ports_is None (Some b) = refl
ports_is (Some a) None = refl
ports_is (Some a) (Some b) = refl

piece_is : (a b : Piece) → piece_eq.eq-value.it a b ≡ is_same_piece a b
piece_is a b = rw (ports_is a.ports b.ports) refl

transport_is : (a b : Transport) → transport_eq.eq-value.it a b ≡ is_same_transport a b
transport_is (Tcp a) (Tcp b) = refl
transport_is (Tcp a) (Udp b) = refl
transport_is (Tcp a) (Fragment b) = refl
transport_is (Udp a) (Tcp b) = refl
transport_is (Udp a) (Udp b) = refl
transport_is (Udp a) (Fragment b) = refl
transport_is (Fragment a) (Tcp b) = refl
transport_is (Fragment a) (Udp b) = refl
transport_is (Fragment a) (Fragment b) = piece_is a b

pub packet_test : (a b : PacketKey) → packet_eq.eq-value.it a b ≡ is_same_packet a b
packet_test a b = rw (network_is a.network b.network, transport_is a.transport b.transport) refl
