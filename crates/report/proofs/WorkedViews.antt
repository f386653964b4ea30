-- The texts of six keys, worked out.
use Rattle.std.proofs.Common.{◌≡◌, ℕ, List, [], ◌∷◌, Some, None, codes, refl}
use Rattle.headers.specs.declared.key.Network.TheVariants.{V4, V6}
use Rattle.headers.specs.declared.key.Piece.{Piece}
use Rattle.headers.specs.declared.key.Segment.{Segment}
use Rattle.headers.specs.declared.key.Transport.TheVariants.{Fragment, Tcp, Udp}
use Rattle.headers.specs.declared.key.UserDatagram.{UserDatagram}
use Rattle.traces.specs.Seen.{Content, Packet, Word}
use Rattle.report.specs.KeyTexts.{key_text}

-- the text of what stands in a message
abbrev text_of : Content → List ℕ
text_of content = key_text (record { segment = 0; content = content })

worked_log : text_of (Word (codes "m1")) ≡ codes "log m1"
worked_log = refl

-- a datagram of no payload
abbrev empty : UserDatagram
empty = record { source_port = 5000; target_port = 6000; length = 8; payload = record { items = [] } }

worked_udp : text_of (Packet (record { network = V4 167838211 3232236542 7; transport = Udp empty })) ≡ codes "udp 10.1.2.3:5000 192.168.3.254:6000 id 7 length 8 payload -"
worked_udp = refl

abbrev segment : Segment
segment = record {
  source_port = 5000;
  target_port = 443;
  sequence = 90;
  acknowledged = 1;
  flags = 24;
  length = 3;
  payload = record { items = 15 ∷ 160 ∷ 255 ∷ [] };
  options = record { items = [] };
}

worked_tcp : text_of (Packet (record { network = V4 167838211 3232236542 300; transport = Tcp segment })) ≡ codes "tcp 10.1.2.3:5000 192.168.3.254:443 id 300 seq 90 ack 1 flags 24 length 3 payload 0fa0ff"
worked_tcp = refl

worked_wide : text_of (Packet (record { network = V6 0xfd000000000000000000000000000001 0xfd000000000000000000000000000002; transport = Udp empty }))
    ≡ codes "udp [fd00:0000:0000:0000:0000:0000:0000:0001]:5000 [fd00:0000:0000:0000:0000:0000:0000:0002]:6000 length 8 payload -"
worked_wide = refl

-- the first and the last fragment of a datagram of 1,508 bytes
abbrev first_piece : Piece
first_piece = record {
  protocol = 17;
  id = 7;
  offset = 0;
  length = 1480;
  ports = Some (record { source = 5000; target = 6000 });
  payload = record { items = 15 ∷ 160 ∷ [] };
}

worked_first_piece : text_of (Packet (record { network = V4 167838211 3232236542 7; transport = Fragment first_piece }))
    ≡ codes "fragment 10.1.2.3 192.168.3.254 id 7 protocol 17 offset 0 length 1480 from 5000 to 6000 payload 0fa0"
worked_first_piece = refl

abbrev last_piece : Piece
last_piece = record { protocol = 17; id = 70000; offset = 185; length = 28; ports = None; payload = record { items = [] } }

worked_last_piece : text_of (Packet (record { network = V6 0xfd000000000000000000000000000001 0xfd000000000000000000000000000002; transport = Fragment last_piece }))
    ≡ codes "fragment fd00:0000:0000:0000:0000:0000:0000:0001 fd00:0000:0000:0000:0000:0000:0000:0002 id 70000 protocol 17 offset 185 length 28 payload -"
worked_last_piece = refl
