-- What the code says of interfaces and packets.
use Rattle.pcapng_blocks.specs.declared.said.InterfaceText.{InterfaceText}
use Rattle.pcapng_blocks.specs.declared.said.PacketText.{PacketText}
use Rattle.pcapng_blocks.specs.Bytes.{SaidInterface, SaidPacket}

-- an interface
abbrev pub said_interface : InterfaceText → SaidInterface
said_interface i = record { link = i.link; name = i.name.now; description = i.description.now }

-- a packet
abbrev pub said_packet : PacketText → SaidPacket
said_packet p = record { interface = p.interface; stamp = p.stamp; original = p.original; bytes = p.bytes.now; comment = p.comment.now }
