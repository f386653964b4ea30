-- What the parts of the code answer each other.
use Rattle.std.specs.Prelude.{◌≡◌}
use Rattle.headers.specs.declared.packet.Inner.{Inner}
use Rattle.headers.specs.declared.packet.Packet.{Packet}
use Rattle.headers.specs.Layers.{InnerPart, PacketParts}

-- what was found to follow a header
abbrev pub follows : Inner → InnerPart
follows i = record { protocol = i.protocol; length = i.length; carried = i.carried.now; cut = i.cut }

-- what was read of a packet is what it says
pub record IsRead (parts : PacketParts) (p : Packet) : Type 0 where
  pub network : p.network ≡ parts.network
  pub inner : follows p.inner ≡ parts.inner
