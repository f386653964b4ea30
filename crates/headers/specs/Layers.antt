-- What the headers of the internet protocol say.
use Rattle.std.specs.Prelude.{ℕ, List, Option}
use Rattle.headers.specs.declared.key.Network.{Network}
use Rattle.headers.specs.declared.packet.Place.{Place}

-- what follows a header: the number of its protocol, how many bytes it has, those of them that were captured, and where
-- it stands in what it is a fragment of, if it is one; what was captured behind its end is none of it
pub record InnerPart : Type 0 where
  pub protocol : ℕ
  pub length : ℕ
  pub carried : List ℕ
  pub cut : Option Place

-- what a packet gives to a key by its header, and what stands behind its headers
pub record PacketParts : Type 0 where
  pub network : Network
  pub inner : InnerPart
