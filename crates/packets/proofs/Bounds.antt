-- Bounds that the packets of each format keep.
use Rattle.std.specs.Prelude.{ℕ, ◌<◌, ◌≤◌, ◌^◌, List, [], ◌∷◌, ◌++◌, length}
use Rattle.std.specs.List.{AllByRecursion}
use Rattle.packets.specs.Packets.{Seen}

-- a packet's stamp is below 2^62
abbrev pub IsStamped : Seen → Type 0
IsStamped s = s.stamp < 2 ^ 62

-- a packet has at most 262,144 bytes
abbrev pub IsShortPacket : Seen → Type 0
IsShortPacket p = length p.bytes ≤ 262144

abbrev pub AreShort : List Seen → Type 0
AreShort ps = AllByRecursion IsShortPacket ps

pub both_short : (a b : List Seen) → AreShort a → AreShort b → AreShort (a ++ b)
both_short [] b x y = y
both_short (p ∷ a) b x y = (x.0, both_short a b x.1 y)
