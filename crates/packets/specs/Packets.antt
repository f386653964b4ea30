-- Packets as they are seen, and packets of which only so many are kept.
use Rattle.std.specs.Prelude.{◌≡◌, ℕ, ◌-◌, ◌<◌, ◌↔◌, List, ◌++◌, length, map, take, IsTrue, Option}
use Rattle.packets.specs.declared.first_packets.FirstPackets.{FirstPackets}
use Rattle.packets.specs.declared.packet.Packet.{Packet}

-- a packet: its stamp in ns, its link type, the number of its interface if its capture numbers them, how many bytes it
-- is said to have had on its link, and those that were captured
pub record Seen : Type 0 where
  pub stamp : ℕ
  pub link : ℕ
  pub interface : Option ℕ
  pub original_length : ℕ
  pub bytes : List ℕ

-- the packets of the code
abbrev pub seen_packet : Packet → Seen
seen_packet p = record { stamp = p.stamp; link = p.link; interface = p.interface; original_length = p.original_length; bytes = p.bytes.items }

abbrev pub seen_packets : List Packet → List Seen
seen_packets packets = map seen_packet packets

-- ---- packets of which only so many are kept
-- the first of these packets are kept, at most so many, and it is told whether there were more
pub record KeepsFirst (f : FirstPackets) (packets : List Seen) : Type 0 where
  pub kept : seen_packets f.kept.items ≡ take f.most packets
  pub more : IsTrue f.more ↔ (f.most < length packets)

-- as many packets may be kept behind these as there is room for
abbrev pub IsBehind : FirstPackets → FirstPackets → Type 0
IsBehind f behind = behind.most ≡ f.most - length f.kept.items

-- the same packets are kept, and the same is told
pub record IsSame (old new : FirstPackets) : Type 0 where
  pub kept : new.kept.items ≡ old.kept.items
  pub more : new.more ≡ old.more
  pub most : new.most ≡ old.most

-- these packets came behind those that there were
pub record Adds (Are : List Seen → Type 0) (old new : FirstPackets) : Type 0 where
  pub added : List Seen
  pub are : Are added
  pub most : new.most ≡ old.most
  pub keeps : (packets : List Seen) → KeepsFirst old packets → KeepsFirst new (packets ++ added)
