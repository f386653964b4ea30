-- A stream of blocks that comes in pieces: what is kept of it, and what a piece adds.
use Rattle.std.specs.Prelude.{◌≡◌, ℕ, ◌+◌, ◌^◌, ◌≤◌, List, [], length, Option, None}
use Rattle.packets.specs.Packets.{Seen}
use Rattle.packets.specs.Passed.{none_passed, passed_count}
use Rattle.packets.specs.Streams.{GrowsBy}
use Rattle.packets.specs.declared.passed.Passed.{Passed}
use Rattle.pcapng_stream.specs.declared.skipped.Skipped.{Skipped}
use Rattle.pcapng_stream.specs.Blocks.{Section, before}
use Rattle.pcapng_stream.specs.Passed.{passed_over}
use Rattle.pcapng_stream.specs.Skipping.{IsHeldBy, held_of, skipped_in, waiting_by}
use Rattle.pcapng_stream.specs.Pcapng.{Blocks, Reads, packets_of, present}

-- what is kept of a stream of blocks: the section, how many packets were passed over, how many bytes come before the rest,
-- the skipped block that begins the rest, if one does, and the bytes of the rest that are held: of a skipped block those of
-- its last four
pub record BlockTail : Type 0 where
  pub section : Section
  pub passed : Passed
  pub offset : ℕ
  pub skipped : Option Skipped
  pub held : List ℕ

-- how many bytes wait for more: those behind the last whole block
abbrev pub waiting_blocks : BlockTail → ℕ
waiting_blocks t = waiting_by t.skipped t.held

-- the tail of nothing
abbrev pub new_tail : BlockTail
new_tail = record { section = before; passed = none_passed; offset = 0; skipped = None; held = [] }

-- the tail is that of this stream of blocks, which stands for this
pub record StandsForBlocks (t : BlockTail) (s : List ℕ) (c : Blocks) : Type 0 where
  pub reads : Reads s c
  pub section : t.section ≡ present c
  pub passed : t.passed ≡ passed_over c.blocks
  pub skipped : t.skipped ≡ skipped_in (present c).order c.rest
  pub held : t.held ≡ held_of (skipped_in (present c).order c.rest) c.rest
  pub offset : t.offset + length c.rest ≡ length s

-- the stream has at most 2^30 bytes, no more packets were passed over than bytes are in whole blocks, and of a skipped block
-- those of its last four bytes are held that came
pub record IsBlockTail (t : BlockTail) : Type 0 where
  pub early : t.offset + waiting_blocks t ≤ 2 ^ 30
  pub few : passed_count t.passed ≤ t.offset
  pub held : IsHeldBy t.skipped t.held

-- the tail is that of this stream, which goes on from what stood for c, and the packets that were added are those that it has more
abbrev pub GrowsBlocks : BlockTail → List ℕ → Blocks → List Seen → List Seen → Type 0
GrowsBlocks t s c old new = GrowsBy StandsForBlocks packets_of t s c old new
