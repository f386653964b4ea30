-- Packets that are passed over: blocks that are skipped, and that Wireshark 4.0 numbers as frames.
use Rattle.std.specs.Prelude.{ℕ, Bool, cond, ◌||◌, ◌==◌, List, count_by}
use Rattle.packets.specs.declared.passed.Passed.{Passed}
use Rattle.pcapng_stream.specs.Numbers.{word_at}
use Rattle.pcapng_stream.specs.Blocks.{Block}

-- ---- by the type of a block
-- a simple packet
abbrev pub is_simple : ℕ → Bool
is_simple n = n == 3

-- an obsolete packet
abbrev pub is_obsolete : ℕ → Bool
is_obsolete n = n == 2

-- an entry of a systemd journal, a sysdig event of the first or the second version or a large one, or a custom block, which may be
-- copied or not
abbrev pub is_other : ℕ → Bool
is_other n = n == 9 || n == 0x204 || n == 0x216 || n == 0x221 || n == 0xbad || n == 0x40000bad

-- ---- counts
-- what one block of this type counts as
abbrev pub counted : ℕ → Passed
counted n = record { simple = cond (is_simple n) 1 0; obsolete = cond (is_obsolete n) 1 0; other = cond (is_other n) 1 0 }

-- ---- blocks
-- the type
abbrev pub type_of : Block → ℕ
type_of b = word_at b.order 0 b.bytes

-- those that are passed over with these blocks
abbrev pub passed_over : List Block → Passed
passed_over blocks = record {
  simple = count_by (λ b. is_simple (type_of b)) blocks;
  obsolete = count_by (λ b. is_obsolete (type_of b)) blocks;
  other = count_by (λ b. is_other (type_of b)) blocks;
}
