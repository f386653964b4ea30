use Rattle.std.proofs.Common.{◌≡◌, ◌+◌, ◌++◌, take, length}
use Rattle.pcapng_blocks.proofs.options.push_bytes.Given as goal

-- the first of the bytes were appended
abbrev pub invariant-loop-byte : goal.invariant-loop-byte
invariant-loop-byte g l = (l.head.items ≡ l.initial.head.items ++ take l.byte-index l.bytes) × (length l.head.items ≡ length l.initial.head.items + l.byte-index)
