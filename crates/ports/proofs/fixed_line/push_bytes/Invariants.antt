use Rattle.std.proofs.Common.{◌≡◌, ◌+◌, ◌++◌, take, length}
use Rattle.ports.proofs.fixed_line.push_bytes.Given as goal

abbrev pub invariant-loop-byte : goal.invariant-loop-byte
invariant-loop-byte l = (l.line.items ≡ l.initial.line.items ++ take l.byte-index l.bytes) × (length l.line.items ≡ length l.initial.line.items + l.byte-index)
