use Rattle.std.proofs.Common.{◌≡◌, ◌+◌, ◌++◌, take, length}
use Rattle.replies.proofs.refused.push_bytes.Given as goal

abbrev pub invariant-loop-byte : goal.invariant-loop-byte
invariant-loop-byte l = (l.text.items ≡ l.initial.text.items ++ take l.byte-index l.bytes) × (length l.text.items ≡ length l.initial.text.items + l.byte-index)
