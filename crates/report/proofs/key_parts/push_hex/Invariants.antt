use Rattle.std.proofs.Common.{◌≡◌, ◌++◌, take}
use Rattle.std.specs.Str.{IsAscii}
use Rattle.report.specs.KeyTexts.{hex}
use Rattle.report.proofs.key_parts.push_hex.Given as goal

-- the digits of the bytes so far are appended, and are ASCII
abbrev pub invariant-loop-byte : goal.invariant-loop-byte
invariant-loop-byte l = (l.text.items ≡ l.initial.text.items ++ hex (take l.byte-index l.bytes)) × IsAscii (hex (take l.byte-index l.bytes))
