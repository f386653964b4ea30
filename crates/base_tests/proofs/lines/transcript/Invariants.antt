use Rattle.std.proofs.Common.{◌≡◌, false}
use Rattle.ports.specs.Reader.{room}
use Rattle.base_tests.proofs.lines.transcript.Given as goal

abbrev pub invariant-lines : goal.invariant-lines
invariant-lines l = l.reader.over ≡ false

abbrev pub decreases-lines : goal.decreases-lines
decreases-lines l = room l.reader
