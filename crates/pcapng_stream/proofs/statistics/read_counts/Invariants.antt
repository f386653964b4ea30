use Rattle.std.proofs.Common.{length}
use Rattle.pcapng_stream.specs.Inside.{told_in}
use Rattle.pcapng_stream.proofs.Counts.{Tells}
use Rattle.pcapng_stream.proofs.statistics.read_counts.Given as goal

-- what is told behind what was told so far is what all options tell
abbrev pub invariant-walk : goal.invariant-walk
invariant-walk l = Tells l.order l.told l.left (told_in l.order l.options)

abbrev pub decreases-walk : goal.decreases-walk
decreases-walk l = length l.left
