use Rattle.std.proofs.Common.{length}
use Rattle.pcapng_stream.specs.Inside.{stamping_in}
use Rattle.pcapng_stream.proofs.Walking.{Says}
use Rattle.pcapng_stream.proofs.options.read_options.Given as goal

-- what is said behind what was said so far is what all options say
abbrev pub invariant-walk : goal.invariant-walk
invariant-walk l = Says l.order l.said l.left (stamping_in l.order l.options)

abbrev pub decreases-walk : goal.decreases-walk
decreases-walk l = length l.left
