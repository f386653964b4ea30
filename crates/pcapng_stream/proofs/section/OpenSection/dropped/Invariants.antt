use Rattle.std.proofs.Common.{◌≡◌}
use Rattle.pcapng_stream.proofs.Counts.{first_dropped}
use Rattle.pcapng_stream.proofs.section.OpenSection.dropped.Given as goal

-- the sums over the interfaces so far
abbrev pub invariant-loop-interface : goal.invariant-loop-interface
invariant-loop-interface l = l.dropped ≡ first_dropped l.interface-index l.self.interfaces.items
