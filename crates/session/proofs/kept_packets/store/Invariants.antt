use Rattle.std.proofs.Common.{◌≡◌, ◌+◌, ◌++◌, length}
use Rattle.mergecap.specs.Packets.{all_timed}
use Rattle.captures.specs.Feeding.{seen_packets}
use Rattle.session.specs.Taken.{packets_from}
use Rattle.session.proofs.kept_packets.store.Given as goal

-- as many are numbered as were taken, and they stand behind those before
abbrev pub invariant-loop-packet : goal.invariant-loop-packet
invariant-loop-packet l = (l.n ≡ l.before + length l.yielded) × (all_timed l.kept.items ≡ all_timed l.initial.kept.items ++ packets_from l.place (l.before + 1) (seen_packets l.yielded))
