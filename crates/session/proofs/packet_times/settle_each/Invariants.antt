use Rattle.std.proofs.Common.{◌≡◌, ◌++◌, map, take, drop}
use Rattle.mergecap.specs.Packets.{all_timed}
use Rattle.session.specs.Settled.{valued}
use Rattle.session.proofs.packet_times.settle_each.Given as goal

-- those before have the values of their events, those behind are as they were
abbrev pub invariant-loop-stored : goal.invariant-loop-stored
invariant-loop-stored l =
    all_timed l.kept ≡ map (valued l.names l.solver) (take l.stored-index (all_timed l.initial.kept)) ++ drop l.stored-index (all_timed l.initial.kept)
