use Rattle.std.proofs.Common.{drop}
use Rattle.std.specs.List.{flat_map}
use Rattle.ports.proofs.Writing.{Leaves}
use Rattle.mergecap.proofs.Records.{record_bytes}
use Rattle.mergecap.proofs.write.write_records.Given as goal

-- the records from this place on are left
abbrev pub invariant-loop-stored : goal.invariant-loop-stored
invariant-loop-stored g l = Leaves (g.O.Sink.told l.initial.out) (g.O.Sink.told l.out) (flat_map record_bytes (drop l.stored-index l.kept)) (flat_map record_bytes l.kept)
