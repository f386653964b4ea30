use Rattle.problem_model.specs.Executions.{at}
use Rattle.ports.proofs.Writing.{Leaves}
use Rattle.attain.proofs.Lines.{values_from}
use Rattle.attain.proofs.run.write_values.Given as goal

-- the nodes from this place on are what is left of all
abbrev pub invariant-loop-place : goal.invariant-loop-place
invariant-loop-place g l = Leaves (g.O.Sink.told l.initial.out) (g.O.Sink.told l.out) (values_from (g.N.Listing.listed l.names) (at l.e.values) l.place) (values_from (g.N.Listing.listed l.names) (at l.e.values) 0)
