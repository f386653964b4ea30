use Rattle.ports.proofs.Writing.{Leaves}
use Rattle.attain.proofs.Lines.{steps_from}
use Rattle.attain.proofs.cycle.write_steps.Given as goal

-- the steps from this place on are what is left of all
abbrev pub invariant-loop-arc : goal.invariant-loop-arc
invariant-loop-arc g l = Leaves (g.O.Sink.told l.initial.out) (g.O.Sink.told l.out) (steps_from (g.N.Listing.listed l.names) l.cycle l.arc-index) (steps_from (g.N.Listing.listed l.names) l.cycle 0)
