use Rattle.std.proofs.Common.{drop}
use Rattle.std.specs.List.{flat_map}
use Rattle.problem_model.specs.ProblemText.{clock_line}
use Rattle.ports.proofs.Writing.{Leaves}
use Rattle.thinning.proofs.writing.write_clocks.Given as goal

-- the lines of the clocks from this place on are left
abbrev pub invariant-loop-clock : goal.invariant-loop-clock
invariant-loop-clock g l = Leaves (g.O.Sink.told l.initial.out) (g.O.Sink.told l.out) (flat_map clock_line (drop l.clock-index l.p.clocks)) (flat_map clock_line l.p.clocks)
