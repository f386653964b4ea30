use Rattle.std.proofs.Common.{drop}
use Rattle.std.specs.List.{flat_map}
use Rattle.problem_model.specs.ProblemText.{follow_line}
use Rattle.ports.proofs.Writing.{Leaves}
use Rattle.thinning.proofs.writing.write_follows.Given as goal

-- the lines of the follows from this place on are left
abbrev pub invariant-loop-follow : goal.invariant-loop-follow
invariant-loop-follow g l =
    Leaves (g.O.Sink.told l.initial.out) (g.O.Sink.told l.out) (flat_map (follow_line l.p.clocks) (drop l.follow-index l.p.follows)) (flat_map (follow_line l.p.clocks) l.p.follows)
