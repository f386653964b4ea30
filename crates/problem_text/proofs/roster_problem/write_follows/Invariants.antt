use Rattle.std.proofs.Common.{length, drop}
use Rattle.std.specs.List.{flat_map, range_with_len}
use Rattle.problem_model.specs.ProblemText.{follow_line}
use Rattle.decl.specs.Declaration.{follows_of}
use Rattle.ports.proofs.Writing.{Leaves}
use Rattle.problem_text.specs.RosterText.{next_line}
use Rattle.problem_text.proofs.roster_problem.write_follows.Given as goal

-- the lines of the follows from this place on are left
abbrev pub invariant-loop-place : goal.invariant-loop-place
invariant-loop-place g l = Leaves (g.O.Sink.told l.initial.out) (g.O.Sink.told l.out)
    (flat_map (next_line l.roster.declaration) (drop l.place (range_with_len 0 (length l.roster.declaration.owners))))
    (flat_map (follow_line l.roster.declaration.clocks) (follows_of l.roster.declaration))
