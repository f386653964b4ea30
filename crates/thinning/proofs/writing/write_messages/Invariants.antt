use Rattle.std.proofs.Common.{◌++◌, drop}
use Rattle.std.specs.List.{flat_map}
use Rattle.problem_model.specs.ProblemText.{message_line}
use Rattle.ports.proofs.Writing.{Leaves}
use Rattle.thinning.proofs.Printed.{beside, line_if}
use Rattle.thinning.proofs.writing.write_messages.Given as goal

-- the lines of the messages from this place on are left behind those of the page
abbrev pub invariant-loop-place : goal.invariant-loop-place
invariant-loop-place g l =
    Leaves (g.O.Sink.told l.initial.out) (g.O.Sink.told l.out) (l.page.items ++ flat_map (line_if (message_line l.p.events)) (drop l.place (beside l.p.messages l.keeps)))
    (flat_map (line_if (message_line l.p.events)) (beside l.p.messages l.keeps))
