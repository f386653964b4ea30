use Rattle.std.proofs.Common.{◌++◌, drop}
use Rattle.std.specs.List.{flat_map}
use Rattle.problem_model.specs.ProblemText.{event_line}
use Rattle.ports.proofs.Writing.{Leaves}
use Rattle.thinning.proofs.Printed.{beside, line_if}
use Rattle.thinning.proofs.writing.write_events.Given as goal

-- the lines of the events from this place on are left behind those of the page
abbrev pub invariant-loop-place : goal.invariant-loop-place
invariant-loop-place g l =
    Leaves (g.O.Sink.told l.initial.out) (g.O.Sink.told l.out) (l.page.items ++ flat_map (line_if (event_line l.p.clocks)) (drop l.place (beside l.p.events l.stays)))
    (flat_map (line_if (event_line l.p.clocks)) (beside l.p.events l.stays))
