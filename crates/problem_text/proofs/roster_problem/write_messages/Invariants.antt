use Rattle.std.proofs.Common.{ℕ, ◌++◌, drop}
use Rattle.std.specs.List.{flat_map}
use Rattle.ports.proofs.Writing.{Leaves}
use Rattle.roster.specs.Roster.{listed}
use Rattle.problem_text.specs.RosterText.{sent_line, sent_lines}
use Rattle.problem_text.proofs.roster_problem.write_messages.Given as goal

-- the lines of the events from this place on are left behind those of the page
abbrev pub invariant-loop-place : goal.invariant-loop-place
invariant-loop-place g l = Leaves (g.O.Sink.told l.initial.out) (g.O.Sink.told l.out) (l.page.items ++ flat_map (λ (e : ℕ × ℕ). sent_line l.roster e.0) (drop l.place (listed l.roster).events)) (sent_lines l.roster)
