use Rattle.std.proofs.Common.{drop}
use Rattle.std.specs.List.{flat_map}
use Rattle.problem_model.specs.Nodes.{nodes_of}
use Rattle.problem_model.specs.ExecutionText.{value_lines}
use Rattle.problem.specs.Listing.{all_readings}
use Rattle.cert.specs.Listed.{timed_line}
use Rattle.cert.proofs.Certificates.{timed}
use Rattle.ports.proofs.Writing.{Leaves}
use Rattle.cert.proofs.lists.write_values.Given as goal

-- the lines of the nodes from this place on are left
abbrev pub invariant-loop-place : goal.invariant-loop-place
invariant-loop-place g l = Leaves (g.O.Sink.told l.initial.out) (g.O.Sink.told l.out) (flat_map timed_line (drop l.place (timed l.p l.execution))) (value_lines l.p (nodes_of l.p (all_readings l.p.events)) l.execution)
