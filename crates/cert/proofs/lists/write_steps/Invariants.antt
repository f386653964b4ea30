use Rattle.std.proofs.Common.{drop}
use Rattle.std.specs.List.{flat_map}
use Rattle.cert.specs.CertificateText.{step_line}
use Rattle.ports.proofs.Writing.{Leaves}
use Rattle.cert.proofs.lists.write_steps.Given as goal

-- the lines of the steps from this place on are left
abbrev pub invariant-loop-step : goal.invariant-loop-step
invariant-loop-step g l = Leaves (g.O.Sink.told l.initial.out) (g.O.Sink.told l.out) (flat_map (step_line l.p) (drop l.step-index l.steps)) (flat_map (step_line l.p) l.steps)
