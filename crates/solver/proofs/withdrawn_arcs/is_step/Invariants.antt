use Rattle.std.proofs.Common.{◌≢◌, ◌<◌, ℕ, get_or}
use Rattle.sync_graph.specs.declared.arc.Arc.{Arc}
use Rattle.solver.proofs.withdrawn_arcs.is_step.Given as goal

abbrev pub invariant-loop-step : goal.invariant-loop-step
invariant-loop-step l = (k : ℕ) (d : Arc) → k < l.step-index → get_or l.cycle k d ≢ l.a
