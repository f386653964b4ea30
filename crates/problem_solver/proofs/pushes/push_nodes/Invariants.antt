use Rattle.std.proofs.Common.{◌≡◌, drop, ◌++◌}
use Rattle.problem_model.specs.Nodes.{event_nodes, reading_nodes}
use Rattle.problem_solver.specs.Pushing.{NodesCome}
use Rattle.problem_solver.proofs.pushes.push_nodes.Given as goal

-- the nodes of the events from this place on and all readings are left
abbrev pub invariant-loop-place : goal.invariant-loop-place
invariant-loop-place l = record {
  come : NodesCome l.p l.readings (event_nodes l.place (drop l.place l.p.events) ++ reading_nodes l.readings) l.s;
  pool : l.s.pool ≡ l.initial.s.pool;
  kept : l.s.kept ≡ l.initial.s.kept;
}

-- the nodes of the readings from this place on are left
abbrev pub invariant-loop-reading : goal.invariant-loop-reading
invariant-loop-reading l = record {
  come : NodesCome l.p l.readings (reading_nodes (drop l.reading-index l.readings)) l.s;
  pool : l.s.pool ≡ l.initial.s.pool;
  kept : l.s.kept ≡ l.initial.s.kept;
}
