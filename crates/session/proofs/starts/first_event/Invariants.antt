use Rattle.session.specs.Firsts.{IsFirstBefore}
use Rattle.session.proofs.starts.first_event.Given as goal

-- this event comes before all others so far
abbrev pub invariant-loop-v : goal.invariant-loop-v
invariant-loop-v l = IsFirstBefore l.solver l.names.came l.first l.v
