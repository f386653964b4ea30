use Rattle.session_graph.specs.Extensions.{TakesFewToPush}
use Rattle.session_graph.proofs.InARow.{StandsAt}
use Rattle.session_graph.proofs.arrivals.come.Given as goal

-- the events before this turn have entered, and the messages from this place on have come
abbrev pub invariant-loop-k : goal.invariant-loop-k
invariant-loop-k g l = record {
  at : StandsAt l.turns l.dues l.initial.roster l.roster l.initial.solver l.solver l.k l.next l.left;
  steps : TakesFewToPush l.initial.solver l.solver l.initial.steps l.steps;
}
