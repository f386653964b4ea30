use Rattle.std.proofs.Common.{◌≡◌, ◌++◌, drop}
use Rattle.session_graph.specs.Plans.{messages_in}
use Rattle.session_graph.proofs.plans.dues_from.Given as goal

-- the messages before this one are there
abbrev pub invariant-loop-k : goal.invariant-loop-k
invariant-loop-k l = messages_in l.dues.items ++ drop l.k l.messages ≡ l.messages
