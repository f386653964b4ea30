use Rattle.std.proofs.Common.{◌≡◌, ◌++◌, drop, map}
use Rattle.session_graph.specs.Numbers.{message_by}
use Rattle.session_graph.proofs.numbers.messages_of.Given as goal

-- the messages before this one are there
abbrev pub invariant-loop-couple : goal.invariant-loop-couple
invariant-loop-couple l = record { rest : l.messages.items ++ map (message_by l.roster) (drop l.couple-index l.couples) ≡ map (message_by l.roster) l.couples }
