use Rattle.std.proofs.Common.{◌≡◌, ◌++◌, drop}
use Rattle.std.specs.List.{flat_map}
use Rattle.session_graph.specs.Withdrawn.{told_arcs}
use Rattle.session_graph.proofs.withdrawn.list_messages.Given as goal

abbrev pub invariant-loop-message : goal.invariant-loop-message
invariant-loop-message l = record {
  rest : l.numbers.items ++ flat_map (told_arcs l.roster) (drop l.message-index l.messages) ≡ flat_map (told_arcs l.roster) l.messages;
}
