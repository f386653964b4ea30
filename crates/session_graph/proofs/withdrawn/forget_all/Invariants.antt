use Rattle.std.proofs.Common.{◌≡◌, drop, length}
use Rattle.session_graph.specs.Withdrawn.{without_partners}
use Rattle.session_graph.proofs.withdrawn.forget_all.Given as goal

abbrev pub invariant-loop-message : goal.invariant-loop-message
invariant-loop-message l = record {
  rest : without_partners l.roster (drop l.message-index l.messages) ≡ without_partners l.initial.roster l.messages;
  many : length l.roster.came ≡ length l.initial.roster.came;
}
