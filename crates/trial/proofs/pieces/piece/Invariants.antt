use Rattle.std.proofs.Common.{◌≡◌, ◌++◌, drop, string_bytes}
use Rattle.trial.specs.Workload.{piece_of}
use Rattle.trial.proofs.pieces.piece.Given as goal

abbrev pub invariant-loop-message : goal.invariant-loop-message
invariant-loop-message l = record {
  left : string_bytes l.text ++ piece_of l.host (drop l.message-index l.messages) ≡ piece_of l.host l.messages;
}
