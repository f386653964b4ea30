use Rattle.std.proofs.Common.{◌≡◌, ◌++◌, List, string_bytes}
use Rattle.std.specs.List.{flat_map, range_with_len}
use Rattle.ports.specs.Memory.{PutFile}
use Rattle.trial.specs.Workload.{file_of, add_line, HasFiles}
use Rattle.trial.proofs.workload.push_pieces.Given as goal

abbrev pub invariant-loop-host : goal.invariant-loop-host
invariant-loop-host l = record {
  files : (before : List PutFile) → HasFiles l.fn.files.puts before → HasFiles l.files.puts (before ++ flat_map (λ host. file_of host l.batch l.messages) (range_with_len 0 l.host));
  script : string_bytes l.script ≡ string_bytes l.fn.script ++ flat_map (λ host. add_line host l.batch l.messages) (range_with_len 0 l.host);
  unread : (l.files.calls ≡ l.fn.files.calls) × (l.files.absences ≡ l.fn.files.absences);
}
