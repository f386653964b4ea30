use Rattle.std.proofs.Common.{◌≡◌, ◌++◌, ◌-◌, ◌*◌, ◌≤◌, List, string_bytes}
use Rattle.std.specs.List.{flat_map, range_with_len}
use Rattle.ports.specs.Memory.{PutFile}
use Rattle.trial.specs.Workload.{batch_messages, batch_files, batch_lines, HasFiles}
use Rattle.trial.proofs.workload.push_batches.Given as goal

abbrev pub invariant-loop-batch : goal.invariant-loop-batch
invariant-loop-batch l = record {
  begun : 1 ≤ l.batch;
  course : l.course ≡ record { seed = l.seed; rounds = 100 * (l.batch - 1) };
  files : (before : List PutFile) → HasFiles l.fn.files.puts before → HasFiles l.files.puts (before ++ flat_map (λ batch. batch_files batch (batch_messages l.seed batch)) (range_with_len 1 (l.batch - 1)));
  script : string_bytes l.script ≡ string_bytes l.fn.script ++ flat_map (λ batch. batch_lines batch (batch_messages l.seed batch)) (range_with_len 1 (l.batch - 1));
  unread : (l.files.calls ≡ l.fn.files.calls) × (l.files.absences ≡ l.fn.files.absences);
}
