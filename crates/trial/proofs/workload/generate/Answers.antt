use Rattle.std.proofs.Common.{[], ap}
use Rattle.ports.specs.Memory.{FilesState, bytes_of}
use Rattle.trial.proofs.workload.generate.Goals as goal

pub returns-clause-files : goal.returns-clause-files
returns-clause-files c = c.in_ok-push_batches.ensures.files [] (λ path. ap (λ (s : FilesState). bytes_of s.puts path) c.in_ok-files.ensures)
