use Rattle.std.proofs.Common.{◌≡◌, ◌++◌, string_bytes}
use Rattle.std.specs.List.{flat_map, range_with_len}
use Rattle.trial.specs.Workload.{keep_line}
use Rattle.trial.proofs.script.push_all_keeps.Given as goal

abbrev pub invariant-loop-host : goal.invariant-loop-host
invariant-loop-host l = record {
  written : string_bytes l.script ≡ string_bytes l.fn.script ++ flat_map keep_line (range_with_len 0 l.host);
}
