use Rattle.std.proofs.Common.{◌≡◌, ◌++◌, ◌-◌, ◌≤◌, string_bytes}
use Rattle.std.specs.List.{flat_map, range_with_len}
use Rattle.trial.specs.Workload.{ask_lines}
use Rattle.trial.proofs.script.push_asks.Given as goal

abbrev pub invariant-loop-host : goal.invariant-loop-host
invariant-loop-host l = record {
  begun : 1 ≤ l.host;
  written : string_bytes l.script ≡ string_bytes l.fn.script ++ flat_map ask_lines (range_with_len 1 (l.host - 1));
}
