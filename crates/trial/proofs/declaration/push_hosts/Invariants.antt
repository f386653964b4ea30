use Rattle.std.proofs.Common.{◌≡◌, ◌++◌, string_bytes}
use Rattle.std.specs.List.{flat_map, range_with_len}
use Rattle.trial.specs.Declaration.{host_text}
use Rattle.trial.proofs.declaration.push_hosts.Given as goal

abbrev pub invariant-loop-host : goal.invariant-loop-host
invariant-loop-host l = record {
  written : string_bytes l.text ≡ string_bytes l.fn.text ++ flat_map host_text (range_with_len 0 l.host);
}
