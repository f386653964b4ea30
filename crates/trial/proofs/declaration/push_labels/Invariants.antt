use Rattle.std.proofs.Common.{◌≡◌, ◌++◌, string_bytes}
use Rattle.std.specs.List.{flat_map, range_with_len}
use Rattle.trial.specs.Declaration.{label_text}
use Rattle.trial.proofs.declaration.push_labels.Given as goal

abbrev pub invariant-loop-host : goal.invariant-loop-host
invariant-loop-host l = record {
  written : string_bytes l.text ≡ string_bytes l.fn.text ++ flat_map label_text (range_with_len 0 l.host);
}
