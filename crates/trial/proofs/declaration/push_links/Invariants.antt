use Rattle.std.proofs.Common.{◌≡◌, ◌++◌, string_bytes}
use Rattle.std.specs.List.{flat_map, range_with_len}
use Rattle.trial.specs.Declaration.{links_text}
use Rattle.trial.proofs.declaration.push_links.Given as goal

abbrev pub invariant-loop-from : goal.invariant-loop-from
invariant-loop-from l = record {
  written : string_bytes l.text ≡ string_bytes l.fn.text ++ flat_map links_text (range_with_len 0 l.from);
}
