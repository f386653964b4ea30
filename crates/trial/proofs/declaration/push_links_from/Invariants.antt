use Rattle.std.proofs.Common.{◌≡◌, ◌++◌, string_bytes}
use Rattle.std.specs.List.{flat_map, range_with_len}
use Rattle.trial.specs.Declaration.{link_text}
use Rattle.trial.proofs.declaration.push_links_from.Given as goal

abbrev pub invariant-loop-to : goal.invariant-loop-to
invariant-loop-to l = record {
  written : string_bytes l.text ≡ string_bytes l.fn.text ++ flat_map (link_text l.from) (range_with_len 0 l.to);
}
