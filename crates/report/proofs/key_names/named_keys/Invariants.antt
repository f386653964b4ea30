use Rattle.std.proofs.Common.{◌≡◌, map, take, All}
use Rattle.decl.specs.Declaration.{declaration_of}
use Rattle.report.specs.Report.{HasAsciiKey, reported_key}
use Rattle.report.specs.Reports.{named_key}
use Rattle.report.specs.Inside.{seen_ambiguous}
use Rattle.report.proofs.key_names.named_keys.Given as goal

abbrev pub invariant-loop-key : goal.invariant-loop-key
invariant-loop-key l = (map reported_key l.groups.items ≡ map (named_key (declaration_of l.decl)) (map seen_ambiguous (take l.key-index l.keys))) × All HasAsciiKey l.groups.items
