use Rattle.std.proofs.Common.{◌≡◌, map, take}
use Rattle.decl.specs.Declaration.{declaration_of}
use Rattle.traces.specs.Traces.{name_of}
use Rattle.report.proofs.key_names.names_of.Given as goal

abbrev pub invariant-loop-id : goal.invariant-loop-id
invariant-loop-id l = l.names.items ≡ map (name_of (declaration_of l.decl)) (take l.id-index l.ids)
