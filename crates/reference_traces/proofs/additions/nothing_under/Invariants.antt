use Rattle.std.proofs.Common.{◌≡◌, ◌++◌, [], map, drop}
use Rattle.decl.specs.declared.items.Label.{Label}
use Rattle.traces.specs.Held.{seen_in}
use Rattle.reference_traces.proofs.additions.nothing_under.Given as goal

abbrev pub invariant-loop : goal.invariant-loop
invariant-loop l = seen_in l.accepted.items ++ map (λ (x : Label). []) (drop l.index l.labels) ≡ map (λ (x : Label). []) l.labels
