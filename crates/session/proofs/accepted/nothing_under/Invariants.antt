use Rattle.std.proofs.Common.{◌≡◌, ◌++◌, drop, map, All}
use Rattle.decl.specs.declared.items.Label.{Label}
use Rattle.session.specs.Stands.{under_of}
use Rattle.session.specs.Inside.{HoldsNothing, kinds_held}
use Rattle.session.proofs.accepted.nothing_under.Given as goal

-- nothing is held so far, under labels of these kinds
abbrev pub invariant-loop-label : goal.invariant-loop-label
invariant-loop-label l =
    All HoldsNothing (map under_of l.accepted.items)
    × (kinds_held (map under_of l.accepted.items) ++ map (λ (x : Label). x.kind) (drop l.label-index l.labels) ≡ map (λ (x : Label). x.kind) l.labels)
