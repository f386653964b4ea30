use Rattle.std.proofs.Common.{◌≡◌, ◌++◌, ◌∷◌, [], ap, ◌∙◌, List, ℤ, rules}
use mir.Syntax.{w128}
use mir.Val.{SFits}
use Rattle.std.proofs.lemmas.Int.{to_z-of_z}
use Rattle.sync_graph.specs.declared.arcs.Ends.{Ends}
use Rattle.sync_graph.specs.declared.arcs.Kind.{Kind}
use Rattle.sync_graph.specs.declared.arcs.KindArc.{KindArc}
use Rattle.sync_graph.specs.Kinds.{joined}
use Rattle.sync_graph.proofs.Compact.{joined_more}
use Rattle.sync_graph.proofs.arcs.Arcs.push.Goals as goal

pub returns-clause-ok : goal.returns-clause-ok
returns-clause-ok c =
    let s = c.self.inside in
    let a = c.args.a in
    let e : Ends = record { from = a.from; to = a.to } in
    let es : c.push_reserved.new.self.items ≡ s.ends.items ++ e ∷ [] = c.push_reserved.ensures.items ∙ ap (λ (v : List Ends). v ++ e ∷ []) c.in_ok-reserve.ensures.items in
    let fits : SFits w128 c.args.a.weight = search rules in
    let ws : c.push_reserved-2.new.self.items ≡ s.weights.items ++ a.weight ∷ [] = simp to_z-of_z at c.push_reserved-2.ensures.items ∙ ap (λ (v : List ℤ). v ++ a.weight ∷ []) c.in_ok-reserve-2.ensures.items in
    let ks : c.push_reserved-3.new.self.items ≡ s.kinds.items ++ a.kind ∷ [] = c.push_reserved-3.ensures.items ∙ ap (λ (v : List Kind). v ++ a.kind ∷ []) c.in_ok-reserve-3.ensures.items in
    ap (λ v. joined v c.push_reserved-2.new.self.items c.push_reserved-3.new.self.items) es
    ∙ ap (λ v. joined (s.ends.items ++ e ∷ []) v c.push_reserved-3.new.self.items) ws
    ∙ ap (λ v. joined (s.ends.items ++ e ∷ []) (s.weights.items ++ a.weight ∷ []) v) ks
    ∙ joined_more s.ends.items s.weights.items s.kinds.items e a.weight a.kind c.self.invariant.0 c.self.invariant.1
    ∙ ap (λ (v : List KindArc). v ++ a ∷ []) c.self.view_is
