use Rattle.std.proofs.Common.{◌≡◌, get_or, sym, subst, true, false}
use Rattle.sync_graph.proofs.Withdrawn.{kind_removed}
use Rattle.sync_graph.proofs.graph.Graph.withdraw.Goals as goal

pub invariant_of-self : goal.invariant_of-self
invariant_of-self c = kind_removed c.self.inside.numbers c.self.inside.arcs c.self.inside.in_force.items c.self.inside.leaving c.remove.new.self c.self.inside.arriving c.remove-2.new.self c.args.k c.get-a.result c.self.invariant
    (subst (λ v. get_or v.in_force c.args.k false ≡ true) (sym c.self.view_is) c.requires) c.get-a.ensures c.remove.ensures c.remove-2.ensures
