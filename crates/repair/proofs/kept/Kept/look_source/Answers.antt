use Rattle.std.proofs.Common.{◌≡◌, Some, length, sym, ap, subst, ◌∙◌}
use Rattle.sync_graph.specs.Graph.{table_of}
use Rattle.repair.specs.Slots.{IsRowsOf}
use Rattle.repair.specs.Pairs.{IsPairIn}
use Rattle.repair.proofs.Found.{of_source}
use Rattle.repair.proofs.Looking.{pair_told}
use Rattle.repair.proofs.kept.Kept.look_source.Goals as goal

pub returns-in-Some : goal.returns-in-Some
returns-in-Some c =
    let there : c.args.self.now.source ≡ Some c.in-Some.source = ap (λ k. k.source) (sym c.self.view_is) ∙ c.in-Some.is in (
      c.in-Some.source,
      there,
      λ g xs is executes rows.
          subst (IsPairIn g c.in-Some.source.node c.args.q) (sym c.look_in.ensures)
          (pair_told g is xs executes c.args.pool.now c.in-Some.source
          (of_source (IsRowsOf (length g.nodes) (table_of g) c.args.pool.now) c.args.self.now.source c.in-Some.source c.args.self.now.slots there rows) c.args.q),
    )
