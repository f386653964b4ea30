use Rattle.std.proofs.Common.{◌≡◌, [], Some, None, sym, subst}
use Rattle.std.specs.Prelude.{MatchOption}
use Rattle.repair.specs.declared.slot.Slot.{Slot}
use Rattle.repair.specs.Pairs.{IsPairIn}
use Rattle.solver.specs.Solver.{SolverLists}
use Rattle.solver.specs.Current.{IsCurrent}
use Rattle.solver.specs.contracts.solver.Solver.{the_view}
use Rattle.solver.proofs.Asked.{source_told}
use Rattle.solver.proofs.solver.Solver.source_pair.Goals as goal

pub returns : goal.returns
returns c =
    let s : SolverLists = the_view c.self.inside in
    let current : IsCurrent s = subst IsCurrent (sym c.self.view_is) c.requires.current in
    let none : s.contradiction ≡ [] = subst (λ (x : SolverLists). x.contradiction ≡ []) (sym c.self.view_is) c.requires.solved in
    subst (λ (x : SolverLists). MatchOption c.look_source.result (x.kept.source ≡ None) (λ pair. (slot : Slot) × (x.kept.source ≡ Some slot) × IsPairIn x.graph slot.node c.args.q pair)) c.self.view_is
    (source_told s current none c.args.q c.look_source.result c.look_source.ensures)
