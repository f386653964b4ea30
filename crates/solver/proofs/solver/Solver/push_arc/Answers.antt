use Rattle.std.proofs.Common.{ℕ, length, refl, sym, subst, ◌∙◌}
use Rattle.sync_graph.specs.Graph.{GraphLists, IsGraph, with_arc}
use Rattle.repair.specs.Slots.{all_slots}
use Rattle.solver.specs.Solver.{SolverLists}
use Rattle.solver.specs.Changes.{KeepsSlots}
use Rattle.solver.specs.Current.{IsCurrent}
use Rattle.solver.specs.Pushed.{IsPushed}
use Rattle.solver.specs.contracts.solver.Solver.{the_view}
use Rattle.solver.proofs.Longer.{with_new_arc, is_pushed, still_contradicted}
use Rattle.solver.proofs.KeptSlots.{keeps_slots, rows_as_before}
use Rattle.solver.proofs.solver.Solver.push_arc.Goals as goal

pub bring_in-requires-clause-before : goal.bring_in-requires-clause-before
bring_in-requires-clause-before g c =
    let s : SolverLists = the_view c.self.inside in
    let current : IsCurrent s = subst IsCurrent (sym c.self.view_is) c.requires.current in
    let is : IsGraph (with_arc s.graph c.args.a) = subst IsGraph c.in_ok-arc.ensures.ok c.exact.ensures in
    let pushed : IsPushed (length s.graph.arcs) (with_new_arc s c.args.a) =
    is_pushed s c.args.a current is (sym c.solved.ensures ∙ c.if-solved.true)
    (c.growth.ensures.arc s.graph c.args.a s.earliest.values current.set_up.graph)
    (c.rows_of_a_grown_graph.ensures.arc s.graph c.args.a s.kept s.pool current.set_up.graph) in
    subst (λ (h : GraphLists). IsPushed c.in_ok-arc.arc (record { graph = h; earliest = s.earliest; contradiction = s.contradiction; pool = s.pool; kept = s.kept; front = s.front })) (sym c.in_ok-arc.ensures.ok)
    (subst (λ (n : ℕ). IsPushed n (with_new_arc s c.args.a)) (sym c.in_ok-arc.ensures.number) pushed)

pub returns-else-solved-clause-slots : goal.returns-else-solved-clause-slots
returns-else-solved-clause-slots g c =
    let s : SolverLists = the_view c.self.inside in
    let current : IsCurrent s = subst IsCurrent (sym c.self.view_is) c.requires.current in
    let is : IsGraph (with_arc s.graph c.args.a) = subst IsGraph c.in_ok-arc.ensures.ok c.exact.ensures in
    let new : SolverLists = record { graph = c.push_arc.new.self; earliest = s.earliest; contradiction = s.contradiction; pool = s.pool; kept = s.kept; front = s.front } in
    let now : IsCurrent new = subst (λ (h : GraphLists). IsCurrent (record { graph = h; earliest = s.earliest; contradiction = s.contradiction; pool = s.pool; kept = s.kept; front = s.front })) (sym c.in_ok-arc.ensures.ok)
    (still_contradicted s c.args.a current is (sym c.solved.ensures ∙ c.if-solved.false)) in
    subst (λ (x : SolverLists). KeepsSlots x new) c.self.view_is (keeps_slots s new refl refl refl refl (rows_as_before (all_slots s.kept) s.pool) now)
