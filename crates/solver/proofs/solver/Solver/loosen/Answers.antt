use Rattle.std.proofs.Common.{◌≡◌, ℕ, true, false, List, get_or, All, refl, sym, subst}
use Rattle.std.specs.Prelude.{Contains}
use Rattle.sync_graph.specs.declared.arc.Arc.{Arc}
use Rattle.sync_graph.specs.Graph.{arc_at}
use Rattle.repair.specs.Slots.{all_slots}
use Rattle.solver.specs.Solver.{SolverLists}
use Rattle.solver.specs.Changes.{KeepsSlots, AreTakenOut}
use Rattle.solver.specs.Current.{IsCurrent}
use Rattle.solver.specs.contracts.solver.Solver.{the_view}
use Rattle.solver.proofs.Fewer.{set_up_without, current_without, numbers_below}
use Rattle.solver.proofs.KeptSlots.{keeps_slots, keeps_after, rows_as_before}
use Rattle.solver.proofs.solver.Solver.loosen.Goals as goal

pub are_met-requires : goal.are_met-requires
are_met-requires g c =
    let s : SolverLists = the_view c.self.inside in
    let current : IsCurrent s = subst IsCurrent (sym c.self.view_is) c.requires.current in
    let all : All (λ (k : ℕ). get_or s.graph.in_force k false ≡ true) c.args.numbers.now = subst (λ (x : SolverLists). All (λ (k : ℕ). get_or x.graph.in_force k false ≡ true) c.args.numbers.now) (sym c.self.view_is) c.requires.numbers.each in
    numbers_below s.graph c.take_out.new.g.arcs c.args.numbers.now current.set_up.graph c.take_out.ensures.graph.arcs all

pub make_anew-requires : goal.make_anew-requires
make_anew-requires g c =
    let s : SolverLists = the_view c.self.inside in
    let current : IsCurrent s = subst IsCurrent (sym c.self.view_is) c.requires.current in
    set_up_without s c.take_out.new.g c.args.numbers.now current.set_up c.exact.ensures c.take_out.ensures.graph.nodes c.take_out.ensures.graph.arcs c.take_out.ensures.graph.in_force

pub returns-then-not-are_met-clause-graph : goal.returns-then-not-are_met-clause-graph
returns-then-not-are_met-clause-graph g c =
    subst (λ (x : SolverLists). AreTakenOut c.args.numbers.now x.graph c.take_out.new.g) c.self.view_is c.take_out.ensures.graph

pub returns-then-not-are_met-clause-slots : goal.returns-then-not-are_met-clause-slots
returns-then-not-are_met-clause-slots g c =
    let s : SolverLists = the_view c.self.inside in
    let current : IsCurrent s = subst IsCurrent (sym c.self.view_is) c.requires.current in
    let new : SolverLists = record { graph = c.take_out.new.g; earliest = s.earliest; contradiction = s.contradiction; pool = s.pool; kept = s.kept; front = s.front } in
    let now : IsCurrent new = current_without s c.take_out.new.g c.args.numbers.now current.set_up c.exact.ensures c.take_out.ensures.graph.nodes c.take_out.ensures.graph.arcs c.take_out.ensures.graph.in_force
    (subst (λ (steps : List Arc). All (λ (k : ℕ). Contains steps (arc_at c.take_out.new.g.arcs k) → ⊥) c.args.numbers.now) c.deref.ensures.value (c.are_met.ensures c.if-not-are_met.true))
    current (subst (λ (x : SolverLists). x.earliest.is_solved ≡ false) (sym c.self.view_is) c.requires.unsolved) in
    subst (λ (x : SolverLists). KeepsSlots x new) c.self.view_is (keeps_slots s new refl refl refl refl (rows_as_before (all_slots s.kept) s.pool) now)

pub returns-clause-slots : goal.returns-clause-slots
returns-clause-slots g c =
    let s : SolverLists = the_view c.self.inside in
    let mid : SolverLists = record { graph = c.take_out.new.g; earliest = s.earliest; contradiction = s.contradiction; pool = s.pool; kept = s.kept; front = s.front } in
    subst (λ (x : SolverLists). KeepsSlots x c.make_anew.new.self) c.self.view_is (keeps_after s mid c.make_anew.new.self refl refl refl c.in_ok-make_anew.ensures.slots)

pub returns-clause-graph : goal.returns-clause-graph
returns-clause-graph g c =
    subst (λ (x : SolverLists). AreTakenOut c.args.numbers.now x.graph c.make_anew.new.self.graph) c.self.view_is
    (subst (AreTakenOut c.args.numbers.now (the_view c.self.inside).graph) (sym c.make_anew.ensures.graph) c.take_out.ensures.graph)
