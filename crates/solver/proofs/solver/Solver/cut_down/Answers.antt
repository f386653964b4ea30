use Rattle.std.proofs.Common.{◌≡◌, ◌<◌, ℕ, true, false, List, length, get_or, All, refl, sym, subst, ◌∙◌}
use Rattle.sync_graph.specs.declared.arc.Arc.{Arc}
use Rattle.solver.specs.Solver.{SolverLists}
use Rattle.solver.specs.Changes.{KeepsSlots, AreTakenOut}
use Rattle.solver.specs.Current.{IsCurrent}
use Rattle.solver.specs.Costs.{TakesFewToWithdrawAll}
use Rattle.solver.specs.Withdrawn.{arcs_numbered, IsCutDown}
use Rattle.solver.specs.contracts.solver.Solver.{the_view}
use Rattle.solver.proofs.Cutting.{cut_down, few_after}
use Rattle.solver.proofs.Fewer.{numbers_below}
use Rattle.solver.proofs.KeptSlots.{keeps_after}
use Rattle.solver.proofs.solver.Solver.cut_down.Goals as goal

pub list_arcs-listed-requires : goal.list_arcs-listed-requires
list_arcs-listed-requires g c =
    let s : SolverLists = the_view c.self.inside in
    let current : IsCurrent s = subst IsCurrent (sym c.self.view_is) c.requires.current in
    let all : All (λ (k : ℕ). get_or s.graph.in_force k false ≡ true) c.args.numbers.now = subst (λ (x : SolverLists). All (λ (k : ℕ). get_or x.graph.in_force k false ≡ true) c.args.numbers.now) (sym c.self.view_is) c.requires.numbers.each in
    numbers_below s.graph s.graph.arcs c.args.numbers.now current.set_up.graph refl all

pub repair-requires : goal.repair-requires
repair-requires g c =
    let s : SolverLists = the_view c.self.inside in
    let current : IsCurrent s = subst IsCurrent (sym c.self.view_is) c.requires.current in
    let solved : s.earliest.is_solved ≡ true = subst (λ (x : SolverLists). x.earliest.is_solved ≡ true) (sym c.self.view_is) c.requires.solved in
    let all : All (λ (k : ℕ). get_or s.graph.in_force k false ≡ true) c.args.numbers.now = subst (λ (x : SolverLists). All (λ (k : ℕ). get_or x.graph.in_force k false ≡ true) c.args.numbers.now) (sym c.self.view_is) c.requires.numbers.each in
    let below : All (λ (k : ℕ). k < length s.graph.arcs) c.args.numbers.now = numbers_below s.graph s.graph.arcs c.args.numbers.now current.set_up.graph refl all in
    subst (λ (xs : List Arc). IsCutDown xs (record { graph = c.take_out.new.g; earliest = s.earliest; contradiction = s.contradiction; pool = s.pool; kept = s.kept; front = s.front }))
    (sym (c.deref.ensures.value ∙ c.in_ok-removed.ensures))
    (cut_down s c.take_out.new.g c.args.numbers.now current solved c.exact-2.ensures c.take_out.ensures.graph.nodes c.take_out.ensures.graph.arcs c.take_out.ensures.graph.in_force below c.take_out.ensures.values c.take_out.ensures.rows)

pub returns-clause-slots : goal.returns-clause-slots
returns-clause-slots g c =
    let s : SolverLists = the_view c.self.inside in
    let mid : SolverLists = record { graph = c.take_out.new.g; earliest = s.earliest; contradiction = s.contradiction; pool = s.pool; kept = s.kept; front = s.front } in
    subst (λ (x : SolverLists). KeepsSlots x c.repair.new.self) c.self.view_is (keeps_after s mid c.repair.new.self refl refl refl c.repair.ensures.slots)

pub returns-clause-graph : goal.returns-clause-graph
returns-clause-graph g c =
    subst (λ (x : SolverLists). AreTakenOut c.args.numbers.now x.graph c.repair.new.self.graph) c.self.view_is
    (subst (AreTakenOut c.args.numbers.now (the_view c.self.inside).graph) (sym c.repair.ensures.graph) c.take_out.ensures.graph)

pub returns-clause-steps : goal.returns-clause-steps
returns-clause-steps g c =
    let s : SolverLists = the_view c.self.inside in
    let same : c.deref.result.now ≡ arcs_numbered s.graph c.args.numbers.now = c.deref.ensures.value ∙ c.in_ok-removed.ensures in
    subst (λ (x : SolverLists). TakesFewToWithdrawAll x c.repair.new.self (arcs_numbered x.graph c.args.numbers.now) c.args.steps.now c.repair.new.steps) c.self.view_is
    (subst (λ (xs : List Arc). TakesFewToWithdrawAll s c.repair.new.self xs c.args.steps.now c.repair.new.steps) same
    (few_after s c.take_out.new.g c.repair.new.self c.deref.result.now c.args.steps.now c.repair.new.steps c.repair.ensures.steps))
