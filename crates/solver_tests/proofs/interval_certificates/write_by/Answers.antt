use Rattle.std.proofs.Common.{◌≡◌, ℕ, true, false, sym, ◌∙◌, ap, subst, inl, inr}
use Rattle.problem.specs.Listing.{listing_of}
use Rattle.earliest.specs.Values.{Values}
use Rattle.sync_graph.specs.Graph.{GraphLists}
use Rattle.sync_graph.specs.InForce.{IsEarliestOf}
use Rattle.problem_graph.specs.ListedStanding.{StandsForListed}
use Rattle.problem_graph.proofs.HeldStanding.{own_event}
use Rattle.attain.specs.Ends.{AreRowsAt, AreEventNodes}
use Rattle.attain.specs.RowLists.{RowLists}
use Rattle.solver.specs.Solver.{SolverLists}
use Rattle.solver.specs.Current.{IsCurrent}
use Rattle.solver_tests.proofs.interval_certificates.write_by.Goals as goal

-- where the values are known they are the earliest execution of the graph
earliest_so : (s : SolverLists) → IsCurrent s → s.earliest.is_solved ≡ true → IsEarliestOf s.graph s.earliest.values
earliest_so s current solved = elim current.answer [
  | inl now ↦ now.earliest
  | inr held ↦ absurd (let unsolved : s.earliest.is_solved ≡ false = held.unsolved in cc)
]

pub new-rows-requires-clause-solved : goal.new-rows-requires-clause-solved
new-rows-requires-clause-solved c =
    ap (λ (e : Values). e.is_solved) c.earliest.ensures ∙ c.executions.ensures.solved c.args.s.now (listing_of c.args.p.now) c.args.p.now c.requires.solution c.requires.solved

pub new-rows-requires-clause-earliest : goal.new-rows-requires-clause-earliest
new-rows-requires-clause-earliest c =
    let s = c.args.s.now in
    let l = listing_of c.args.p.now in
    subst (λ (h : GraphLists). IsEarliestOf h c.earliest.result.now.values) (sym c.graph.ensures)
    (subst (λ (e : Values). IsEarliestOf s.graph e.values) (sym c.earliest.ensures)
    (earliest_so s c.requires.solution.current (c.executions.ensures.solved s l c.args.p.now c.requires.solution c.requires.solved)))

pub new-rows-requires-clause-rows : goal.new-rows-requires-clause-rows
new-rows-requires-clause-rows c = subst (λ (h : GraphLists). AreRowsAt h c.args.case.now.first c.args.from.now c.args.to.now) (sym c.graph.ensures) c.requires.rows

pub write_ends-failed-requires-clause-stands : goal.write_ends-failed-requires-clause-stands
write_ends-failed-requires-clause-stands c =
    let p = c.args.p.now in
    let readings = c.readings.result.now in
    let same : c.new-rows.result.graph ≡ c.args.s.now.graph = ap (λ (r : RowLists). r.graph) c.new-rows.ensures ∙ c.graph.ensures in
    (p, readings, subst (λ (h : GraphLists). StandsForListed (listing_of p) p readings h) (sym same) (c.requires.solution.stands readings c.readings.ensures))

pub write_ends-failed-requires-clause-events : goal.write_ends-failed-requires-clause-events
write_ends-failed-requires-clause-events c =
    let p = c.args.p.now in
    let readings = c.readings.result.now in
    let own : c.new-rows.result.node ≡ c.args.case.now.first = ap (λ (r : RowLists). r.node) c.new-rows.ensures in
    subst (λ (node : ℕ). AreEventNodes (listing_of p) node c.args.case.now.second) (sym own) (
      c.args.case.now.first,
      c.args.case.now.second,
      (c.args.case.now.first, own_event p readings c.events.ensures.lawful c.readings.ensures c.args.case.now.first c.requires.first),
      (c.args.case.now.second, own_event p readings c.events.ensures.lawful c.readings.ensures c.args.case.now.second c.requires.second),
    )
