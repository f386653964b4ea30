use Rattle.std.proofs.Common.{◌≡◌, ℕ, sym, ◌∙◌, ap, subst, inl}
use Rattle.earliest.specs.Values.{Values}
use Rattle.problem.specs.Listing.{all_readings}
use Rattle.sync_graph.specs.Graph.{GraphLists}
use Rattle.sync_graph.specs.InForce.{IsEarliestOf}
use Rattle.problem_graph.specs.ListedStanding.{StandsForListed, IsEventAt}
use Rattle.attain.specs.Ends.{AreRowsAt, AreEventNodes}
use Rattle.attain.specs.RowLists.{RowLists}
use Rattle.problem.proofs.OwnReadings.{own_readings}
use Rattle.queries.proofs.Solutions.{stands, earliest_so}
use Rattle.queries.proofs.prove.write_by.Goals as goal

pub new-rows-requires-clause-solved : goal.new-rows-requires-clause-solved
new-rows-requires-clause-solved g c =
    let asked = c.requires.asked in
    ap (λ (e : Values). e.is_solved) c.earliest.ensures ∙ c.executions.ensures.solved c.args.solver.now (g.N.Listing.listed c.args.names.now) asked.problem asked.solution asked.none

pub new-rows-requires-clause-earliest : goal.new-rows-requires-clause-earliest
new-rows-requires-clause-earliest g c =
    let l = g.N.Listing.listed c.args.names.now in
    let s = c.args.solver.now in
    let asked = c.requires.asked in
    subst (λ (h : GraphLists). IsEarliestOf h c.earliest.result.now.values) (sym c.graph.ensures)
    (subst (λ (e : Values). IsEarliestOf s.graph e.values) (sym c.earliest.ensures) (earliest_so l asked.problem s asked.solution (c.executions.ensures.solved s l asked.problem asked.solution asked.none)))

pub new-rows-requires-clause-rows : goal.new-rows-requires-clause-rows
new-rows-requires-clause-rows g c = subst (λ (h : GraphLists). AreRowsAt h c.args.events.0 c.args.from.now c.args.to.now) (sym c.graph.ensures) c.requires.rows

pub write_ends-requires-clause-stands : goal.write_ends-requires-clause-stands
write_ends-requires-clause-stands g c =
    let l = g.N.Listing.listed c.args.names.now in
    let p = c.requires.asked.problem in
    let same : c.new-rows.result.graph ≡ c.args.solver.now.graph = ap (λ (r : RowLists). r.graph) c.new-rows.ensures ∙ c.graph.ensures in
    (p, all_readings p.events, subst (λ (h : GraphLists). StandsForListed l p (all_readings p.events) h) (sym same) (stands l p c.args.solver.now c.requires.asked.solution))

pub write_ends-requires-clause-events : goal.write_ends-requires-clause-events
write_ends-requires-clause-events g c =
    let own : c.new-rows.result.node ≡ c.args.events.0 = ap (λ (r : RowLists). r.node) c.new-rows.ensures in
    subst (λ (node : ℕ). AreEventNodes (g.N.Listing.listed c.args.names.now) node c.args.events.1) (sym own) c.requires.asked.events

pub returns : goal.returns
returns g c = λ p i j solution at at'.
    let l = g.N.Listing.listed c.args.names.now in
    let s = c.args.solver.now in
    let rs = all_readings p.events in
    let are = own_readings p in
    let some = c.executions.ensures.earliest l p rs s are solution c.requires.asked.none in
    let text = c.write_ends.ensures in
    let same : c.new-rows.result.graph ≡ s.graph = ap (λ (r : RowLists). r.graph) c.new-rows.ensures ∙ c.graph.ensures in
    let own : c.new-rows.result.node ≡ c.args.events.0 = ap (λ (r : RowLists). r.node) c.new-rows.ensures in
    let its : StandsForListed l p rs c.new-rows.result.graph = subst (λ (h : GraphLists). StandsForListed l p rs h) (sym same) (stands l p s solution) in
    let first : IsEventAt l i c.new-rows.result.node = subst (IsEventAt l i) (sym own) at in
    (text.0, inl ((some.0, some.2.execution), (rs, are, text.1 p rs i j its first at')), text.2)
