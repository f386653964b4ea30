use Rattle.std.proofs.Common.{◌≡◌, ◌+◌, ◌∙◌, ℕ, sym, subst, arith}
use Rattle.sync_graph.specs.declared.arc.Arc.{Arc}
use Rattle.sync_graph.specs.Graph.{arc_at}
use Rattle.cert.specs.Listed.{HasNames}
use Rattle.sync_graph.proofs.InForce.{in_force_below}
use Rattle.attain.specs.RowLists.{cells_for}
use Rattle.attain.proofs.Paths.{IsOnPath, IsStepFrom, path_starts, path_ends, path_past, step_from}
use Rattle.attain.proofs.RowFacts.{row_is}
use Rattle.attain.proofs.path.write_path.Goals as goal

pub loop-step-init : goal.loop-step-init
loop-step-init g c =
    let l = g.N.Listing.listed c.args.names.now in
    let r = c.args.rows.now in
    path_starts l c.args.side r.graph (cells_for c.args.side r) r.node c.args.q (g.O.Sink.told c.args.out.now) (row_is c.args.side r c.exact.ensures) c.requires.known

pub returns-then-node-p : goal.returns-then-node-p
returns-then-node-p g c =
    let l = g.N.Listing.listed c.args.names.now in
    let r = c.args.rows.now in
    path_ends l c.args.side r.graph (cells_for c.args.side r) r.node c.args.q (g.O.Sink.told c.args.out.now) c.loop-step.node c.loop-step._step (g.O.Sink.told c.loop-step.out) c.loop-step.invariant (c.if-node-p.true ∙ c.node-p.ensures)

pub parent_arc-arc-requires-clause-parent : goal.parent_arc-arc-requires-clause-parent
parent_arc-arc-requires-clause-parent g c =
    let l = g.N.Listing.listed c.args.names.now in
    let r = c.args.rows.now in
    let cells = cells_for c.args.side r in
    let away = subst (λ (p : ℕ). c.loop-step.node ≡ p → ⊥) c.node-p.ensures c.if-node-p.false in
    let step = step_from l c.args.side r.graph cells r.node c.args.q (g.O.Sink.told c.args.out.now) c.loop-step.node c.loop-step._step (g.O.Sink.told c.loop-step.out) c.loop-step.invariant away in
    in_force_below r.graph c.exact.ensures.graph (cells.parent c.loop-step.node) step.in_force

pub write_arc-requires : goal.write_arc-requires
write_arc-requires g c =
    let l = g.N.Listing.listed c.args.names.now in
    let r = c.args.rows.now in
    let cells = cells_for c.args.side r in
    let node = c.loop-step.node in
    let away = subst (λ (p : ℕ). node ≡ p → ⊥) c.node-p.ensures c.if-node-p.false in
    let step : IsStepFrom l c.args.side r.graph cells r.node c.args.q (g.O.Sink.told c.args.out.now) node c.loop-step._step (g.O.Sink.told c.loop-step.out) (arc_at r.graph.arcs (cells.parent node)) =
    step_from l c.args.side r.graph cells r.node c.args.q (g.O.Sink.told c.args.out.now) node c.loop-step._step (g.O.Sink.told c.loop-step.out) c.loop-step.invariant away in
    record { named = subst (λ (a : Arc). HasNames l a.name) (sym c.parent_arc-arc.ensures) (c.requires.named (cells.parent node) step.in_force) }

pub returns-in_err-write_arc : goal.returns-in_err-write_arc
returns-in_err-write_arc g c =
    let l = g.N.Listing.listed c.args.names.now in
    let r = c.args.rows.now in
    let cells = cells_for c.args.side r in
    let node = c.loop-step.node in
    let away = subst (λ (p : ℕ). node ≡ p → ⊥) c.node-p.ensures c.if-node-p.false in
    let step : IsStepFrom l c.args.side r.graph cells r.node c.args.q (g.O.Sink.told c.args.out.now) node c.loop-step._step (g.O.Sink.told c.loop-step.out) (arc_at r.graph.arcs (cells.parent node)) =
    step_from l c.args.side r.graph cells r.node c.args.q (g.O.Sink.told c.args.out.now) node c.loop-step._step (g.O.Sink.told c.loop-step.out) c.loop-step.invariant away in
    let step' = subst (IsStepFrom l c.args.side r.graph cells r.node c.args.q (g.O.Sink.told c.args.out.now) node c.loop-step._step (g.O.Sink.told c.loop-step.out)) (sym c.parent_arc-arc.ensures) step in
    step'.cut (g.O.Sink.told c.write_arc.new.out) _ c.from_residual.result c.from_residual.ensures.0 c.in_err-write_arc.ensures

pub loop-step-preserved : goal.loop-step-preserved
loop-step-preserved g c =
    let l = g.N.Listing.listed c.args.names.now in
    let r = c.args.rows.now in
    let cells = cells_for c.args.side r in
    let node = c.loop-step.node in
    let away = subst (λ (p : ℕ). node ≡ p → ⊥) c.node-p.ensures c.if-node-p.false in
    let step : IsStepFrom l c.args.side r.graph cells r.node c.args.q (g.O.Sink.told c.args.out.now) node c.loop-step._step (g.O.Sink.told c.loop-step.out) (arc_at r.graph.arcs (cells.parent node)) =
    step_from l c.args.side r.graph cells r.node c.args.q (g.O.Sink.told c.args.out.now) node c.loop-step._step (g.O.Sink.told c.loop-step.out) c.loop-step.invariant away in
    let step' = subst (IsStepFrom l c.args.side r.graph cells r.node c.args.q (g.O.Sink.told c.args.out.now) node c.loop-step._step (g.O.Sink.told c.loop-step.out)) (sym c.parent_arc-arc.ensures) step in
    subst (λ (n : ℕ). IsOnPath l c.args.side r.graph cells r.node c.args.q (g.O.Sink.told c.args.out.now) n (c.loop-step._step + 1) (g.O.Sink.told c.write_arc.new.out)) (sym c.next_node-node.ensures)
    (step'.on (g.O.Sink.told c.write_arc.new.out) _ c.in_ok-write_arc.ensures)

pub returns : goal.returns
returns g c =
    let l = g.N.Listing.listed c.args.names.now in
    let r = c.args.rows.now in
    let past = c.loop-step-test.false in
    absurd (path_past l c.args.side r.graph (cells_for c.args.side r) r.node c.args.q (g.O.Sink.told c.args.out.now) c.loop-step.node c.loop-step._step (g.O.Sink.told c.loop-step.out) c.loop-step.invariant (omega (arith, past, c.nodes-step-end.ensures)))
