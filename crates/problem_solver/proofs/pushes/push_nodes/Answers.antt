use Rattle.std.proofs.Common.{◌≡◌, ◌+◌, ◌<◌, ◌++◌, ◌∷◌, List, length, drop, slice_get, Some, refl, ap, subst, arith, ◌∙◌}
use Rattle.std.proofs.lemmas.Option.{slice_get_read}
use Rattle.problem_model.specs.declared.items.Node.{Node}
use Rattle.problem_model.specs.declared.items.Node.TheVariants as nodes
use Rattle.problem_model.specs.Nodes.{Reading, event_nodes, reading_nodes}
use Rattle.solver.specs.Solver.{SolverLists}
use Rattle.problem_solver.specs.Pushing.{NodesCome}
use Rattle.problem_model.proofs.Walking.{nodes_more, drop_more}
use Rattle.problem_graph.proofs.Numbering.{next_new, next_room}
use Rattle.problem_solver.proofs.Bringing.{room_next, come_next}
use Rattle.problem_solver.proofs.pushes.push_nodes.Goals as goal

pub push_node-requires-clause-current : goal.push_node-requires-clause-current
push_node-requires-clause-current c =
    let p = c.args.p.now in
    let rs = c.args.readings.now in
    let k = c.loop-place.place in
    let len = ap length c.events-events.ensures.value in
    let inside : k < length p.events = omega (arith, len, c.loop-place-test.true) in
    let rest : List Node = event_nodes (k + 1) (drop (k + 1) p.events) ++ reading_nodes rs in
    let come : NodesCome p rs (nodes.Event k ∷ rest) c.loop-place.s = subst (λ (ns : List Node). NodesCome p rs (ns ++ reading_nodes rs) c.loop-place.s) (nodes_more k p.events k inside) c.loop-place.invariant.come in
    come.current

pub push_node-requires-clause-new : goal.push_node-requires-clause-new
push_node-requires-clause-new c =
    let p = c.args.p.now in
    let rs = c.args.readings.now in
    let k = c.loop-place.place in
    let len = ap length c.events-events.ensures.value in
    let inside : k < length p.events = omega (arith, len, c.loop-place-test.true) in
    let rest : List Node = event_nodes (k + 1) (drop (k + 1) p.events) ++ reading_nodes rs in
    let come : NodesCome p rs (nodes.Event k ∷ rest) c.loop-place.s = subst (λ (ns : List Node). NodesCome p rs (ns ++ reading_nodes rs) c.loop-place.s) (nodes_more k p.events k inside) c.loop-place.invariant.come in
    next_new p rs (nodes.Event k) rest c.loop-place.s.graph come.left c.requires.readings

pub push_node-requires-clause-few : goal.push_node-requires-clause-few
push_node-requires-clause-few c =
    let p = c.args.p.now in
    let rs = c.args.readings.now in
    let k = c.loop-place.place in
    let len = ap length c.events-events.ensures.value in
    let inside : k < length p.events = omega (arith, len, c.loop-place-test.true) in
    let rest : List Node = event_nodes (k + 1) (drop (k + 1) p.events) ++ reading_nodes rs in
    let come : NodesCome p rs (nodes.Event k ∷ rest) c.loop-place.s = subst (λ (ns : List Node). NodesCome p rs (ns ++ reading_nodes rs) c.loop-place.s) (nodes_more k p.events k inside) c.loop-place.invariant.come in
    next_room p rs (nodes.Event k) rest c.loop-place.s.graph come.left c.events-events.ensures.lawful c.requires.readings

pub push_node-requires-clause-room : goal.push_node-requires-clause-room
push_node-requires-clause-room c =
    let p = c.args.p.now in
    let rs = c.args.readings.now in
    let k = c.loop-place.place in
    let len = ap length c.events-events.ensures.value in
    let inside : k < length p.events = omega (arith, len, c.loop-place-test.true) in
    let rest : List Node = event_nodes (k + 1) (drop (k + 1) p.events) ++ reading_nodes rs in
    let come : NodesCome p rs (nodes.Event k ∷ rest) c.loop-place.s = subst (λ (ns : List Node). NodesCome p rs (ns ++ reading_nodes rs) c.loop-place.s) (nodes_more k p.events k inside) c.loop-place.invariant.come in
    room_next p rs (nodes.Event k) rest c.loop-place.s come

pub loop-place-preserved : goal.loop-place-preserved
loop-place-preserved c =
    let p = c.args.p.now in
    let rs = c.args.readings.now in
    let k = c.loop-place.place in
    let len = ap length c.events-events.ensures.value in
    let inside : k < length p.events = omega (arith, len, c.loop-place-test.true) in
    let rest : List Node = event_nodes (k + 1) (drop (k + 1) p.events) ++ reading_nodes rs in
    let come : NodesCome p rs (nodes.Event k ∷ rest) c.loop-place.s = subst (λ (ns : List Node). NodesCome p rs (ns ++ reading_nodes rs) c.loop-place.s) (nodes_more k p.events k inside) c.loop-place.invariant.come in
    record {
      come = come_next p rs (nodes.Event k) rest c.loop-place.s come c.push_node.new.self c.in_ok-push_node.ensures.ok c.in_ok-push_node.ensures.current;
      pool = ap (λ (v : SolverLists). v.pool) c.in_ok-push_node.ensures.ok ∙ c.loop-place.invariant.pool;
      kept = ap (λ (v : SolverLists). v.kept) c.in_ok-push_node.ensures.ok ∙ c.loop-place.invariant.kept;
    }

pub push_node-requires-in-loop-reading-clause-current : goal.push_node-requires-in-loop-reading-clause-current
push_node-requires-in-loop-reading-clause-current c =
    let p = c.args.p.now in
    let rs = c.args.readings.now in
    let k = c.loop-reading.reading-index in
    let r = c.reading-item.result in
    let at : slice_get {X = Reading} rs k ≡ Some r = slice_get_read rs (length rs) k r refl c.loop-reading-test.true c.reading-item.is in
    let rest : List Node = reading_nodes (drop (k + 1) rs) in
    let come : NodesCome p rs (nodes.Reading r.0 r.1 ∷ rest) c.loop-reading.s = subst (λ (l : List Reading). NodesCome p rs (reading_nodes l) c.loop-reading.s) (drop_more rs k r at) c.loop-reading.invariant.come in
    come.current

pub push_node-requires-in-loop-reading-clause-new : goal.push_node-requires-in-loop-reading-clause-new
push_node-requires-in-loop-reading-clause-new c =
    let p = c.args.p.now in
    let rs = c.args.readings.now in
    let k = c.loop-reading.reading-index in
    let r = c.reading-item.result in
    let at : slice_get {X = Reading} rs k ≡ Some r = slice_get_read rs (length rs) k r refl c.loop-reading-test.true c.reading-item.is in
    let rest : List Node = reading_nodes (drop (k + 1) rs) in
    let come : NodesCome p rs (nodes.Reading r.0 r.1 ∷ rest) c.loop-reading.s = subst (λ (l : List Reading). NodesCome p rs (reading_nodes l) c.loop-reading.s) (drop_more rs k r at) c.loop-reading.invariant.come in
    next_new p rs (nodes.Reading r.0 r.1) rest c.loop-reading.s.graph come.left c.requires.readings

pub push_node-requires-in-loop-reading-clause-few : goal.push_node-requires-in-loop-reading-clause-few
push_node-requires-in-loop-reading-clause-few c =
    let p = c.args.p.now in
    let rs = c.args.readings.now in
    let k = c.loop-reading.reading-index in
    let r = c.reading-item.result in
    let at : slice_get {X = Reading} rs k ≡ Some r = slice_get_read rs (length rs) k r refl c.loop-reading-test.true c.reading-item.is in
    let rest : List Node = reading_nodes (drop (k + 1) rs) in
    let come : NodesCome p rs (nodes.Reading r.0 r.1 ∷ rest) c.loop-reading.s = subst (λ (l : List Reading). NodesCome p rs (reading_nodes l) c.loop-reading.s) (drop_more rs k r at) c.loop-reading.invariant.come in
    next_room p rs (nodes.Reading r.0 r.1) rest c.loop-reading.s.graph come.left c.events-events.ensures.lawful c.requires.readings

pub push_node-requires-in-loop-reading-clause-room : goal.push_node-requires-in-loop-reading-clause-room
push_node-requires-in-loop-reading-clause-room c =
    let p = c.args.p.now in
    let rs = c.args.readings.now in
    let k = c.loop-reading.reading-index in
    let r = c.reading-item.result in
    let at : slice_get {X = Reading} rs k ≡ Some r = slice_get_read rs (length rs) k r refl c.loop-reading-test.true c.reading-item.is in
    let rest : List Node = reading_nodes (drop (k + 1) rs) in
    let come : NodesCome p rs (nodes.Reading r.0 r.1 ∷ rest) c.loop-reading.s = subst (λ (l : List Reading). NodesCome p rs (reading_nodes l) c.loop-reading.s) (drop_more rs k r at) c.loop-reading.invariant.come in
    room_next p rs (nodes.Reading r.0 r.1) rest c.loop-reading.s come

pub loop-reading-preserved : goal.loop-reading-preserved
loop-reading-preserved c =
    let p = c.args.p.now in
    let rs = c.args.readings.now in
    let k = c.loop-reading.reading-index in
    let r = c.reading-item.result in
    let at : slice_get {X = Reading} rs k ≡ Some r = slice_get_read rs (length rs) k r refl c.loop-reading-test.true c.reading-item.is in
    let rest : List Node = reading_nodes (drop (k + 1) rs) in
    let come : NodesCome p rs (nodes.Reading r.0 r.1 ∷ rest) c.loop-reading.s = subst (λ (l : List Reading). NodesCome p rs (reading_nodes l) c.loop-reading.s) (drop_more rs k r at) c.loop-reading.invariant.come in
    record {
      come = come_next p rs (nodes.Reading r.0 r.1) rest c.loop-reading.s come c.push_node-in-loop-reading.new.self c.in_ok-push_node-2.ensures.ok c.in_ok-push_node-2.ensures.current;
      pool = ap (λ (v : SolverLists). v.pool) c.in_ok-push_node-2.ensures.ok ∙ c.loop-reading.invariant.pool;
      kept = ap (λ (v : SolverLists). v.kept) c.in_ok-push_node-2.ensures.ok ∙ c.loop-reading.invariant.kept;
    }
