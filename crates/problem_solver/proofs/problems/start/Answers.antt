use Rattle.std.proofs.Common.{length, ap, ◌∙◌}
use Rattle.row_pool.specs.Pool.{Pool, free_rows}
use Rattle.repair.specs.Slots.{KeptRows}
use Rattle.problem_solver.proofs.Bringing.{come_first, come_all, all_free, all_rows}
use Rattle.problem_solver.proofs.problems.start.Goals as goal

pub push_nodes-requires-clause-start : goal.push_nodes-requires-clause-start
push_nodes-requires-clause-start c =
    let rs = c.readings-readings.result.now in
    come_first c.args.p.now rs c.args.rows c.node_count.result c.new-s.result c.reserve.new.self c.new-s.ensures.graph c.reserve.ensures.answer c.reserve.ensures.current
    c.in_ok-reserve.ensures.pool c.in_ok-reserve.ensures.kept c.in_ok-reserve.ensures.front c.node_count.ensures.count

pub returns-clause-come : goal.returns-clause-come
returns-clause-come c = λ others are.
    come_all c.args.p.now c.readings-readings.result.now c.events.ensures.lawful c.readings-readings.ensures c.push_nodes.new.s c.in_ok-push_nodes.ensures.come others are

pub returns-clause-free : goal.returns-clause-free
returns-clause-free c = ap free_rows c.in_ok-push_nodes.ensures.pool ∙ all_free c.new-s.result.pool c.reserve.new.self.pool c.args.rows c.node_count.result c.new-s.ensures.rows c.in_ok-reserve.ensures.pool

pub returns-clause-count : goal.returns-clause-count
returns-clause-count c =
    ap (λ (v : Pool). length v.rows) c.in_ok-push_nodes.ensures.pool ∙ all_rows c.new-s.result.pool c.reserve.new.self.pool c.args.rows c.node_count.result c.new-s.ensures.rows c.in_ok-reserve.ensures.pool

pub returns-clause-slots : goal.returns-clause-slots
returns-clause-slots c =
    ap (λ (k : KeptRows). k.slots) c.in_ok-push_nodes.ensures.kept ∙ ap (λ (k : KeptRows). k.slots) c.in_ok-reserve.ensures.kept ∙ ap (λ (k : KeptRows). k.slots) c.new-s.ensures.kept

pub returns-clause-source : goal.returns-clause-source
returns-clause-source c =
    ap (λ (k : KeptRows). k.source) c.in_ok-push_nodes.ensures.kept ∙ ap (λ (k : KeptRows). k.source) c.in_ok-reserve.ensures.kept ∙ ap (λ (k : KeptRows). k.source) c.new-s.ensures.kept
