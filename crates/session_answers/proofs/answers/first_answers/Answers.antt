use Rattle.std.proofs.Common.{◌∙◌, ℕ, refl, ap}
use Rattle.row_pool.specs.Pool.{grown}
use Rattle.repair.specs.Slots.{KeptRows}
use Rattle.session_answers.proofs.Engines.{kept_stays}
use Rattle.session_answers.proofs.Beginning.{first_stands}
use Rattle.session_answers.proofs.answers.first_answers.Goals as goal

pub reserve-requires-clause-current : goal.reserve-requires-clause-current
reserve-requires-clause-current c = c.in_ok-graph.ensures.kept.solution.current

pub returns-clause-ready : goal.returns-clause-ready
returns-clause-ready c =
    let old = c.in_ok-graph.graph in
    let kept = c.in_ok-reserve.ensures.kept in
    first_stands (record { graph = record { roster = old.roster; matcher = old.matcher; solver = c.reserve.new.self }; source = _ }) old.solver c.decl.ensures.lawful
    (kept_stays _ old.roster old.solver c.reserve.new.self c.in_ok-reserve.ensures.answer c.in_ok-reserve.ensures.current c.in_ok-graph.ensures.kept) c.in_ok-graph.ensures.ends
    (ap (λ (k : KeptRows). k.slots) kept ∙ c.in_ok-graph.ensures.slots) (ap (λ (k : KeptRows). k.source) kept ∙ c.in_ok-graph.ensures.source) c.in_ok-graph.ensures.rows
    (c.in_ok-reserve.ensures.pool ∙ ap (λ (n : ℕ). grown old.solver.pool n 0) c.rows_for.ensures) refl
