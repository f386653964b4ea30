use Rattle.std.proofs.Common.{inr, sym, ◌∙◌}
use Rattle.queries.proofs.Hands.{some_held, nothing_held}
use Rattle.session_answers.proofs.TimesTold.{time_tells, time_text}
use Rattle.session_answers.proofs.times.write_by_source.Goals as goal

pub write_times-requires : goal.write_times-requires
write_times-requires g c =
    let none = nothing_held c.args.solver.now c.contradiction-cycle.result.now c.contradiction-cycle.ensures.value (sym c.is_empty.ensures ∙ c.if-is_empty.true) in
    λ place node at. time_tells (g.N.Listing.listed c.args.names.now) c.requires.solution.0 c.args.solver.now c.requires.solution.1 none c.requires.source.0 c.args.stamp c.requires.source.1 place node at

pub write_contradiction-requires : goal.write_contradiction-requires
write_contradiction-requires g c =
    (c.requires.solution.0, (c.args.solver.now, c.requires.solution.1, some_held c.args.solver.now c.contradiction-cycle.result.now c.contradiction-cycle.ensures.value (sym c.is_empty.ensures ∙ c.if-is_empty.false), sym c.contradiction-cycle.ensures.value))

pub returns-then-is_empty : goal.returns-then-is_empty
returns-then-is_empty g c = λ p clock solution keeps source.
    let none = nothing_held c.args.solver.now c.contradiction-cycle.result.now c.contradiction-cycle.ensures.value (sym c.is_empty.ensures ∙ c.if-is_empty.true) in
    (_, time_text (g.N.Listing.listed c.args.names.now) p c.args.solver.now solution none clock c.args.stamp source keeps, c.write_times.ensures)

pub returns-else-is_empty : goal.returns-else-is_empty
returns-else-is_empty g c = λ p clock solution keeps source.
    let text = c.write_contradiction.ensures p (c.args.solver.now, solution, some_held c.args.solver.now c.contradiction-cycle.result.now c.contradiction-cycle.ensures.value (sym c.is_empty.ensures ∙ c.if-is_empty.false), sym c.contradiction-cycle.ensures.value) in
    (text.0, inr text.1, text.2)
