use Rattle.std.proofs.Common.{inl, inr, sym, ◌∙◌}
use Rattle.queries.proofs.Hands.{some_held}
use Rattle.problem_commands.proofs.solve.write_solution.Goals as goal

pub returns-then-is_empty : goal.returns-then-is_empty
returns-then-is_empty g c = let text = c.write_earliest.ensures in (text.0, inl text.1, text.2)

pub returns-else-is_empty : goal.returns-else-is_empty
returns-else-is_empty g c =
    let s = c.args.solver.now in
    let cycle = c.contradiction-cycle in
    let held = some_held s cycle.result.now cycle.ensures.value (sym c.is_empty.ensures ∙ c.if-is_empty.false) in
    let text = c.write_contradiction.ensures c.args.p.now (s, c.requires, held, sym cycle.ensures.value) in
    (text.0, inr text.1, text.2)
