use Rattle.std.proofs.Common.{refl, inr, sym}
use Rattle.problem_commands.specs.Intervals.{TellsInterval}
use Rattle.problem_commands.specs.declared.status.Status.TheVariants.{Done}
use Rattle.problem_commands.proofs.Printing.{written_prints, failed_prints}
use Rattle.problem_commands.proofs.ends.contradict.Goals as goal

pub write_contradiction-requires : goal.write_contradiction-requires
write_contradiction-requires g c = (c.args.p.now, (c.args.solver.now, c.requires.solution, c.requires.held, sym c.contradiction.ensures.value))

pub returns-in-Ok : goal.returns-in-Ok
returns-in-Ok g c = λ from to.
    let text = c.in-Ok.ensures c.args.p.now (c.args.solver.now, c.requires.solution, c.requires.held, sym c.contradiction.ensures.value) in
    written_prints (TellsInterval c.args.p.now from to) text.0 Done _ _ (refl, inr text.1) text.2

pub returns-in-Err : goal.returns-in-Err
returns-in-Err g c = λ from to.
    let text = c.in-Err.ensures c.args.p.now (c.args.solver.now, c.requires.solution, c.requires.held, sym c.contradiction.ensures.value) in
    failed_prints (TellsInterval c.args.p.now from to) text.0 Done _ _ (refl, inr text.1) text.2
