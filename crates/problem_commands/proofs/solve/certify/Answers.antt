use Rattle.std.proofs.Common.{refl}
use Rattle.problem_commands.specs.Solve.{TellsSolution}
use Rattle.problem_commands.specs.declared.status.Status.TheVariants.{Done}
use Rattle.problem_commands.proofs.Printing.{written_prints, failed_prints}
use Rattle.problem_commands.proofs.solve.certify.Goals as goal

pub returns-in-Ok : goal.returns-in-Ok
returns-in-Ok g c = let text = c.in-Ok.ensures in written_prints (TellsSolution c.args.p.now) text.0 Done _ _ (refl, text.1) text.2

pub returns-in-Err : goal.returns-in-Err
returns-in-Err g c = let text = c.in-Err.ensures in failed_prints (TellsSolution c.args.p.now) text.0 Done _ _ (refl, text.1) text.2
