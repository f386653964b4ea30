use Rattle.std.proofs.Common.{refl}
use Rattle.problem_commands.specs.Thin.{TellsThin}
use Rattle.problem_commands.specs.declared.status.Status.TheVariants.{Done}
use Rattle.problem_commands.proofs.Printing.{written_prints, failed_prints}
use Rattle.problem_commands.proofs.Thinning.{tells}
use Rattle.problem_commands.proofs.thin.print_kept.Goals as goal

pub returns-in-Ok : goal.returns-in-Ok
returns-in-Ok g c = λ names known is. written_prints (TellsThin c.args.p.now names) _ Done _ _ (tells known is) c.in-Ok.ensures

pub returns-in-Err : goal.returns-in-Err
returns-in-Err g c = λ names known is. failed_prints (TellsThin c.args.p.now names) _ Done _ _ (tells known is) c.in-Err.ensures
