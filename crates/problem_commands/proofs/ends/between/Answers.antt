use Rattle.std.proofs.Common.{refl}
use Rattle.problem_commands.specs.Printing.{IsOnlyText}
use Rattle.problem_commands.specs.declared.status.Status.TheVariants.{UnknownName}
use Rattle.std.proofs.Common.{codes}
use Rattle.problem_commands.proofs.Printing.{closes_prints}
use Rattle.problem_commands.proofs.EventNames.{known_names, unknown_name}
use Rattle.problem_commands.proofs.ends.between.Goals as goal

pub returns-in_default : goal.returns-in_default
returns-in_default g c =
    unknown_name c.args.p.now c.args.names.now.first.now c.args.names.now.second.now _ _ c.finish.result c.in_default.ensures.none
    (closes_prints (IsOnlyText (codes "unknown event\n") UnknownName) (codes "unknown event\n") UnknownName c.finish.result _ _ (refl, refl) c.finish.ensures)

pub returns : goal.returns
returns g c = known_names c.args.p.now c.args.names.now.first.now c.args.names.now.second.now _ _ c.solve_for.result _ _ c.in-Some.ensures.some.0 c.in-Some.ensures.some.1 c.solve_for.ensures
