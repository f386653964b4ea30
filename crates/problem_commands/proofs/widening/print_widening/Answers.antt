use Rattle.std.proofs.Common.{refl}
use Rattle.widen.proofs.FoundTexts.{widening_of}
use Rattle.problem_commands.specs.Widening.{TellsLeast}
use Rattle.problem_commands.specs.declared.status.Status.TheVariants.{Done}
use Rattle.problem_commands.proofs.Printing.{written_prints, failed_prints}
use Rattle.problem_commands.proofs.Widenings.{least_text}
use Rattle.problem_commands.proofs.widening.print_widening.Goals as goal

pub write_widening-requires-clause-is : goal.write_widening-requires-clause-is
write_widening-requires-clause-is g c = widening_of c.args.what c.args.p.now c.args.w.now c.requires.found

pub returns-in-Ok : goal.returns-in-Ok
returns-in-Ok g c =
    let text = c.in-Ok.ensures in
    written_prints (TellsLeast c.args.p.now c.args.what) _ Done _ _ (refl, least_text c.args.p.now text.0 c.args.what c.args.w.now c.events.ensures.lawful text.1 c.requires.named c.requires.found) text.2

pub returns-in-Err : goal.returns-in-Err
returns-in-Err g c =
    let text = c.in-Err.ensures in
    failed_prints (TellsLeast c.args.p.now c.args.what) _ Done _ _ (refl, least_text c.args.p.now text.0 c.args.what c.args.w.now c.events.ensures.lawful text.1 c.requires.named c.requires.found) text.2
