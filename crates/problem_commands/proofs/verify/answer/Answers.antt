use Rattle.std.proofs.Common.{refl, codes, ◌∙◌}
use Rattle.problem_commands.specs.Printing.{IsOnlyText}
use Rattle.problem_commands.specs.Verify.{no_line}
use Rattle.problem_commands.specs.declared.status.Status.TheVariants.{Done, No}
use Rattle.problem_commands.proofs.Printing.{closes_prints, line_prints}
use Rattle.problem_commands.proofs.verify.answer.Goals as goal

pub returns-in-Yes : goal.returns-in-Yes
returns-in-Yes g c =
    rw c.in-Yes.is (closes_prints (IsOnlyText (codes "yes\n") Done) (codes "yes\n") Done c.finish.result (g.O.Sink.told c.args.out.now) (g.O.Sink.told c.finish.new.out) (refl, refl) c.finish.ensures)

pub returns-in-No : goal.returns-in-No
returns-in-No g c =
    let line = no_line c.args.p.now c.in-No.part c.in-No.reason in
    rw c.in-No.is (line_prints (IsOnlyText line No) line c.as_slice.result.now No c.finish-in-No.result (g.O.Sink.told c.args.out.now) (g.O.Sink.told c.finish-in-No.new.out)
    (c.as_slice.ensures.value ∙ c.no_line.ensures) (refl, refl) c.finish-in-No.ensures)
