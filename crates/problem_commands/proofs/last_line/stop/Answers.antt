use Rattle.std.proofs.Common.{refl, codes, ◌∙◌}
use Rattle.problem_commands.specs.Printing.{IsOnlyText}
use Rattle.problem_commands.specs.Refusal.{refused_text_line}
use Rattle.problem_commands.specs.declared.status.Status.TheVariants.{ReadFault}
use Rattle.problem_commands.proofs.Printing.{closes_prints, line_prints}
use Rattle.problem_commands.proofs.last_line.stop.Goals as goal

pub returns-in-Refused : goal.returns-in-Refused
returns-in-Refused g c =
    let line = refused_text_line c.args.kind.now c.in-Refused.refusal in
    rw c.in-Refused.is (line_prints (IsOnlyText line c.args.status) line c.as_slice.result.now c.args.status c.finish.result (g.O.Sink.told c.args.out.now) (g.O.Sink.told c.finish.new.out)
    (c.as_slice.ensures.value ∙ c.refusal_line.ensures) (refl, refl) c.finish.ensures)

pub returns-in-Fault : goal.returns-in-Fault
returns-in-Fault g c =
    rw c.in-Fault.is (closes_prints (IsOnlyText (codes "read fault\n") ReadFault) (codes "read fault\n") ReadFault c.finish-in-Fault.result (g.O.Sink.told c.args.out.now) (g.O.Sink.told c.finish-in-Fault.new.out)
    (refl, refl) c.finish-in-Fault.ensures)
