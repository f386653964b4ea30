use Rattle.std.proofs.Common.{refl, codes, ◌∙◌}
use Rattle.problem_commands.specs.Printing.{IsOnlyText}
use Rattle.commands.specs.Sessions.{declaration_line}
use Rattle.problem_commands.specs.declared.status.Status.TheVariants.{BadDecl, ReadFault}
use Rattle.problem_commands.proofs.Printing.{closes_prints, line_prints}
use Rattle.commands.proofs.sessions.refuse.Goals as goal

pub returns-in-Faulty : goal.returns-in-Faulty
returns-in-Faulty g c =
    let line = declaration_line c.in-Faulty.number c.in-Faulty.section c.in-Faulty.index in
    rw c.in-Faulty.is (line_prints (IsOnlyText line BadDecl) line c.as_slice.result.now BadDecl c.finish.result (g.O.Sink.told c.args.out.now) (g.O.Sink.told c.finish.new.out)
    (c.as_slice.ensures.value ∙ c.declaration_line.ensures) (refl, refl) c.finish.ensures)

pub returns-in-Unread : goal.returns-in-Unread
returns-in-Unread g c =
    rw c.in-Unread.is (closes_prints (IsOnlyText (codes "read fault\n") ReadFault) (codes "read fault\n") ReadFault c.finish-in-Unread.result (g.O.Sink.told c.args.out.now) (g.O.Sink.told c.finish-in-Unread.new.out)
    (refl, refl) c.finish-in-Unread.ensures)
