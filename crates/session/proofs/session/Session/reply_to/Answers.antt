use Rattle.std.proofs.Common.{◌∙◌, Some}
use Rattle.ports.proofs.Writing.{writes_as}
use Rattle.replies.specs.Commands as asked
use Rattle.replies.specs.Commands.{question_seen}
use Rattle.replies.specs.Outcomes.{outcome_line}
use Rattle.session.proofs.Telling.{reply_as, reply_text}
use Rattle.session.proofs.Replying.{asked_written, line_written, stepped, stepped_unread, stepped_none}
use Rattle.session.proofs.Stepping.{rows_of_line, memory_of_line, keeps_no_addition, asks_no_addition, spells_no_addition}
use Rattle.session.proofs.session.Session.reply_to.Goals as goal

pub returns-in_ok-outcome-in-Some-Add-clause-writes : goal.returns-in_ok-outcome-in-Some-Add-clause-writes
returns-in_ok-outcome-in-Some-Add-clause-writes g c =
    let command = Some (asked.Add c.in-Some-Add.label.now c.in-Some-Add.path.now) in
    let line = outcome_line c.in_ok-outcome-in-Some-Add.outcome in
    reply_text (λ IsWritten written. stepped (g.F.Files.told c.args.files.now) (g.F.Files.told c.add.new.files) c.args.self.now c.add.new.self c.args.line.now command IsWritten
    c.requires.short (rw c.in-Some-Add.field-0-is at c.in-Some-Add.ensures)
    (line_written command (g.F.Files.told c.args.files.now) (g.F.Files.told c.add.new.files) c.args.self.now c.add.new.self line IsWritten c.in_ok-outcome-in-Some-Add.ensures.answers written))
    (writes_as (c.deref.ensures.0 ∙ c.line.ensures) c.write_line.ensures.writes)

pub returns-in_ok-outcome-in-Some-Keep-clause-writes : goal.returns-in_ok-outcome-in-Some-Keep-clause-writes
returns-in_ok-outcome-in-Some-Keep-clause-writes g c =
    let line = outcome_line c.in_ok-outcome-in-Some-Keep.outcome in
    reply_text (λ IsWritten written. stepped_unread (g.F.Files.told c.args.files.now) c.args.self.now c.keep.new.self c.args.line.now (asked.Keep c.in-Some-Keep.event.now) IsWritten
    c.requires.short (rw c.in-Some-Keep.field-0-is at c.in-Some-Keep.ensures)
    (asked_written c.args.self.now c.keep.new.self (asked.Keep c.in-Some-Keep.event.now) line IsWritten c.in_ok-outcome-in-Some-Keep.ensures.answers written))
    (writes_as (c.deref-in-Some-Keep.ensures.0 ∙ c.line-in-Some-Keep.ensures) c.write_line-in-Some-Keep.ensures.writes)

pub returns-in-Some-Ask-clause-writes : goal.returns-in-Some-Ask-clause-writes
returns-in-Some-Ask-clause-writes g c =
    reply_as (λ IsWritten. stepped_unread (g.F.Files.told c.args.files.now) c.args.self.now c.ask.new.self c.args.line.now (asked.Ask (question_seen c.in-Some-Ask.question)) IsWritten c.requires.short
    (rw c.in-Some-Ask.field-0-is at c.in-Some-Ask.ensures)) c.ask.ensures.writes

pub returns-in-Some-Ask-clause-memory : goal.returns-in-Some-Ask-clause-memory
returns-in-Some-Ask-clause-memory g c = λ fails. memory_of_line c.args.line.now (asked.Ask (question_seen c.in-Some-Ask.question)) (rw c.in-Some-Ask.field-0-is at c.in-Some-Ask.ensures) (c.ask.ensures.memory fails)

pub returns-in-Some-Ask-clause-steps : goal.returns-in-Some-Ask-clause-steps
returns-in-Some-Ask-clause-steps g c = λ asks. c.ask.ensures.steps (rows_of_line c.args.self.now c.args.line.now (question_seen c.in-Some-Ask.question) (rw c.in-Some-Ask.field-0-is at c.in-Some-Ask.ensures) asks)

pub returns-in-None-clause-writes : goal.returns-in-None-clause-writes
returns-in-None-clause-writes g c =
    reply_text (λ IsWritten. stepped_none (g.F.Files.told c.args.files.now) c.args.self.now c.args.line.now IsWritten c.requires.short c.in-None.ensures) (c.written.ensures.writes _ _ _ c.write_refusal.ensures)

pub returns-in_ok-outcome-in-Some-Keep-clause-addition : goal.returns-in_ok-outcome-in-Some-Keep-clause-addition
returns-in_ok-outcome-in-Some-Keep-clause-addition g c = keeps_no_addition c.args.line.now c.in-Some-Keep.event.now c.args.self.now c.keep.new.self c.args.steps.now c.keep.new.steps (rw c.in-Some-Keep.field-0-is at c.in-Some-Keep.ensures)

pub returns-in-Some-Ask-clause-addition : goal.returns-in-Some-Ask-clause-addition
returns-in-Some-Ask-clause-addition g c = asks_no_addition c.args.line.now (question_seen c.in-Some-Ask.question) c.args.self.now c.ask.new.self c.args.steps.now c.ask.new.steps (rw c.in-Some-Ask.field-0-is at c.in-Some-Ask.ensures)

pub returns-in-None-clause-addition : goal.returns-in-None-clause-addition
returns-in-None-clause-addition g c = spells_no_addition c.args.line.now c.args.self.now c.args.self.now c.args.steps.now c.args.steps.now c.in-None.ensures
