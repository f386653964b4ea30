use Rattle.std.proofs.Common.{◌∙◌, Some, None, refl, sym}
use Rattle.std.proofs.lemmas.Result.{IfOk-weaker}
use Rattle.mergecap.specs.Packets.{all_timed}
use Rattle.replies.specs.Commands as asked
use Rattle.replies.specs.Commands.{question_seen}
use Rattle.replies.specs.declared.refusal.Refusal.TheVariants.{NoCommand}
use Rattle.session.specs.declared.kept_packets.AddAnswer.TheVariants as answers
use Rattle.session.specs.Taking.{AsksToAdd, Takes}
use Rattle.session.proofs.TakingOver.{line_takes, line_refused, where_err}
use Rattle.session.proofs.session.Session.take_add.Goals as goal

pub returns-in-Some-Add-clause-takes : goal.returns-in-Some-Add-clause-takes
returns-in-Some-Add-clause-takes g c =
    IfOk-weaker c.take_file.result _
    (λ answer. Takes c.args.line.now (g.F.Files.told c.args.files.now) (g.F.Files.told c.take_file.new.files) c.args.self.now c.take_file.new.self
    (all_timed c.args.kept.now.items) (all_timed c.take_file.new.kept.items) answer)
    (λ answer. line_takes c.args.self.now c.take_file.new.self (g.F.Files.told c.args.files.now) (g.F.Files.told c.take_file.new.files) c.args.line.now c.in-Some-Add.label.now c.in-Some-Add.path.now
    (all_timed c.args.kept.now.items) (all_timed c.take_file.new.kept.items) answer (rw c.in-Some-Add.field-0-is at c.in-Some-Add.ensures))
    c.take_file.ensures.takes

pub returns-in-Some-Add-clause-memory : goal.returns-in-Some-Add-clause-memory
returns-in-Some-Add-clause-memory g c =
    where_err c.take_file.result (AsksToAdd c.args.line.now) (c.in-Some-Add.label.now, c.in-Some-Add.path.now, rw c.in-Some-Add.field-0-is at c.in-Some-Add.ensures)

pub returns-in-Some-Keep-clause-takes : goal.returns-in-Some-Keep-clause-takes
returns-in-Some-Keep-clause-takes g c =
    line_refused c.args.self.now (g.F.Files.told c.args.files.now) c.args.line.now (all_timed c.args.kept.now.items) (all_timed c.args.kept.now.items) (answers.Refused c.refused_text.result)
    (Some (asked.Keep c.in-Some-Keep.field-0-0.now)) (rw c.in-Some-Keep.field-0-is at c.in-Some-Keep.ensures) refl (λ old new text is. ((NoCommand, is), is ∙ sym c.refused_text.ensures, refl)) refl

pub returns-in-Some-Ask-clause-takes : goal.returns-in-Some-Ask-clause-takes
returns-in-Some-Ask-clause-takes g c =
    line_refused c.args.self.now (g.F.Files.told c.args.files.now) c.args.line.now (all_timed c.args.kept.now.items) (all_timed c.args.kept.now.items) (answers.Refused c.refused_text-in-Some-Ask.result)
    (Some (asked.Ask (question_seen c.in-Some-Ask.field-0-0))) (rw c.in-Some-Ask.field-0-is at c.in-Some-Ask.ensures) refl (λ old new text is. ((NoCommand, is), is ∙ sym c.refused_text-in-Some-Ask.ensures, refl)) refl

pub returns-in-None-clause-takes : goal.returns-in-None-clause-takes
returns-in-None-clause-takes g c =
    line_refused c.args.self.now (g.F.Files.told c.args.files.now) c.args.line.now (all_timed c.args.kept.now.items) (all_timed c.args.kept.now.items) (answers.Refused c.refused_text-in-None.result)
    None c.in-None.ensures refl (λ old new text is. ((NoCommand, is), is ∙ sym c.refused_text-in-None.ensures, refl)) refl
