use Rattle.std.proofs.Common.{sym, subst}
use Rattle.session.specs.Script.{devices}
use Rattle.commands.specs.Asked.{Asked, ReadsNoFile, ReadsNoScript}
use Rattle.commands.specs.Runs.{Answers, Notes}
use Rattle.commands.proofs.Completing.{all_answered}
use Rattle.commands.proofs.program.run.Goals as goal

pub returns-clause-answers : goal.returns-clause-answers
returns-clause-answers g c =
    subst (λ (a : Asked). Answers a (devices (g.F.Files.told c.args.files.now) (g.I.Source.told c.args.input.now) (g.O.Sink.told c.args.out.now))
    (devices (g.F.Files.told c.run_counted.new.files) (g.I.Source.told c.run_counted.new.input) (g.O.Sink.told c.run_counted.new.out)) c.run_counted.result)
    c.request_of-request.ensures c.run_counted.ensures.answers

pub returns-clause-notes : goal.returns-clause-notes
returns-clause-notes g c =
    subst (λ (a : Asked). Notes a (devices (g.F.Files.told c.args.files.now) (g.I.Source.told c.args.input.now) (g.O.Sink.told c.args.out.now))
    (devices (g.F.Files.told c.run_counted.new.files) (g.I.Source.told c.run_counted.new.input) (g.O.Sink.told c.run_counted.new.out))
    (g.N.Sink.told c.args.notes.now) (g.N.Sink.told c.run_counted.new.notes) c.run_counted.result)
    c.request_of-request.ensures c.run_counted.ensures.notes

pub returns-clause-unread : goal.returns-clause-unread
returns-clause-unread g c = λ none. c.run_counted.ensures.unread (subst ReadsNoFile (sym c.request_of-request.ensures) none)

pub returns-clause-input : goal.returns-clause-input
returns-clause-input g c = λ none. c.run_counted.ensures.input (subst ReadsNoScript (sym c.request_of-request.ensures) none)

pub returns-clause-complete : goal.returns-clause-complete
returns-clause-complete g c = λ lawful none. all_answered (record { one = c.problem_answers_are_one.ensures.one; found = c.problem_answers_are_one.ensures.found }) _ _ _ _
    (returns-clause-answers g c) lawful none
