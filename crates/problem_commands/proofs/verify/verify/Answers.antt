use Rattle.problem_commands.proofs.Naming.{answer_named}
use Rattle.problem_commands.proofs.Verifying.{problem_stops, certificate_stops, checked}
use Rattle.ports.proofs.Keeping.{keeps_then}
use Rattle.problem_commands.proofs.verify.verify.Goals as goal

pub answer-requires : goal.answer-requires
answer-requires g c = let found = c.in-Ok-answer_in.ensures.ok in answer_named c.in-Ok.p c.events.ensures.lawful found.0 c.in-Ok-answer_in.found found.2

pub returns-in-Err-clause-verified : goal.returns-in-Err-clause-verified
returns-in-Err-clause-verified g c =
    problem_stops c.args.problem.now c.args.cert.now _ _ _ (g.F.Files.told c.args.files.now) (g.F.Files.told c.problem_in.new.files) c.in-Err.unread c.in-Err.ensures.err c.stop.ensures

pub returns-in-Ok-answer_in-clause-verified : goal.returns-in-Ok-answer_in-clause-verified
returns-in-Ok-answer_in-clause-verified g c =
    let found = c.in-Ok-answer_in.ensures.ok in
    checked c.args.problem.now c.args.cert.now _ _ _ (g.F.Files.told c.args.files.now) (g.F.Files.told c.problem_in.new.files) (g.F.Files.told c.answer_in.new.files)
    c.in-Ok.p c.in-Ok.ensures.ok c.in-Ok.ensures.keeps c.events.ensures.lawful found.0 found.1 c.in-Ok-answer_in.found found.2 c.answer.ensures

pub returns-in-Ok-answer_in-clause-keeps : goal.returns-in-Ok-answer_in-clause-keeps
returns-in-Ok-answer_in-clause-keeps g c = keeps_then _ _ _ c.in-Ok.ensures.keeps c.in-Ok-answer_in.ensures.keeps

pub returns-clause-verified : goal.returns-clause-verified
returns-clause-verified g c =
    certificate_stops c.args.problem.now c.args.cert.now _ _ _ (g.F.Files.told c.args.files.now) (g.F.Files.told c.problem_in.new.files) (g.F.Files.told c.answer_in.new.files)
    c.in-Ok.p c.in-Ok.ensures.ok c.in-Ok.ensures.keeps c.in-Err-answer_in.unread c.in-Err-answer_in.ensures.err c.stop-in-Err-answer_in.ensures
