use Rattle.problem_model.proofs.OneList.{listed}
use Rattle.problem_commands.proofs.Naming.{verdict_named}
use Rattle.problem_commands.proofs.Obeying.{problem_stops, execution_stops, judged}
use Rattle.ports.proofs.Keeping.{keeps_then}
use Rattle.problem_commands.proofs.obey.obey.Goals as goal

pub answer-requires : goal.answer-requires
answer-requires g c =
    let each = c.in-Ok-execution_in.ensures.one_each in
    let times = listed c.in-Ok.p each.0 c.in-Ok-execution_in.e each.1 each.2 in
    verdict_named c.in-Ok.p c.events.ensures.lawful times.0 c.obeys.result (c.obeys.ensures.verdict times.0 times.1)

pub returns-in-Err-clause-obeyed : goal.returns-in-Err-clause-obeyed
returns-in-Err-clause-obeyed g c =
    problem_stops c.args.problem.now c.args.exec.now _ _ _ (g.F.Files.told c.args.files.now) (g.F.Files.told c.problem_in.new.files) c.in-Err.unread c.in-Err.ensures.err c.stop.ensures

pub returns-in-Err-execution_in-clause-obeyed : goal.returns-in-Err-execution_in-clause-obeyed
returns-in-Err-execution_in-clause-obeyed g c =
    execution_stops c.args.problem.now c.args.exec.now _ _ _ (g.F.Files.told c.args.files.now) (g.F.Files.told c.problem_in.new.files) (g.F.Files.told c.execution_in.new.files)
    c.in-Ok.p c.in-Ok.ensures.ok c.in-Ok.ensures.keeps c.in-Err-execution_in.unread c.in-Err-execution_in.ensures.err c.stop-in-Err-execution_in.ensures

pub returns-in-Err-execution_in-clause-keeps : goal.returns-in-Err-execution_in-clause-keeps
returns-in-Err-execution_in-clause-keeps g c = keeps_then _ _ _ c.in-Ok.ensures.keeps c.in-Err-execution_in.ensures.keeps

pub returns-clause-obeyed : goal.returns-clause-obeyed
returns-clause-obeyed g c =
    let each = c.in-Ok-execution_in.ensures.one_each in
    let times = listed c.in-Ok.p each.0 c.in-Ok-execution_in.e each.1 each.2 in
    judged c.args.problem.now c.args.exec.now _ _ _ (g.F.Files.told c.args.files.now) (g.F.Files.told c.problem_in.new.files) (g.F.Files.told c.execution_in.new.files)
    c.in-Ok.p c.in-Ok.ensures.ok c.in-Ok.ensures.keeps times.0 (c.in-Ok-execution_in.ensures.ok times.0 times.1) c.obeys.result (c.obeys.ensures.verdict times.0 times.1) c.answer.ensures

pub returns-clause-keeps : goal.returns-clause-keeps
returns-clause-keeps g c = keeps_then _ _ _ c.in-Ok.ensures.keeps c.in-Ok-execution_in.ensures.keeps
