use Rattle.ports.proofs.Keeping.{keeps_then}
use Rattle.problem_commands.proofs.Widenings.{judged_named, judge_stops, widening_stops, judged}
use Rattle.problem_commands.proofs.judge.judge.Goals as goal

pub answer-requires : goal.answer-requires
answer-requires g c = let found = c.in-Ok-judged_in.ensures.ok in judged_named found.0.what c.in-Ok.p found.0.widening c.in-Ok-judged_in.found c.events.ensures.lawful found.2.judged

pub returns-in-Err-clause-judged : goal.returns-in-Err-clause-judged
returns-in-Err-clause-judged g c =
    judge_stops c.args.problem.now c.args.widening.now _ _ _ (g.F.Files.told c.args.files.now) (g.F.Files.told c.problem_in.new.files) c.in-Err.unread c.in-Err.ensures.err c.stop.ensures

pub returns-in-Ok-judged_in-clause-judged : goal.returns-in-Ok-judged_in-clause-judged
returns-in-Ok-judged_in-clause-judged g c =
    let found = c.in-Ok-judged_in.ensures.ok in
    judged c.args.problem.now c.args.widening.now _ _ _ (g.F.Files.told c.args.files.now) (g.F.Files.told c.problem_in.new.files) (g.F.Files.told c.judged_in.new.files)
    c.in-Ok.p c.in-Ok.ensures.ok c.in-Ok.ensures.keeps found.0.what found.0.widening found.1 c.in-Ok-judged_in.found found.2 c.answer.ensures

pub returns-in-Ok-judged_in-clause-keeps : goal.returns-in-Ok-judged_in-clause-keeps
returns-in-Ok-judged_in-clause-keeps g c = keeps_then _ _ _ c.in-Ok.ensures.keeps c.in-Ok-judged_in.ensures.keeps

pub returns-clause-judged : goal.returns-clause-judged
returns-clause-judged g c =
    widening_stops c.args.problem.now c.args.widening.now _ _ _ (g.F.Files.told c.args.files.now) (g.F.Files.told c.problem_in.new.files) (g.F.Files.told c.judged_in.new.files)
    c.in-Ok.p c.in-Ok.ensures.ok c.in-Ok.ensures.keeps c.in-Err-judged_in.unread c.in-Err-judged_in.ensures.err c.stop-in-Err-judged_in.ensures
