use Rattle.std.proofs.Common.{◌∙◌, length, refl, sym, ap, subst}
use Rattle.ports.specs.Content.{WritesSuch}
use Rattle.ports.proofs.Writing.{such_of}
use Rattle.decl.specs.Declaration.{Declaration, IsDeclaration}
use Rattle.queries.specs.declared.stop.Stop.TheVariants as stops
use Rattle.roster.specs.Roster.{listed}
use Rattle.solver.specs.Solution.{IsSolutionBy}
use Rattle.traces.specs.Held.{missed_in, seen_in}
use Rattle.traces.specs.Messages.{problem_of_seen}
use Rattle.traces.proofs.Seen.{problem_lawful}
use Rattle.replies.specs.declared.command.Question.TheVariants as questions
use Rattle.replies.specs.Commands.{Compare, Time, Merge, Prove, Problem, question_seen}
use Rattle.replies.specs.Reply.{IsAnswerTo}
use Rattle.session_answers.specs.Ready.{answers_problem, declared}
use Rattle.session_answers.proofs.AskedRows.{answers_left}
use Rattle.session_answers.proofs.Engines.{spare_free, told}
use Rattle.session_graph.proofs.Held.{labels_many}
use Rattle.session_answers.specs.Keeping.{HasSlotBy}
use Rattle.session.proofs.Replying.{source_keeps, times_at_hand}
use Rattle.session.proofs.answers.answer.Goals as goal

pub ask_comparison-requires-clause-solution : goal.ask_comparison-requires-clause-solution
ask_comparison-requires-clause-solution g c = (answers_problem c.args.answers.now (seen_in c.args.accepted.now), c.requires.ready.1.graph.solution)

pub ask_comparison-requires-clause-free : goal.ask_comparison-requires-clause-free
ask_comparison-requires-clause-free g c = spare_free c.args.answers.now.graph.solver c.requires.ready.1.rows

pub returns-in-Compare-clause-writes : goal.returns-in-Compare-clause-writes
returns-in-Compare-clause-writes g c =
    let a = c.args.answers.now in
    let seen = seen_in c.args.accepted.now in
    let t = c.ask_comparison.ensures.writes (answers_problem a seen) c.requires.ready.1.graph.solution in
    rw c.in-Compare.is (such_of (IsAnswerTo (Compare c.in-Compare.asked c.in-Compare.first.now c.in-Compare.second.now) (declared a) seen (missed_in c.args.accepted.now)) t.1 (c.written.ensures.writes t.0 _ _ t.2))

pub returns-in-Compare-clause-ready : goal.returns-in-Compare-clause-ready
returns-in-Compare-clause-ready g c = λ kept are. answers_left (seen_in c.args.accepted.now) kept c.args.answers.now _ are c.ask_comparison.ensures.leaves

pub ask_proof-requires-clause-solution : goal.ask_proof-requires-clause-solution
ask_proof-requires-clause-solution g c = (answers_problem c.args.answers.now (seen_in c.args.accepted.now), c.requires.ready.1.graph.solution)

pub ask_proof-requires-clause-free : goal.ask_proof-requires-clause-free
ask_proof-requires-clause-free g c = spare_free c.args.answers.now.graph.solver c.requires.ready.1.rows

pub returns-in-Prove-clause-writes : goal.returns-in-Prove-clause-writes
returns-in-Prove-clause-writes g c =
    let a = c.args.answers.now in
    let seen = seen_in c.args.accepted.now in
    let t = c.ask_proof.ensures.writes (answers_problem a seen) c.requires.ready.1.graph.solution in
    rw c.in-Prove.is (such_of (IsAnswerTo (Prove c.in-Prove.first.now c.in-Prove.second.now) (declared a) seen (missed_in c.args.accepted.now)) t.1 (c.written-in-Prove.ensures.writes t.0 _ _ t.2))

pub returns-in-Prove-clause-ready : goal.returns-in-Prove-clause-ready
returns-in-Prove-clause-ready g c = λ kept are. answers_left (seen_in c.args.accepted.now) kept c.args.answers.now _ are c.ask_proof.ensures.leaves

pub ask_time-requires : goal.ask_time-requires
ask_time-requires g c =
    let are = c.requires.ready.1 in
    (answers_problem c.args.answers.now (seen_in c.args.accepted.now), are.graph.solution, ((declared c.args.answers.now).source, are.source_slot))

pub returns-in-Time-clause-writes : goal.returns-in-Time-clause-writes
returns-in-Time-clause-writes g c =
    let a = c.args.answers.now in
    let d = declared a in
    let seen = seen_in c.args.accepted.now in
    let are = c.requires.ready.1 in
    let t = c.ask_time.ensures (answers_problem a seen) d.source are.graph.solution (source_keeps d c.args.accepted.now are.lawful.declared) are.source_slot in
    rw c.in-Time.is (such_of (IsAnswerTo (Time c.in-Time.event.now) d seen (missed_in c.args.accepted.now)) t.1 (c.written-in-Time.ensures.writes t.0 _ _ t.2))

pub ask_times-requires-clause-solution : goal.ask_times-requires-clause-solution
ask_times-requires-clause-solution g c =
    let are = c.requires.ready.1 in
    (answers_problem c.args.answers.now (seen_in c.args.accepted.now), are.graph.solution, ((declared c.args.answers.now).source, are.source_slot))

pub ask_times-requires-clause-free : goal.ask_times-requires-clause-free
ask_times-requires-clause-free g c = spare_free c.args.answers.now.graph.solver c.requires.ready.1.rows

pub returns-in-Times-clause-writes : goal.returns-in-Times-clause-writes
returns-in-Times-clause-writes g c =
    let a = c.args.answers.now in
    let d = declared a in
    let seen = seen_in c.args.accepted.now in
    let are = c.requires.ready.1 in
    let t = c.ask_times.ensures.writes (answers_problem a seen) d.source are.graph.solution (source_keeps d c.args.accepted.now are.lawful.declared) are.source_slot in
    rw c.in-Times.is (such_of (IsAnswerTo (question_seen (questions.Times c.in-Times.since)) d seen (missed_in c.args.accepted.now)) t.1 (c.written-in-Times.ensures.writes t.0 _ _ t.2))

pub returns-in-Times-clause-ready : goal.returns-in-Times-clause-ready
returns-in-Times-clause-ready g c = λ kept are. answers_left (seen_in c.args.accepted.now) kept c.args.answers.now _ are c.ask_times.ensures.leaves

pub returns-in-Times-clause-steps : goal.returns-in-Times-clause-steps
returns-in-Times-clause-steps g c =
    rw c.in-Times.is (λ known. c.ask_times.ensures.steps (times_at_hand (HasSlotBy c.args.answers.now.graph.roster c.args.answers.now.graph.solver) c.in-Times.since known))

pub write_merge-requires-clause-declared : goal.write_merge-requires-clause-declared
write_merge-requires-clause-declared g c = subst IsDeclaration (sym c.decl.ensures.same) c.requires.ready.1.lawful.declared

pub write_merge-requires-clause-labels : goal.write_merge-requires-clause-labels
write_merge-requires-clause-labels g c = c.requires.labels ∙ ap (λ (d : Declaration). length d.labels) (sym c.decl.ensures.same)

pub write_merge-requires-clause-solution : goal.write_merge-requires-clause-solution
write_merge-requires-clause-solution g c =
    let a = c.args.answers.now in
    subst (λ (d : Declaration). IsSolutionBy (listed a.graph.roster) (problem_of_seen d (seen_in c.args.accepted.now)) a.graph.solver) (sym c.decl.ensures.same) c.requires.ready.1.graph.solution

pub returns-in-Merge-clause-writes : goal.returns-in-Merge-clause-writes
returns-in-Merge-clause-writes g c =
    rw c.in-Merge.is (subst (λ (d : Declaration). WritesSuch (IsAnswerTo Merge d (seen_in c.args.accepted.now) (missed_in c.args.accepted.now)) stops.WriteFault (g.O.Sink.told c.args.out.now) (g.O.Sink.told c.write_merge.new.out)
    c.write_merge.result) c.decl.ensures.same c.write_merge.ensures.writes)

pub write_report-requires-clause-ends : goal.write_report-requires-clause-ends
write_report-requires-clause-ends g c = c.requires.ready.1.ends

pub write_report-requires-clause-solution : goal.write_report-requires-clause-solution
write_report-requires-clause-solution g c = (listed c.args.answers.now.graph.roster, c.requires.ready.1.graph.solution)

pub returns-in-Report-clause-writes : goal.returns-in-Report-clause-writes
returns-in-Report-clause-writes g c = rw c.in-Report.is c.write_report.ensures.writes

pub write_roster-requires : goal.write_roster-requires
write_roster-requires g c =
    let a = c.args.answers.now in
    let graph = c.requires.ready.1.graph in
    record { told = (seen_in c.args.accepted.now, graph.holds, told (seen_in c.args.accepted.now) a.graph.roster a.graph.solver graph) }

pub returns-in-Problem-clause-writes : goal.returns-in-Problem-clause-writes
returns-in-Problem-clause-writes g c =
    let a = c.args.answers.now in
    let seen = seen_in c.args.accepted.now in
    let graph = c.requires.ready.1.graph in
    rw c.in-Problem.is (such_of (IsAnswerTo Problem (declared a) seen (missed_in c.args.accepted.now)) refl
    (c.written-in-Problem.ensures.writes _ _ _ (c.write_roster.ensures seen graph.holds (told seen a.graph.roster a.graph.solver graph))))

pub write_blame-requires : goal.write_blame-requires
write_blame-requires g c =
    let a = c.args.answers.now in
    let graph = c.requires.ready.1.graph in
    record { told = (seen_in c.args.accepted.now, graph.holds, told (seen_in c.args.accepted.now) a.graph.roster a.graph.solver graph) }

pub returns-in-Blame-clause-writes : goal.returns-in-Blame-clause-writes
returns-in-Blame-clause-writes g c =
    let r = c.args.answers.now.graph.roster in
    let seen = seen_in c.args.accepted.now in
    let are = c.requires.ready.1 in
    let lawful = problem_lawful r.declaration seen are.lawful.declared (labels_many r are.lawful seen are.graph.holds) c.requires.few are.graph.stamps in
    rw c.in-Blame.is (c.write_blame.ensures.writes seen are.graph.holds (told seen r c.args.answers.now.graph.solver are.graph) lawful)

pub write_thin-requires : goal.write_thin-requires
write_thin-requires g c =
    let a = c.args.answers.now in
    let graph = c.requires.ready.1.graph in
    record { told = (seen_in c.args.accepted.now, graph.holds, told (seen_in c.args.accepted.now) a.graph.roster a.graph.solver graph) }

pub returns-in-Thin-clause-writes : goal.returns-in-Thin-clause-writes
returns-in-Thin-clause-writes g c =
    let r = c.args.answers.now.graph.roster in
    let seen = seen_in c.args.accepted.now in
    let are = c.requires.ready.1 in
    let lawful = problem_lawful r.declaration seen are.lawful.declared (labels_many r are.lawful seen are.graph.holds) c.requires.few are.graph.stamps in
    rw c.in-Thin.is (c.write_thin.ensures.writes seen are.graph.holds (told seen r c.args.answers.now.graph.solver are.graph) lawful)
