use Rattle.std.proofs.lemmas.Result.{IfOk-weaker}
use Rattle.replies.specs.Outcomes.{outcome_line}
use Rattle.replies.specs.Reply.{KeepReply}
use Rattle.session_answers.specs.Ready.{answers_problem}
use Rattle.session_answers.proofs.KeptNext.{kept_again, kept_now, kept_either, ready_after, unknown_kept}
use Rattle.session_answers.proofs.RosterEvents.{node_inside}
use Rattle.session_answers.proofs.kept_events.keep_event.Goals as goal

pub keep_new-requires-clause-current : goal.keep_new-requires-clause-current
keep_new-requires-clause-current g c = c.requires.ready.2.graph.solution.current

pub keep_new-requires-clause-node : goal.keep_new-requires-clause-node
keep_new-requires-clause-node g c = node_inside c.args.answers.now.graph.roster c.requires.ready.2.lawful c.args.answers.now.graph.solver.graph c.requires.ready.2.graph.grown.knows _ _ c.in-Some.ensures.some.known

pub keep_new-requires-clause-few : goal.keep_new-requires-clause-few
keep_new-requires-clause-few g c = c.requires.ready.1.few

pub keep_new-requires-clause-each : goal.keep_new-requires-clause-each
keep_new-requires-clause-each g c = c.requires.ready.2.slots.each

pub keep_new-requires-clause-rows : goal.keep_new-requires-clause-rows
keep_new-requires-clause-rows g c = c.requires.ready.2.rows

pub returns-in-Some-slot_of-clause-replies : goal.returns-in-Some-slot_of-clause-replies
returns-in-Some-slot_of-clause-replies g c = λ seen lawful are.
    kept_again seen c.args.kept.now.items c.args.answers.now are lawful c.args.name.now _ _ c.in-Some.ensures.some c.in-Some-slot_of.slot c.in-Some-slot_of.ensures

pub returns-in-None-slot_of-clause-replies : goal.returns-in-None-slot_of-clause-replies
returns-in-None-slot_of-clause-replies g c = λ seen lawful are.
    IfOk-weaker c.keep_new.result _ (λ outcome. KeepReply (answers_problem c.args.answers.now seen) seen c.args.kept.now.items c.args.name.now (outcome_line outcome) c.keep_new.new.kept.items)
    (λ outcome is. kept_now seen c.args.kept.now.items c.args.answers.now are lawful c.args.name.now _ _ c.in-Some.ensures.some c.keep_new.new.kept.items c.keep_new.new.solver outcome c.in-None-slot_of.ensures is)
    c.keep_new.ensures.kept

pub returns-in-None-slot_of-clause-kept : goal.returns-in-None-slot_of-clause-kept
returns-in-None-slot_of-clause-kept g c = λ seen lawful are.
    kept_either seen c.args.kept.now.items c.args.answers.now are lawful c.args.name.now _ _ c.in-Some.ensures.some c.keep_new.result c.keep_new.new.kept.items c.keep_new.new.solver c.in-None-slot_of.ensures
    c.keep_new.ensures.kept c.keep_new.ensures.err

pub returns-in-None-slot_of-clause-ready : goal.returns-in-None-slot_of-clause-ready
returns-in-None-slot_of-clause-ready g c =
    ready_after c.args.kept.now.items c.keep_new.new.kept.items c.args.answers.now c.args.name.now _ _ c.in-Some.ensures.some c.keep_new.result c.keep_new.new.solver c.keep_new.ensures.kept

pub returns-in-None-clause-replies : goal.returns-in-None-clause-replies
returns-in-None-clause-replies g c = λ seen lawful are. unknown_kept seen c.args.kept.now.items c.args.answers.now are c.args.name.now c.in-None.ensures.none
