use Rattle.std.proofs.Common.{inl, inr, refl}
use Rattle.solver.proofs.Staying.{leaves_all}
use Rattle.session_answers.proofs.AskedRows.{at_hand, event_called, none_called}
use Rattle.session_answers.proofs.times.ask_since.Goals as goal

pub write_since-requires-clause-solution : goal.write_since-requires-clause-solution
write_since-requires-clause-solution g c = c.requires.solution

pub write_since-requires-clause-event : goal.write_since-requires-clause-event
write_since-requires-clause-event g c =
    let x = event_called c.args.names.now c.find_event.ensures.lawful c.requires.solution.0 c.args.solver.now c.requires.solution.1 c.args.event.now _ _ c.in-Some.ensures.some in
    (x.0, x.2)

pub returns-in-Some-clause-writes : goal.returns-in-Some-clause-writes
returns-in-Some-clause-writes g c = λ p is.
    let x = event_called c.args.names.now c.find_event.ensures.lawful p c.args.solver.now is c.args.event.now _ _ c.in-Some.ensures.some in
    let t = c.write_since.ensures.writes p x.0 is x.2 in
    (t.0, inl (x.0, x.1, t.1), t.2)

pub returns-in-Some-clause-steps : goal.returns-in-Some-clause-steps
returns-in-Some-clause-steps g c = λ slot.
    c.write_since.ensures.steps (at_hand c.args.names.now c.find_event.ensures.lawful c.requires.solution.0 c.args.solver.now c.requires.solution.1 c.args.event.now _ _ c.in-Some.ensures.some slot)

pub returns-in-None-clause-writes : goal.returns-in-None-clause-writes
returns-in-None-clause-writes g c = λ p is.
    (_, inr (none_called c.args.names.now c.find_event.ensures.lawful p c.args.solver.now is c.args.event.now c.in-None.ensures.none, refl), c.write_refusal.ensures)

pub returns-in-None-clause-leaves : goal.returns-in-None-clause-leaves
returns-in-None-clause-leaves g c = leaves_all c.args.solver.now c.requires.solution.1.current
