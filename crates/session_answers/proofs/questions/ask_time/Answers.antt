use Rattle.std.proofs.Common.{inr, refl}
use Rattle.ports.specs.Content.{Writes}
use Rattle.roster.specs.Roster.{listed}
use Rattle.session_answers.proofs.AskedRows.{event_called, none_called, source_known, time_known, time_refused}
use Rattle.session_answers.proofs.questions.ask_time.Goals as goal

pub write_time-requires-clause-solution : goal.write_time-requires-clause-solution
write_time-requires-clause-solution g c = (c.requires.0, c.requires.1)

pub write_time-requires-clause-source : goal.write_time-requires-clause-source
write_time-requires-clause-source g c =
    let keeps = rw c.in-Some-source.is at c.requires.2.1 in
    let t = source_known (listed c.args.names.now) c.requires.0 c.requires.2.0 _ c.args.solver.now keeps in
    (t.0, t.2)

pub write_time-requires-clause-event : goal.write_time-requires-clause-event
write_time-requires-clause-event g c =
    let x = event_called c.args.names.now c.find_event.ensures.lawful c.requires.0 c.args.solver.now c.requires.1 c.args.event.now _ _ c.in-Some.ensures.some in
    (x.0, x.2)

pub returns-in-Some-source : goal.returns-in-Some-source
returns-in-Some-source g c = λ p declared is true_time keeps.
    let x = event_called c.args.names.now c.find_event.ensures.lawful p c.args.solver.now is c.args.event.now _ _ c.in-Some.ensures.some in
    time_known (listed c.args.names.now) p declared _ x.0 c.args.solver.now c.args.event.now (λ text. Writes text (g.O.Sink.told c.args.out.now) (g.O.Sink.told c.write_time.new.out) c.write_time.result)
    is x.1 true_time (rw c.in-Some-source.is at keeps) (λ clock true_clock reads. c.write_time.ensures p clock x.0 is true_clock reads x.2)

pub returns-in-None-source : goal.returns-in-None-source
returns-in-None-source g c = λ p declared is true_time keeps.
    let x = event_called c.args.names.now c.find_event.ensures.lawful p c.args.solver.now is c.args.event.now _ _ c.in-Some.ensures.some in
    time_refused (listed c.args.names.now) p declared x.0 c.args.solver.now c.args.event.now (λ text. Writes text (g.O.Sink.told c.args.out.now) (g.O.Sink.told c.write_refusal.new.out) c.write_refusal.result)
    x.1 (rw c.in-None-source.is at keeps) c.write_refusal.ensures

pub returns-in-None : goal.returns-in-None
returns-in-None g c = λ p declared is true_time keeps.
    (_, inr (none_called c.args.names.now c.find_event.ensures.lawful p c.args.solver.now is c.args.event.now c.in-None.ensures.none, refl), c.write_refusal-in-None.ensures)
