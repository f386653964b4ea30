use Rattle.std.proofs.Common.{inr, refl}
use Rattle.ports.specs.Content.{Writes}
use Rattle.solver.proofs.Staying.{leaves_all}
use Rattle.queries.specs.Replies.{IsComparisonLine}
use Rattle.session_answers.proofs.AskedRows.{two_nodes, two_replied, either_unknown, pair_at_hand}
use Rattle.session_answers.proofs.questions.ask_comparison.Goals as goal

pub write_comparison-requires-clause-solution : goal.write_comparison-requires-clause-solution
write_comparison-requires-clause-solution g c = c.requires.solution

pub write_comparison-requires-clause-events : goal.write_comparison-requires-clause-events
write_comparison-requires-clause-events g c =
    let two = c.in-Some.ensures.some in
    two_nodes c.args.names.now c.two_events.ensures.lawful c.requires.solution.0 c.args.solver.now c.requires.solution.1 c.args.events.now.first.now c.args.events.now.second.now two.0.0 two.1.0 c.in-Some.from c.in-Some.to two.0.1 two.1.1

pub returns-in-Some-clause-writes : goal.returns-in-Some-clause-writes
returns-in-Some-clause-writes g c = λ p is.
    let two = c.in-Some.ensures.some in
    two_replied c.args.names.now c.two_events.ensures.lawful p c.args.solver.now is c.args.events.now.first.now c.args.events.now.second.now two.0.0 two.1.0 c.in-Some.from c.in-Some.to (IsComparisonLine c.args.asked p)
    (λ text. Writes text (g.O.Sink.told c.args.out.now) (g.O.Sink.told c.write_comparison.new.out) c.write_comparison.result) two.0.1 two.1.1 (λ i j here there. c.write_comparison.ensures.writes p i j is here there)

pub returns-in-Some-clause-steps : goal.returns-in-Some-clause-steps
returns-in-Some-clause-steps g c = λ slots.
    let two = c.in-Some.ensures.some in
    c.write_comparison.ensures.steps (pair_at_hand c.args.names.now c.two_events.ensures.lawful c.requires.solution.0 c.args.solver.now c.requires.solution.1 c.args.events.now.first.now c.args.events.now.second.now two.0.0 two.1.0 c.in-Some.from c.in-Some.to two.0.1 two.1.1 slots)

pub returns-in-None-clause-writes : goal.returns-in-None-clause-writes
returns-in-None-clause-writes g c = λ p is.
    (_, inr (either_unknown c.args.names.now c.two_events.ensures.lawful p c.args.solver.now is c.args.events.now.first.now c.args.events.now.second.now c.in-None.ensures.none, refl), c.write_refusal.ensures)

pub returns-in-None-clause-leaves : goal.returns-in-None-clause-leaves
returns-in-None-clause-leaves g c = leaves_all c.args.solver.now c.requires.solution.1.current
