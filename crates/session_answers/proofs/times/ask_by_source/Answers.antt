use Rattle.std.proofs.Common.{ℕ}
use Rattle.ports.specs.Content.{Writes}
use Rattle.replies.specs.AllTimes.{AreTimesBy, IsTimesText}
use Rattle.roster.specs.Roster.{listed}
use Rattle.session_answers.proofs.AskedRows.{by_source, source_known, source_refused}
use Rattle.session_answers.proofs.times.ask_by_source.Goals as goal

pub write_by_source-requires-clause-solution : goal.write_by_source-requires-clause-solution
write_by_source-requires-clause-solution g c = (c.requires.0, c.requires.1)

pub write_by_source-requires-clause-source : goal.write_by_source-requires-clause-source
write_by_source-requires-clause-source g c =
    let keeps = rw c.in-Some.is at c.requires.2.1 in
    let t = source_known (listed c.args.names.now) c.requires.0 c.requires.2.0 _ c.args.solver.now keeps in
    (t.0, t.2)

pub returns-in-Some : goal.returns-in-Some
returns-in-Some g c = λ p declared is true_time keeps.
    by_source (listed c.args.names.now) p declared _ c.args.solver.now (λ (clock : ℕ). IsTimesText p (AreTimesBy p clock))
    (λ text. Writes text (g.O.Sink.told c.args.out.now) (g.O.Sink.told c.write_by_source.new.out) c.write_by_source.result)
    is true_time (rw c.in-Some.is at keeps) (λ clock true_clock reads. c.write_by_source.ensures p clock is true_clock reads)

pub returns-in-None : goal.returns-in-None
returns-in-None g c = λ p declared is true_time keeps.
    source_refused (listed c.args.names.now) p declared c.args.solver.now (λ (clock : ℕ). IsTimesText p (AreTimesBy p clock))
    (λ text. Writes text (g.O.Sink.told c.args.out.now) (g.O.Sink.told c.write_refusal.new.out) c.write_refusal.result)
    (rw c.in-None.is at keeps) c.write_refusal.ensures
