use Rattle.std.proofs.Common.{subst}
use Rattle.problem_model.specs.Problem.{ProblemLists}
use Rattle.ports.specs.Content.{WritesSuch}
use Rattle.queries.specs.declared.stop.Stop.TheVariants as stops
use Rattle.thinning.specs.Named.{IsThinText}
use Rattle.replies.specs.Commands.{names_seen}
use Rattle.replies.specs.Reply.{OfEach}
use Rattle.session.proofs.thins.write_thin.Goals as goal

pub returns-clause-writes : goal.returns-clause-writes
returns-clause-writes g c = λ seen holds tells lawful.
    let names = names_seen c.args.events.now in
    subst (λ (p : ProblemLists). WritesSuch (OfEach p names (IsThinText p names)) stops.WriteFault (g.O.Sink.told c.args.out.now) (g.O.Sink.told c.write_text.new.out) c.write_text.result)
    (c.in_ok-p.ensures seen holds tells lawful) c.write_text.ensures.writes
