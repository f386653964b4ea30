use Rattle.std.proofs.Common.{refl, sym, subst}
use Rattle.widen.specs.Blame.{IsBlameText}
use Rattle.problem_commands.specs.Blame.{TellsBlame}
use Rattle.problem_commands.specs.declared.status.Status.TheVariants.{Done}
use Rattle.problem_commands.proofs.Printing.{closes_prints}
use Rattle.problem_commands.proofs.blame.answer.Goals as goal

pub returns-in-Ok : goal.returns-in-Ok
returns-in-Ok g c =
    closes_prints (TellsBlame c.args.p.now) c.deref.result.now Done c.finish.result (g.O.Sink.told c.args.out.now) (g.O.Sink.told c.finish.new.out)
    (refl, subst (IsBlameText c.args.p.now) (sym c.deref.ensures.value) c.in-Ok.ensures) c.finish.ensures
