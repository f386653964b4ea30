use Rattle.std.proofs.Common.{◌++◌, ℕ, List, refl}
use Rattle.commands.specs.Trials.{counts_line, Tried}
use Rattle.problem_commands.specs.declared.status.Status.TheVariants.{Done}
use Rattle.problem_commands.proofs.Printing.{written_prints, failed_prints}
use Rattle.commands.proofs.trials.tell.Goals as goal

pub returns-in-Ok : goal.returns-in-Ok
returns-in-Ok g c =
    let o = c.args.outcome.now in
    let text : List ℕ = counts_line c.args.number o.events o.messages ++ o.replies.held in
    written_prints (Tried c.args.number) text Done _ _ (refl, (o.events, o.messages, o.replies.held, c.requires, refl)) c.in-Ok.ensures

pub returns-in-Err : goal.returns-in-Err
returns-in-Err g c =
    let o = c.args.outcome.now in
    let text : List ℕ = counts_line c.args.number o.events o.messages ++ o.replies.held in
    failed_prints (Tried c.args.number) text Done _ _ (refl, (o.events, o.messages, o.replies.held, c.requires, refl)) c.in-Err.ensures
