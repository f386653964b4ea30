use Rattle.problem_commands.proofs.ends.conclude.Goals as goal

pub returns-else-is_empty : goal.returns-else-is_empty
returns-else-is_empty g c = c.contradict.ensures c.args.from c.args.to
