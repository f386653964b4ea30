use Rattle.std.proofs.Common.{◌∙◌}
use Rattle.sync_graph.proofs.Changes.{taken_back}
use Rattle.sync_graph.proofs.graph.push_all.Goals as goal

pub returns-in-Err-clause-err : goal.returns-in-Err-clause-err
returns-in-Err-clause-err c = (
  c.in-Err.ensures.err,
  c.pop_from.ensures ∙ taken_back c.args.leaving.now c.push_both.new.leaving c.args.a.from c.args.k c.requires.from c.in_ok-push_both.ensures.leaving,
  c.pop_from-in-Err.ensures ∙ taken_back c.args.arriving.now c.push_both.new.arriving c.args.a.to c.args.k c.requires.to c.in_ok-push_both.ensures.arriving,
)
