use Rattle.sync_graph.proofs.Nearest.{last_on_some, none_on}
use Rattle.sync_graph.proofs.numbers.last_on.Goals as goal

pub returns-in-Some : goal.returns-in-Some
returns-in-Some c =
    let part = c.range.ensures.in_range tt in
    last_on_some c.args.index.now c.args.place c.in-Some.field-0-0.now c.in-Some.number.now (part.3 _ _ c.in-Some.ensures.steps) (part.4 _ _ c.in-Some.ensures.steps)

pub returns-in-None : goal.returns-in-None
returns-in-None c = none_on c.args.index.now c.args.place ((c.range.ensures.in_range tt).5 c.in-None.ensures.steps.0)
