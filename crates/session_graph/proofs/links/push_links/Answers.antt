use Rattle.std.proofs.Common.{◌++◌, List, subst}
use Rattle.problem_model.specs.declared.items.Bound.{Bound}
use Rattle.roster.specs.Entering.{span_below, span_above, follow_before, follow_after}
use Rattle.roster.specs.Growing.{IsGrowing}
use Rattle.session_graph.proofs.Bringing.{brings_then, four_behind}
use Rattle.session_graph.proofs.Extending.{few_then}
use Rattle.session_graph.proofs.links.push_links.Goals as goal

pub returns-clause-brings : goal.returns-clause-brings
returns-clause-brings g c =
    let n = c.args.nearest.now in
    let over : List Bound = span_above c.args.reading.now.place c.args.reading.now.stamp n.above in
    let before : List Bound = follow_before c.args.reading.now.place c.args.reading.now.stamp n.earlier in
    let after : List Bound = follow_after c.args.reading.now.place c.args.reading.now.stamp n.later in
    brings_then (span_below c.args.reading.now.place c.args.reading.now.stamp n.below) (over ++ (before ++ after)) c.args.solver.now c.push_below.new.solver c.push_after.new.solver c.in_ok-push_below.ensures.brings
    (brings_then over (before ++ after) c.push_below.new.solver c.push_above.new.solver c.push_after.new.solver c.in_ok-push_above.ensures.brings
    (brings_then before after c.push_above.new.solver c.push_before.new.solver c.push_after.new.solver c.in_ok-push_before.ensures.brings c.in_ok-push_after.ensures.brings))

pub returns-clause-steps : goal.returns-clause-steps
returns-clause-steps g c =
    few_then c.args.solver.now c.push_below.new.solver c.push_after.new.solver c.args.steps.now c.push_below.new.steps c.push_after.new.steps c.in_ok-push_below.ensures.steps
    (few_then c.push_below.new.solver c.push_above.new.solver c.push_after.new.solver c.push_below.new.steps c.push_above.new.steps c.push_after.new.steps c.in_ok-push_above.ensures.steps
    (few_then c.push_above.new.solver c.push_before.new.solver c.push_after.new.solver c.push_above.new.steps c.push_before.new.steps c.push_after.new.steps c.in_ok-push_before.ensures.steps c.in_ok-push_after.ensures.steps))

pub returns-clause-left : goal.returns-clause-left
returns-clause-left g c = λ p entered rest clock follows beside left.
    let n = c.args.nearest.now in
    let under : List Bound = span_below c.args.reading.now.place c.args.reading.now.stamp n.below in
    let over : List Bound = span_above c.args.reading.now.place c.args.reading.now.stamp n.above in
    let before : List Bound = follow_before c.args.reading.now.place c.args.reading.now.stamp n.earlier in
    let after : List Bound = follow_after c.args.reading.now.place c.args.reading.now.stamp n.later in
    c.in_ok-push_after.ensures.left p entered rest follows beside.later
    (c.in_ok-push_before.ensures.left p entered (after ++ rest) follows beside.earlier
    (c.in_ok-push_above.ensures.left p entered (before ++ (after ++ rest)) clock
    (c.in_ok-push_below.ensures.left p entered (over ++ (before ++ (after ++ rest))) clock
    (subst (λ (bs : List Bound). IsGrowing p entered bs c.args.solver.now.graph) (four_behind under over before after rest) left))))
