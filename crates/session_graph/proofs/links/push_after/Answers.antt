use Rattle.std.proofs.Common.{ℕ, ◌++◌, Option, subst}
use Rattle.std.specs.Prelude.{IfSome}
use Rattle.problem_model.specs.Bounds.{ComesAfter}
use Rattle.problem_graph.proofs.OneMore.{on_ok}
use Rattle.roster.specs.Entering.{follow_after}
use Rattle.roster.specs.Growing.{IsGrowing}
use Rattle.session_graph.proofs.HostClocks.{follow_to}
use Rattle.session_graph.proofs.Extending.{few_none}
use Rattle.session_graph.proofs.links.push_after.Goals as goal

pub returns-in-Some-clause-left : goal.returns-in-Some-clause-left
returns-in-Some-clause-left g c = on_ok c.push_follow.result c.push_follow.ensures.left (λ left p entered rest follows beside is.
    let after : ComesAfter p c.args.reading.now.place c.in-Some.first.0 = subst (λ (o : Option (ℕ × ℕ)). IfSome o (λ e. ComesAfter p c.args.reading.now.place e.0)) c.in-Some.is beside in
    let f = follow_to c.args.roster.now.declaration p c.args.reading.now.place c.in-Some.first.0 c.gap_of-gap.result follows after c.gap_of-gap.ensures in
    left p entered rest f.0 f.1 f.2 f.3 after (subst (λ (o : Option (ℕ × ℕ)). IsGrowing p entered (follow_after c.args.reading.now.place c.args.reading.now.stamp o ++ rest) c.args.solver.now.graph) c.in-Some.is is))

pub returns-in-None-clause-steps : goal.returns-in-None-clause-steps
returns-in-None-clause-steps g c = few_none c.args.solver.now c.args.steps.now
