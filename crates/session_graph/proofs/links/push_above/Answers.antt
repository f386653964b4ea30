use Rattle.std.proofs.Common.{◌++◌, ℕ, Option, subst, sym}
use Rattle.problem_graph.proofs.OneMore.{on_ok}
use Rattle.roster.specs.Entering.{span_above}
use Rattle.roster.specs.Growing.{IsGrowing}
use Rattle.session_graph.specs.Pushes.{Brings}
use Rattle.session_graph.proofs.Bringing.{brings_none}
use Rattle.session_graph.proofs.Extending.{few_none}
use Rattle.session_graph.proofs.links.push_above.Goals as goal

pub returns-in-Some-clause-brings : goal.returns-in-Some-clause-brings
returns-in-Some-clause-brings g c = on_ok c.push_span.result c.push_span.ensures.brings (λ brings.
    subst (λ (o : Option ℕ). Brings (span_above c.args.reading.now.place c.args.reading.now.stamp o) c.args.solver.now c.push_span.new.solver) (sym c.in-Some.is) brings)

pub returns-in-Some-clause-left : goal.returns-in-Some-clause-left
returns-in-Some-clause-left g c = on_ok c.push_span.result c.push_span.ensures.left (λ left p entered rest at is.
    left p entered rest at (subst (λ (o : Option ℕ). IsGrowing p entered (span_above c.args.reading.now.place c.args.reading.now.stamp o ++ rest) c.args.solver.now.graph) c.in-Some.is is))

pub returns-in-None-clause-brings : goal.returns-in-None-clause-brings
returns-in-None-clause-brings g c = subst (λ (o : Option ℕ). Brings (span_above c.args.reading.now.place c.args.reading.now.stamp o) c.args.solver.now c.args.solver.now) (sym c.in-None.is) (brings_none c.args.solver.now c.requires.current)

pub returns-in-None-clause-steps : goal.returns-in-None-clause-steps
returns-in-None-clause-steps g c = few_none c.args.solver.now c.args.steps.now
