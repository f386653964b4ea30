use Rattle.std.proofs.Common.{subst}
use Rattle.earliest.specs.declared.inserted.Inserted.TheVariants.{Negative}
use Rattle.earliest.specs.Inserted.{IsInserted}
use Rattle.problem_solver.proofs.graphs.kept_or_cycle.Goals as goal

pub returns-in-Kept : goal.returns-in-Kept
returns-in-Kept c = λ g found. subst (IsInserted g c.args.e) c.in-Kept.is found

pub returns-in-Negative : goal.returns-in-Negative
returns-in-Negative c = λ g found.
    let negative : IsInserted g c.args.e (Negative c.in-Negative.steps) = subst (IsInserted g c.args.e) c.in-Negative.is found in
    (negative.1, negative.2)
