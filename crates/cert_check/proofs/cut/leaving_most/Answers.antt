use Rattle.std.proofs.Common.{◌*◌, ℕ, Option, refl, sym, subst}
use Rattle.std.specs.Prelude.{pos}
use Rattle.problem_model.specs.declared.items.Node.TheVariants as nodes
use Rattle.problem_model.specs.Bounds.{Constraint}
use Rattle.problem_model.specs.ShortList.{most_bound}
use Rattle.cert_check.specs.Faults.{FindsLeaving}
use Rattle.cert_check.proofs.cut.leaving_most.Goals as goal

pub returns-in-Some : goal.returns-in-Some
returns-in-Some c = λ p inside lawful at send receive.
    let m = c.args.message.now in
    let a : Constraint = record { from = nodes.Event m.send; to = nodes.Event m.receive; weight = pos (c.in-Some.field-0 * 1000000000) } in
    subst (λ (o : Option ℕ). FindsLeaving p inside (most_bound m o) c.crossing.result) (sym c.in-Some.is) (c.crossing.ensures p inside a lawful (m, c.in-Some.field-0, at, refl, refl, c.in-Some.is, refl) send receive)
