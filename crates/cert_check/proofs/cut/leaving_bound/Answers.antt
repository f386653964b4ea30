use Rattle.std.proofs.Common.{◌*◌, [], ◌∷◌, refl}
use Rattle.std.specs.Prelude.{pos, neg_ℤ}
use Rattle.problem_model.specs.declared.items.Node.TheVariants as nodes
use Rattle.problem_model.specs.declared.items.Bound.TheVariants.{DelayLeast}
use Rattle.problem_model.specs.Bounds.{Constraint}
use Rattle.problem_model.specs.ShortList.{most_bound}
use Rattle.cert_check.proofs.Cutting.{leaving_on, leaving_first}
use Rattle.cert_check.proofs.cut.leaving_bound.Goals as goal

pub returns-in-None : goal.returns-in-None
returns-in-None c = λ p inside lawful at send receive.
    let m = c.args.message.now in
    let a : Constraint = record { from = nodes.Event m.receive; to = nodes.Event m.send; weight = neg_ℤ (pos (m.least * 1000000000)) } in
    leaving_on p inside (most_bound m m.most) (DelayLeast m.send m.receive ∷ []) c.crossing.result (rw c.in-None.is at (c.leaving_most.ensures p inside lawful at send receive))
    (c.crossing.ensures p inside a lawful (m, at, refl, refl, refl) receive send)

pub returns-in_default : goal.returns-in_default
returns-in_default c = λ p inside lawful at send receive.
    let m = c.args.message.now in
    leaving_first p inside (most_bound m m.most) (DelayLeast m.send m.receive ∷ []) c.leaving_most.result c.in_default.not-None (c.leaving_most.ensures p inside lawful at send receive)
