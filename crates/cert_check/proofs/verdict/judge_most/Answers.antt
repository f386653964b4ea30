use Rattle.std.proofs.Common.{◌*◌, ◌+◌, refl, ap, arith}
use Rattle.std.specs.Prelude.{pos}
use Rattle.std.proofs.lemmas.Int.{ints}
use Rattle.problem_model.specs.declared.items.Node.TheVariants as nodes
use Rattle.problem_model.specs.Bounds.{Constraint}
use Rattle.cert_check.specs.Widened.{widened_most, with_delays}
use Rattle.cert_check.proofs.verdict.judge_most.Goals as goal

pub returns-in-Some-clause-verdict : goal.returns-in-Some-clause-verdict
returns-in-Some-clause-verdict c = λ p x least lawful at send receive.
    let m = c.args.message.now in
    let e = c.args.added in
    let a : Constraint = record { from = nodes.Event m.send; to = nodes.Event m.receive; weight = pos ((c.in-Some.most + e) * 1000000000) } in
    rw c.in-Some.is (c.judge.ensures.verdict p x a lawful
    (with_delays least e m, c.in-Some.most + e, at, refl, refl, ap (widened_most e) c.in-Some.is, refl) (omega (arith, ints, c.widened_units.ensures.exact)) send receive)
