use Rattle.std.proofs.Common.{◌≡◌, ◌+◌, ◌*◌, to_z, of_z, refl, ap, arith}
use Rattle.std.specs.Prelude.{ℤ, pos}
use Rattle.std.proofs.lemmas.Int.{ints}
use mir.Syntax.{w128}
use Rattle.problem_model.specs.declared.items.Node.TheVariants as nodes
use Rattle.problem_model.specs.Bounds.{Constraint}
use Rattle.cert_check.specs.Widened.{widened_most, with_delays}
use Rattle.cert_check.proofs.declared.slowest.Goals as goal

pub returns-clause-declares : goal.returns-clause-declares
returns-clause-declares c = λ p least at.
    let m = c.args.message.now in
    let e = c.args.added in
    let weight : to_z w128 (of_z w128 c.widened_units.result) ≡ pos ((c.args.most + e) * 1000000000) = omega (arith, ints, c.widened_units.ensures.exact, c.widened_units.ensures.below) in
    let weighed = λ (w : ℤ). (let a : Constraint = record { from = nodes.Event m.send; to = nodes.Event m.receive; weight = w } in a) in
    (with_delays least e m, c.args.most + e, at, refl, refl, ap (widened_most e) c.requires, ap weighed weight)
