use Rattle.std.proofs.Common.{◌≡◌, ◌*◌, to_z, of_z, refl, ap, arith}
use Rattle.std.specs.Prelude.{ℤ, pos, neg_ℤ, ◌-ℤ◌}
use Rattle.std.proofs.lemmas.Int.{ints}
use mir.Syntax.{w128}
use Rattle.problem_model.specs.declared.items.Node.TheVariants as nodes
use Rattle.problem_model.specs.Bounds.{Constraint}
use Rattle.cert_check.specs.Widened.{with_delays}
use Rattle.cert_check.proofs.declared.quickest.Goals as goal

pub returns-clause-declares : goal.returns-clause-declares
returns-clause-declares c = λ p added at.
    let m = c.args.message.now in
    let weight : to_z w128 (of_z w128 (pos 0 -ℤ to_z w128 (of_z w128 c.delay_units.result))) ≡ neg_ℤ (pos (c.args.least * 1000000000)) = omega (arith, ints, c.delay_units.ensures.exact, c.delay_units.ensures.below) in
    let weighed = λ (w : ℤ). (let a : Constraint = record { from = nodes.Event m.receive; to = nodes.Event m.send; weight = w } in a) in
    (with_delays c.args.least added m, at, refl, refl, ap weighed weight)
