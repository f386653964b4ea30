use Rattle.std.proofs.Common.{◌≡◌, arith, rules}
use Rattle.std.specs.Prelude.{◌-ℤ◌, ◌≤ℤ◌, ◌<ℤ◌}
use Rattle.std.proofs.lemmas.Int.{ints, to_z-of_z}
use mir.Syntax.{w128}
use mir.Val.{SFits}
use Rattle.cert_check.proofs.Judging.{one_obeyed, one_broken}
use Rattle.cert_check.proofs.verdict.judge.Goals as goal

pub returns-then-difference-weight-clause-verdict : goal.returns-then-difference-weight-clause-verdict
returns-then-difference-weight-clause-verdict c = λ p x a lawful declares weighs from to.
    let is : c.difference-difference.result ≡ (c.args.to -ℤ c.args.from) = c.difference-difference.ensures.exact in
    let obeyed : c.difference-difference.result ≤ℤ c.args.weight = omega (arith, ints) in
    one_obeyed p x c.args.bound a lawful declares (omega (arith, ints, weighs, from, to, is, obeyed))

pub returns-else-difference-weight-clause-verdict : goal.returns-else-difference-weight-clause-verdict
returns-else-difference-weight-clause-verdict c = λ p x a lawful declares weighs from to.
    let is : c.difference-difference.result ≡ (c.args.to -ℤ c.args.from) = c.difference-difference.ensures.exact in
    let broken : c.args.weight <ℤ c.difference-difference.result = omega (arith, ints) in
    let weight_fits : SFits w128 c.args.weight = c.ranges.weight in
    let difference_fits : SFits w128 c.difference-difference.result = search rules in
    let difference_is : (x a.to -ℤ x a.from) ≡ c.difference-difference.result = omega (arith, ints, from, to, is) in
    simp to_z-of_z (one_broken p x c.args.bound a c.args.weight c.difference-difference.result declares weighs difference_is broken)
