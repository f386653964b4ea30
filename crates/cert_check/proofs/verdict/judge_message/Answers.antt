use Rattle.std.proofs.Common.{◌*◌, ◌∷◌, [], refl, arith}
use Rattle.std.specs.Prelude.{pos, neg_ℤ}
use Rattle.std.proofs.lemmas.Int.{ints}
use Rattle.problem_model.specs.declared.items.Bound.TheVariants.{DelayLeast}
use Rattle.problem_model.specs.declared.items.Node.TheVariants as nodes
use Rattle.problem_model.specs.Bounds.{Constraint}
use Rattle.problem_model.specs.ShortList.{most_bound}
use Rattle.cert_check.specs.Widened.{with_delays}
use Rattle.cert_check.proofs.Judging.{judges_on, judges_first}
use Rattle.cert_check.proofs.verdict.judge_message.Goals as goal

pub returns-in-Obeys-clause-verdict : goal.returns-in-Obeys-clause-verdict
returns-in-Obeys-clause-verdict c = λ p x lawful at send receive.
    let m = c.args.message.now in
    let least = c.args.least in
    let a : Constraint = record { from = nodes.Event m.receive; to = nodes.Event m.send; weight = neg_ℤ (pos (least * 1000000000)) } in
    judges_on p x (most_bound m m.most) (DelayLeast m.send m.receive ∷ []) c.judge.result (rw c.in-Obeys.is at (c.judge_most.ensures.verdict p x least lawful at send receive))
    (c.judge.ensures.verdict p x a lawful (with_delays least c.args.added m, at, refl, refl, refl) (omega (arith, ints, c.delay_units.ensures.exact)) receive send)

pub returns-in_default-clause-verdict : goal.returns-in_default-clause-verdict
returns-in_default-clause-verdict c = λ p x lawful at send receive.
    let m = c.args.message.now in
    judges_first p x (most_bound m m.most) (DelayLeast m.send m.receive ∷ []) c.judge_most.result c.in_default.not-Obeys (c.judge_most.ensures.verdict p x c.args.least lawful at send receive)
