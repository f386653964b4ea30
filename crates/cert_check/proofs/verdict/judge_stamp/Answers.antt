use Rattle.std.proofs.Common.{◌*◌, ◌∷◌, [], refl, arith}
use Rattle.std.specs.Prelude.{pos}
use Rattle.std.proofs.lemmas.Int.{ints}
use Rattle.problem_model.specs.declared.items.Bound.TheVariants.{Late, Early}
use Rattle.problem_model.specs.declared.items.Node.TheVariants as nodes
use Rattle.problem_model.specs.Bounds.{Constraint, early_of, late_of}
use Rattle.cert_check.proofs.Judging.{judges_on, judges_first}
use Rattle.cert_check.proofs.verdict.judge_stamp.Goals as goal

pub returns-in-Obeys-clause-verdict : goal.returns-in-Obeys-clause-verdict
returns-in-Obeys-clause-verdict c = λ p x lawful event clock reading time.
    let e = c.args.event.now in
    let late : Constraint = record { from = nodes.Reading e.clock e.stamp; to = nodes.Event c.args.place; weight = pos (late_of c.args.clock.now e * 1000000000) } in
    let early : Constraint = record { from = nodes.Event c.args.place; to = nodes.Reading e.clock e.stamp; weight = pos (early_of c.args.clock.now e * 1000000000) } in
    let late_is = rw c.late_of.ensures at c.delay_units.ensures.exact in
    let early_is = rw c.early_of.ensures at c.delay_units-in-Obeys.ensures.exact in
    judges_on p x (Late c.args.place ∷ []) (Early c.args.place ∷ []) c.judge-in-Obeys.result
    (rw c.in-Obeys.is at (c.judge.ensures.verdict p x late lawful (e, c.args.clock.now, event, clock, refl) (omega (arith, ints, late_is)) reading time))
    (c.judge-in-Obeys.ensures.verdict p x early lawful (e, c.args.clock.now, event, clock, refl) (omega (arith, ints, early_is)) time reading)

pub returns-in_default-clause-verdict : goal.returns-in_default-clause-verdict
returns-in_default-clause-verdict c = λ p x lawful event clock reading time.
    let e = c.args.event.now in
    let late : Constraint = record { from = nodes.Reading e.clock e.stamp; to = nodes.Event c.args.place; weight = pos (late_of c.args.clock.now e * 1000000000) } in
    let late_is = rw c.late_of.ensures at c.delay_units.ensures.exact in
    judges_first p x (Late c.args.place ∷ []) (Early c.args.place ∷ []) c.judge.result c.in_default.not-Obeys
    (c.judge.ensures.verdict p x late lawful (e, c.args.clock.now, event, clock, refl) (omega (arith, ints, late_is)) reading time)
