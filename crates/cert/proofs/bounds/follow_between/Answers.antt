use Rattle.std.proofs.Common.{rules, refl}
use Rattle.problem_model.specs.Bounds.{ComesAfter}
use Rattle.cert.proofs.Declaring.{follow_declared, follow_parts, read_at}
use Rattle.cert.proofs.bounds.follow_between.Goals as goal

pub returns-then-not-comes_after-clause-none : goal.returns-then-not-comes_after-clause-none
returns-then-not-comes_after-clause-none c = λ d.
    let after : ComesAfter c.args.p.now c.args.earlier c.args.later = (follow_parts c.args.p.now c.args.earlier c.args.s c.args.later c.args.t d).0 in
    search rules

pub returns-clause-some : goal.returns-clause-some
returns-clause-some c =
    let p = c.args.p.now in
    let after : ComesAfter p c.args.earlier c.args.later = search rules in
    let readings = c.readings.result.now in
    let first = read_at p readings c.args.earlier _ c.args.s c.readings.ensures (c.in_ok-_first.ensures.some readings c.readings.ensures) in
    let second = read_at p readings c.args.later _ c.args.t c.readings.ensures (c.in_ok-_second.ensures.some readings c.readings.ensures) in
    (refl, follow_declared p c.args.earlier c.args.s c.args.later c.args.t after first second)
