use Rattle.problem_model.specs.declared.items.Bound.TheVariants.{SpanMost, SpanLeast}
use Rattle.problem_model.specs.Bounds.{Constraint, Declares}
use Rattle.cert_check.specs.Widened.{widened}
use Rattle.cert_check.proofs.Widening.{reading_on}
use Rattle.cert_check.proofs.declared.declared_in.Goals as goal

pub returns-in-SpanMost-clause-declares : goal.returns-in-SpanMost-clause-declares
returns-in-SpanMost-clause-declares c =
    let p = c.args.p.now in
    let d : (a : Constraint) × Declares p (SpanMost c.in-SpanMost.clock c.in-SpanMost.s c.in-SpanMost.t) a = rw c.in-SpanMost.is at c.requires in
    rw c.in-SpanMost.is (c.longest.ensures.declares (widened c.args.what p c.args.extra) c.clock_in.ensures (reading_on c.args.what p c.args.extra _ _ d.1.2) (reading_on c.args.what p c.args.extra _ _ d.1.3))

pub returns-in-SpanLeast-clause-declares : goal.returns-in-SpanLeast-clause-declares
returns-in-SpanLeast-clause-declares c =
    let p = c.args.p.now in
    let d : (a : Constraint) × Declares p (SpanLeast c.in-SpanLeast.clock c.in-SpanLeast.s c.in-SpanLeast.t) a = rw c.in-SpanLeast.is at c.requires in
    rw c.in-SpanLeast.is (c.shortest.ensures.declares (widened c.args.what p c.args.extra) c.clock_in-in-SpanLeast.ensures (reading_on c.args.what p c.args.extra _ _ d.1.2) (reading_on c.args.what p c.args.extra _ _ d.1.3))
