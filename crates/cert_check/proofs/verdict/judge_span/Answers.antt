use Rattle.std.proofs.Common.{◌-◌, ◌∷◌, [], refl, arith}
use Rattle.std.specs.Prelude.{pos, neg_ℤ}
use Rattle.std.proofs.lemmas.Int.{ints}
use Rattle.atto.specs.Span.{most_of, least_of}
use Rattle.problem_model.specs.declared.items.Bound.TheVariants.{SpanMost, SpanLeast}
use Rattle.problem_model.specs.declared.items.Node.TheVariants as nodes
use Rattle.problem_model.specs.Bounds.{Constraint}
use Rattle.cert_check.proofs.Judging.{judges_on, judges_first, on_one_clock}
use Rattle.cert_check.proofs.verdict.judge_span.Goals as goal

pub returns-in-Obeys-clause-verdict : goal.returns-in-Obeys-clause-verdict
returns-in-Obeys-clause-verdict c = λ p x lawful at is_s is_t from to.
    let k = c.args.clock.now in
    let most : Constraint = record { from = nodes.Reading c.args.place c.args.s; to = nodes.Reading c.args.place c.args.t; weight = pos (most_of k.rate (c.args.t - c.args.s)) } in
    let least : Constraint = record { from = nodes.Reading c.args.place c.args.t; to = nodes.Reading c.args.place c.args.s; weight = neg_ℤ (pos (least_of k.rate (c.args.t - c.args.s))) } in
    on_one_clock p x c.args.place c.args.s c.args.t _
    (judges_on p x (SpanMost c.args.place c.args.s c.args.t ∷ []) (SpanLeast c.args.place c.args.s c.args.t ∷ []) c.judge-in-Obeys.result
    (rw c.in-Obeys.is at (c.judge.ensures.verdict p x most lawful (k, at, is_s, is_t, c.requires, refl) (omega (arith, ints, c.span_most.ensures.exact)) from to))
    (c.judge-in-Obeys.ensures.verdict p x least lawful (k, at, is_s, is_t, c.requires, refl) (omega (arith, ints, c.span_least.ensures.exact)) to from))

pub returns-in_default-clause-verdict : goal.returns-in_default-clause-verdict
returns-in_default-clause-verdict c = λ p x lawful at is_s is_t from to.
    let k = c.args.clock.now in
    let most : Constraint = record { from = nodes.Reading c.args.place c.args.s; to = nodes.Reading c.args.place c.args.t; weight = pos (most_of k.rate (c.args.t - c.args.s)) } in
    on_one_clock p x c.args.place c.args.s c.args.t _
    (judges_first p x (SpanMost c.args.place c.args.s c.args.t ∷ []) (SpanLeast c.args.place c.args.s c.args.t ∷ []) c.judge.result c.in_default.not-Obeys
    (c.judge.ensures.verdict p x most lawful (k, at, is_s, is_t, c.requires, refl) (omega (arith, ints, c.span_most.ensures.exact)) from to))
