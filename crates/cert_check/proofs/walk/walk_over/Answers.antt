use Rattle.std.proofs.Common.{◌≡◌, ◌<◌, ◌+◌, ◌∙◌, ℤ, List, length, take, slice_get, Some, refl, sym, ap, subst, arith, rules}
use Rattle.std.specs.Prelude.{◌+ℤ◌}
use Rattle.problem_model.specs.declared.items.Node.{Node}
use Rattle.cert.specs.declared.chain.Step.{Step}
use Rattle.cert.specs.Shows.{weighed_bounds}
use Rattle.cert_check.specs.Walks.{constraint, Goes}
use Rattle.cert_check.specs.Widened.{widened}
use Rattle.cert_check.proofs.Walking.{goes_on, sum_on, step_at, step_of, all_taken}
use Rattle.cert_check.proofs.walk.walk_over.Goals as goal

pub loop-k-init : goal.loop-k-init
loop-k-init c = (refl, refl, omega arith, omega arith)

pub declared_in-bound-requires : goal.declared_in-bound-requires
declared_in-bound-requires c =
    let inside : c.loop-k.k < length c.args.chain.now = omega (arith, c.loop-k-test.true, c.len-count.ensures.count) in
    step_of c.args.p.now c.steps-steps.result.now c.args.chain.now c.loop-k.k c.index-steps-k.result c.steps-steps.ensures inside c.index-steps-k.is c.requires

pub returns-then-ne-clause-walk : goal.returns-then-ne-clause-walk
returns-then-ne-clause-walk c =
    let p = widened c.args.what c.args.p.now c.args.extra in
    let k = c.loop-k.k in
    let chain : List Step = c.args.chain.now in
    let inside : k < length chain = omega (arith, c.loop-k-test.true, c.len-count.ensures.count) in
    let goes = subst (λ (l : List Step). Goes p c.args.part c.args.start.now (weighed_bounds (take k l)) c.loop-k.held.node) c.steps-steps.ensures c.loop-k.invariant.0 in
    let apart : c.entry.result ≡ c.loop-k.held.node → ⊥ = search rules in (
      k,
      c.loop-k.held.node,
      c.index-steps-k.result,
      constraint c.declared_in-bound.result,
      refl,
      goes,
      step_at c.steps-steps.result.now chain k c.index-steps-k.result c.steps-steps.ensures inside c.index-steps-k.is,
      c.declared_in-bound.ensures.declares,
      λ same. apart (c.entry.ensures ∙ same),
    )

pub returns-then-get-bound-clause-walk : goal.returns-then-get-bound-clause-walk
returns-then-get-bound-clause-walk c =
    let p = widened c.args.what c.args.p.now c.args.extra in
    let k = c.loop-k.k in
    let chain : List Step = c.args.chain.now in
    let inside : k < length chain = omega (arith, c.loop-k-test.true, c.len-count.ensures.count) in
    let goes = subst (λ (l : List Step). Goes p c.args.part c.args.start.now (weighed_bounds (take k l)) c.loop-k.held.node) c.steps-steps.ensures c.loop-k.invariant.0 in
    let joins : c.entry.result ≡ c.loop-k.held.node = search rules in
    let apart : c.get.result ≡ c.declared_in-bound.result.weight → ⊥ = search rules in (
      k,
      c.loop-k.held.node,
      c.index-steps-k.result,
      constraint c.declared_in-bound.result,
      refl,
      goes,
      step_at c.steps-steps.result.now chain k c.index-steps-k.result c.steps-steps.ensures inside c.index-steps-k.is,
      c.declared_in-bound.ensures.declares,
      sym c.entry.ensures ∙ joins,
      λ same. apart (c.get.ensures.value ∙ sym same),
    )

pub onward-held-requires-clause-small : goal.onward-held-requires-clause-small
onward-held-requires-clause-small c = c.loop-k.invariant.2

pub loop-k-preserved : goal.loop-k-preserved
loop-k-preserved c =
    let p = widened c.args.what c.args.p.now c.args.extra in
    let k = c.loop-k.k in
    let steps : List Step = c.steps-steps.result.now in
    let s : Step = c.index-steps-k.result in
    let long = ap length c.steps-steps.ensures in
    let inside : k < length steps = omega (arith, c.loop-k-test.true, c.len-count.ensures.count, long) in
    let at : slice_get steps k ≡ Some s = step_at steps steps k s refl inside c.index-steps-k.is in
    let joins : c.entry.result ≡ c.loop-k.held.node = search rules in
    let same : c.get.result ≡ c.declared_in-bound.result.weight = search rules in
    let weighs : c.declared_in-bound.result.weight ≡ s.weight = sym same ∙ c.get.ensures.value in
    let next : c.onward-held.result.sum ≡ c.loop-k.held.sum +ℤ s.weight = c.onward-held.ensures.sum ∙ ap (λ (w : ℤ). c.loop-k.held.sum +ℤ w) weighs in (
      subst (λ (n : Node). Goes p c.args.part c.args.start.now (weighed_bounds (take (k + 1) steps)) n) (sym c.onward-held.ensures.node)
          (goes_on p c.args.part c.args.start.now c.loop-k.held.node steps k s (constraint c.declared_in-bound.result) c.loop-k.invariant.0 at c.declared_in-bound.ensures.declares weighs (sym c.entry.ensures ∙ joins)),
      sum_on steps k s c.loop-k.held.sum c.onward-held.result.sum at c.loop-k.invariant.1 next,
      c.onward-held.ensures.small,
      omega (arith, c.loop-k-test.true),
    )

pub returns-clause-walk : goal.returns-clause-walk
returns-clause-walk c =
    let past = c.loop-k-test.false in
    all_taken (widened c.args.what c.args.p.now c.args.extra) c.args.part c.args.start.now c.loop-k.held.node c.steps-steps.result.now c.args.chain.now c.loop-k.k c.loop-k.held.sum c.steps-steps.ensures (omega (arith, past, c.len-count.ensures.count)) c.loop-k.invariant.0 c.loop-k.invariant.1

pub returns-clause-small : goal.returns-clause-small
returns-clause-small c = omega (arith, c.loop-k.invariant.2, c.loop-k.invariant.3, c.len-count.ensures.limit)
