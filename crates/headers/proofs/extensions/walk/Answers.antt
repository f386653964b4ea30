use Rattle.std.proofs.Common.{◌≡◌, ◌∙◌, sym, suc, ◌-◌, Err, rules, arith}
use Rattle.headers.specs.Inside.{follows}
use Rattle.headers.proofs.Walking.{ends, on, refused, too_many}
use Rattle.headers.proofs.extensions.walk.Goals as goal

pub returns-then-left-eq0-clause-refused : goal.returns-then-left-eq0-clause-refused
returns-then-left-eq0-clause-refused c = c.loop-inner.invariant ∙ too_many c.loop-inner.left (follows c.loop-inner.inner) c.if-left-eq0.true (sym c.goes_on.ensures ∙ c.loop-inner-test.true)

pub returns-in_err-inner-clause-refused : goal.returns-in_err-inner-clause-refused
returns-in_err-inner-clause-refused c =
    let is : c.from_residual.result ≡ Err c.in_err-inner.field-0.0 = search rules in
    let less : c.loop-inner.left ≡ suc (c.loop-inner.left - 1) = omega (arith, c.if-left-eq0.false) in
    rw is (c.loop-inner.invariant ∙ refused c.loop-inner.left (c.loop-inner.left - 1) (follows c.loop-inner.inner) c.in_err-inner.field-0.0 less (sym c.goes_on.ensures ∙ c.loop-inner-test.true) c.in_err-inner.ensures.refused)

pub loop-inner-preserved : goal.loop-inner-preserved
loop-inner-preserved c =
    let less : c.loop-inner.left ≡ suc (c.loop-inner.left - 1) = omega (arith, c.if-left-eq0.false) in
    c.loop-inner.invariant ∙ on c.loop-inner.left (c.loop-inner.left - 1) (follows c.loop-inner.inner) (follows c.in_ok-inner.inner) less (sym c.goes_on.ensures ∙ c.loop-inner-test.true) c.in_ok-inner.ensures.lawful c.in_ok-inner.ensures.behind

pub returns-clause-found : goal.returns-clause-found
returns-clause-found c = c.loop-inner.invariant ∙ ends c.loop-inner.left (follows c.loop-inner.inner) (sym c.goes_on.ensures ∙ c.loop-inner-test.false)
