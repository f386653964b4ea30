use Rattle.std.proofs.Common.{sym, subst}
use Rattle.problem_model.specs.declared.items.Bound.{Bound}
use Rattle.cert.specs.CertificateFormat.{NamedBound}
use Rattle.cert.specs.CertificateFormat.NamedBound.{Stamp, Delay}
use Rattle.cert.specs.SaidStep.{FindsNamed, FindsNoNamed, FindsSpan, FindsNoSpan, FindsFollow, FindsNoFollow, FindsBound, FindsNone}
use Rattle.cert.specs.declared.steps.StepWords.TheVariants as steps
use Rattle.cert.proofs.Forms.{some_through, none_through}
use Rattle.cert.proofs.bounds.bound_of.Goals as goal

pub returns-in-Span-clause-some : goal.returns-in-Span-clause-some
returns-in-Span-clause-some c =
    let p = c.args.p.now in
    let whole : (b : Bound) → FindsSpan p c.in-Span.extreme c.in-Span.w b → FindsBound p (steps.Span c.in-Span.extreme c.in-Span.w) b =
    λ b found n z held. subst (λ (m : NamedBound). FindsNamed p m b) (sym held.5) (found held.0 held.1 held.2 held.3) in
    rw c.in-Span.is (some_through _ whole c.span_of.ensures.some)

pub returns-in-Span-clause-none : goal.returns-in-Span-clause-none
returns-in-Span-clause-none c =
    let p = c.args.p.now in
    let whole : FindsNoSpan p c.in-Span.extreme c.in-Span.w → FindsNone p (steps.Span c.in-Span.extreme c.in-Span.w) =
    λ none n z held. subst (FindsNoNamed p) (sym held.5) (none held.0 held.1 held.2 held.3) in
    rw c.in-Span.is (none_through _ whole c.span_of.ensures.none)

pub returns-in-Stamp-clause-none : goal.returns-in-Stamp-clause-none
returns-in-Stamp-clause-none c =
    let p = c.args.p.now in
    let whole : FindsNoNamed p (Stamp c.in-Stamp.kind c.in-Stamp.w.event) → FindsNone p (steps.Stamp c.in-Stamp.kind c.in-Stamp.w) =
    λ none n z held. subst (FindsNoNamed p) (sym held.1) none in
    rw c.in-Stamp.is (none_through _ whole c.stamp_of.ensures.none)

pub returns-in-Follow-clause-some : goal.returns-in-Follow-clause-some
returns-in-Follow-clause-some c =
    let p = c.args.p.now in
    let whole : (b : Bound) → FindsFollow p c.in-Follow.w b → FindsBound p (steps.Follow c.in-Follow.w) b =
    λ b found n z held. subst (λ (m : NamedBound). FindsNamed p m b) (sym held.5) (found held.0 held.1 held.2 held.3) in
    rw c.in-Follow.is (some_through _ whole c.follow_of.ensures.some)

pub returns-in-Follow-clause-none : goal.returns-in-Follow-clause-none
returns-in-Follow-clause-none c =
    let p = c.args.p.now in
    let whole : FindsNoFollow p c.in-Follow.w → FindsNone p (steps.Follow c.in-Follow.w) =
    λ none n z held. subst (FindsNoNamed p) (sym held.5) (none held.0 held.1 held.2 held.3) in
    rw c.in-Follow.is (none_through _ whole c.follow_of.ensures.none)

pub returns-in-Delay-clause-none : goal.returns-in-Delay-clause-none
returns-in-Delay-clause-none c =
    let p = c.args.p.now in
    let whole : FindsNoNamed p (Delay c.in-Delay.extreme c.in-Delay.w.send c.in-Delay.w.receive) → FindsNone p (steps.Delay c.in-Delay.extreme c.in-Delay.w) =
    λ none n z held. subst (FindsNoNamed p) (sym held.1) none in
    rw c.in-Delay.is (none_through _ whole c.delay_of.ensures.none)
