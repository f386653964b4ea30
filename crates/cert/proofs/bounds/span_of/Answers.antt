use Rattle.std.proofs.Common.{◌≡◌, sym}
use Rattle.problem_model.specs.declared.items.Bound.{Bound}
use Rattle.cert.specs.CertificateFormat.{IsDeclared, span_bound}
use Rattle.cert.specs.SaidStep.{FindsSpan, FindsNoSpan}
use Rattle.cert.proofs.CertGrowing.{clock_inside}
use Rattle.cert.proofs.Declaring.{span_named, span_not, span_reads}
use Rattle.cert.proofs.Forms.{some_through, none_through, none_anyway}
use Rattle.cert.proofs.bounds.span_of.Goals as goal

pub returns-in_err-s-clause-none : goal.returns-in_err-s-clause-none
returns-in_err-s-clause-none c =
    let none : FindsNoSpan c.args.p.now c.args.extreme c.args.w.now = λ x y cs ct b named declared. c.in_err-s.ensures x cs (span_reads c.args.p.now c.events.ensures.lawful c.args.extreme c.args.w.now.clock x y b named declared).0 in
    none_anyway _ none

pub returns-in_err-t-clause-none : goal.returns-in_err-t-clause-none
returns-in_err-t-clause-none c =
    let none : FindsNoSpan c.args.p.now c.args.extreme c.args.w.now = λ x y cs ct b named declared. c.in_err-t.ensures y ct (span_reads c.args.p.now c.events.ensures.lawful c.args.extreme c.args.w.now.clock x y b named declared).1 in
    none_anyway _ none

pub span_between-requires : goal.span_between-requires
span_between-requires c = clock_inside c.args.p.now.clocks c.in_ok-clock.clock c.args.w.now.clock c.in_ok-clock.ensures.some

pub returns-clause-some : goal.returns-clause-some
returns-clause-some c =
    let p = c.args.p.now in
    let whole : (b : Bound) → (b ≡ span_bound c.args.extreme c.in_ok-clock.clock c.in_ok-s.s c.in_ok-t.t) × IsDeclared p b → FindsSpan p c.args.extreme c.args.w.now b = λ b found x y cs ct. (
      span_named p c.events.ensures.lawful c.args.extreme c.args.w.now.clock c.in_ok-clock.clock x y c.in_ok-s.s c.in_ok-t.t b c.in_ok-clock.ensures.some (sym (c.in_ok-s.ensures x cs).1) (sym (c.in_ok-t.ensures y ct).1) found.0,
      found.1,
    ) in
    some_through _ whole c.span_between.ensures.some

pub returns-clause-none : goal.returns-clause-none
returns-clause-none c =
    let p = c.args.p.now in
    let whole : (IsDeclared p (span_bound c.args.extreme c.in_ok-clock.clock c.in_ok-s.s c.in_ok-t.t) → ⊥) → FindsNoSpan p c.args.extreme c.args.w.now = λ none x y cs ct b named declared.
    span_not p c.events.ensures.lawful c.args.extreme c.args.w.now.clock c.in_ok-clock.clock x y c.in_ok-s.s c.in_ok-t.t b c.in_ok-clock.ensures.some (sym (c.in_ok-s.ensures x cs).1) (sym (c.in_ok-t.ensures y ct).1) none named declared in
    none_through _ whole c.span_between.ensures.none
