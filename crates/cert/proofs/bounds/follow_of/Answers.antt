use Rattle.std.proofs.Common.{◌≡◌, sym}
use Rattle.problem_model.specs.declared.items.Bound.{Bound}
use Rattle.problem_model.specs.declared.items.Bound.TheVariants as bounds
use Rattle.cert.specs.CertificateFormat.{IsDeclared}
use Rattle.cert.specs.SaidStep.{FindsFollow, FindsNoFollow}
use Rattle.cert.proofs.CertGrowing.{clock_inside}
use Rattle.cert.proofs.Declaring.{follow_named, follow_not, follow_reads}
use Rattle.cert.proofs.Forms.{some_through, none_through, none_anyway}
use Rattle.cert.proofs.bounds.follow_of.Goals as goal

pub returns-in_err-s-clause-none : goal.returns-in_err-s-clause-none
returns-in_err-s-clause-none c =
    let none : FindsNoFollow c.args.p.now c.args.w.now = λ x y cs ct b named declared. c.in_err-s.ensures x cs (follow_reads c.args.p.now c.events.ensures.lawful c.args.w.now.earlier c.args.w.now.later x y b named declared).0 in
    none_anyway _ none

pub returns-in_err-t-clause-none : goal.returns-in_err-t-clause-none
returns-in_err-t-clause-none c =
    let none : FindsNoFollow c.args.p.now c.args.w.now = λ x y cs ct b named declared. c.in_err-t.ensures y ct (follow_reads c.args.p.now c.events.ensures.lawful c.args.w.now.earlier c.args.w.now.later x y b named declared).1 in
    none_anyway _ none

pub follow_between-requires-clause-earlier : goal.follow_between-requires-clause-earlier
follow_between-requires-clause-earlier c = clock_inside c.args.p.now.clocks c.in_ok-earlier.earlier c.args.w.now.earlier c.in_ok-earlier.ensures.some

pub follow_between-requires-clause-later : goal.follow_between-requires-clause-later
follow_between-requires-clause-later c = clock_inside c.args.p.now.clocks c.in_ok-later.later c.args.w.now.later c.in_ok-later.ensures.some

pub returns-clause-some : goal.returns-clause-some
returns-clause-some c =
    let p = c.args.p.now in
    let whole : (b : Bound) → (b ≡ bounds.Follow c.in_ok-earlier.earlier c.in_ok-s.s c.in_ok-later.later c.in_ok-t.t) × IsDeclared p b → FindsFollow p c.args.w.now b = λ b found x y cs ct. (
      follow_named p c.events.ensures.lawful c.args.w.now.earlier c.args.w.now.later c.in_ok-earlier.earlier c.in_ok-later.later x y c.in_ok-s.s c.in_ok-t.t b
          c.in_ok-earlier.ensures.some c.in_ok-later.ensures.some (sym (c.in_ok-s.ensures x cs).1) (sym (c.in_ok-t.ensures y ct).1) found.0,
      found.1,
    ) in
    some_through _ whole c.follow_between.ensures.some

pub returns-clause-none : goal.returns-clause-none
returns-clause-none c =
    let p = c.args.p.now in
    let whole : (IsDeclared p (bounds.Follow c.in_ok-earlier.earlier c.in_ok-s.s c.in_ok-later.later c.in_ok-t.t) → ⊥) → FindsNoFollow p c.args.w.now = λ none x y cs ct b named declared.
    follow_not p c.events.ensures.lawful c.args.w.now.earlier c.args.w.now.later c.in_ok-earlier.earlier c.in_ok-later.later x y c.in_ok-s.s c.in_ok-t.t b
    c.in_ok-earlier.ensures.some c.in_ok-later.ensures.some (sym (c.in_ok-s.ensures x cs).1) (sym (c.in_ok-t.ensures y ct).1) none named declared in
    none_through _ whole c.follow_between.ensures.none
