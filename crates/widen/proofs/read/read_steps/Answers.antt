use Rattle.std.proofs.Common.{◌≡◌, ◌≢◌, ◌+◌, ℕ, [], Some, None, Ok, Err, length, sym, ap, subst, arith, rules}
use Rattle.std.proofs.lemmas.List.{nil_from_length}
use Rattle.line_format.specs.Cut.{cut}
use Rattle.line_format.specs.declared.fault.Taken.TheVariants as taken
use Rattle.line_format.proofs.Cutting.{cut_shorter}
use Rattle.line_format.proofs.Reading.{end_answers, more_answers}
use Rattle.problem.specs.Listing.{all_readings}
use Rattle.widen.specs.WideningFormat.{widening_format}
use Rattle.widen.specs.WideningFormat.WideningSaid.{Said}
use Rattle.widen.specs.ReadsLines.{IsBehind}
use Rattle.widen.proofs.Lines.{widening_lacks}
use Rattle.widen.proofs.Taking.{step_taken}
use Rattle.widen.proofs.Reading.{stands_of, fault_refuses, cut_refuses, line_on}
use Rattle.widen.proofs.read.read_steps.Goals as goal

pub loop-body-init : goal.loop-body-init
loop-body-init c = λ what extra values text b.
    rw c.new-cycle.ensures (record { is = b.is; number = let n = b.number in omega (arith, n); sound = b.sound; short = b.short })

pub returns-then-is_empty : goal.returns-then-is_empty
returns-then-is_empty c = λ what extra values text b.
    let p = c.args.p.now in
    let r = all_readings p.events in
    let none : c.in-Some.after.now ≡ [] = nil_from_length _ (grind (arith, c.is_empty.ensures, c.if-is_empty.true)) in
    end_answers (widening_format p r) widening_lacks _ _ _ _ _ _ _ (stands_of p r _ _ _ _ (c.loop-body.invariant what extra values text b)) (sym c.in-Some.ensures) (step_taken p r what extra values c.loop-body.cycle c.take_in_cycle.new.steps c.in-Some.body.now (Ok taken.End) (rw c.in-Ok-End.field-0-is at c.in-Ok-End.ensures.takes)) none

pub returns-in-Ok-End : goal.returns-in-Ok-End
returns-in-Ok-End c = λ what extra values text b.
    let p = c.args.p.now in
    let r = all_readings p.events in
    let some : c.in-Some.after.now ≢ [] = λ is. let none = ap length is in grind (arith, none, c.is_empty.ensures, c.if-is_empty.false) in
    rw c.line_of_step-line.ensures.is (more_answers (widening_format p r) widening_lacks _ _ _ _ _ _ _ (stands_of p r _ _ _ _ (c.loop-body.invariant what extra values text b)) (sym c.in-Some.ensures) (step_taken p r what extra values c.loop-body.cycle c.take_in_cycle.new.steps c.in-Some.body.now (Ok taken.End) (rw c.in-Ok-End.field-0-is at c.in-Ok-End.ensures.takes)) some)

pub returns-in-Err : goal.returns-in-Err
returns-in-Err c = λ what extra values text b.
    let p = c.args.p.now in
    let r = all_readings p.events in
    rw (c.error_at.ensures, c.line_of_step-line.ensures.is) (fault_refuses p r _ _ _ _ _ _ _ c.in-Err.fault (c.loop-body.invariant what extra values text b) (sym c.in-Some.ensures) (step_taken p r what extra values c.loop-body.cycle c.take_in_cycle.new.steps c.in-Some.body.now (Err c.in-Err.fault) c.in-Err.ensures.takes))

pub loop-body-smaller : goal.loop-body-smaller
loop-body-smaller c = cut_shorter _ _ _ _ (sym c.in-Some.ensures)

pub returns : goal.returns
returns c = λ what extra values text b.
    let p = c.args.p.now in
    let none : cut 10 c.loop-body.rest.now ≡ None = search rules in
    rw c.line_of_step.ensures.is (cut_refuses p (all_readings p.events) _ _ _ _ (c.loop-body.invariant what extra values text b) none)

pub loop-body-preserved : goal.loop-body-preserved
loop-body-preserved c = λ what extra values text b.
    let p = c.args.p.now in
    let r = all_readings p.events in
    let old = c.loop-body.cycle in
    let new = c.take_in_cycle.new.steps in
    let before = c.loop-body.invariant what extra values text b in
    let takes = step_taken p r what extra values old new c.in-Some.body.now (Ok taken.Line) (rw c.in-Ok-Line.field-0-is at c.in-Ok-Line.ensures.takes) in
    let count = takes.lines in
    let on = line_on p r text c.loop-body.rest.now c.in-Some.body.now c.in-Some.after.now (Said what extra values (Some old)) (Said what extra values (Some new)) _ before (sym c.in-Some.ensures) takes
    (before.sound.0, (before.sound.1.0, c.in-Ok-Line.ensures.sound before.sound.1.1), before.sound.2) in
    subst (λ (n : ℕ). IsBehind p r text c.in-Some.after.now (Said what extra values (Some new)) n) (let next : c.args.first + length old + 1 ≡ c.args.first + length new = omega (arith, count) in next) on
