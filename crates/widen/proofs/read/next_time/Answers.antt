use Rattle.std.proofs.Common.{◌≡◌, ◌+◌, ℕ, Some, None, Ok, Err, length, sym, subst, arith}
use Rattle.line_format.specs.declared.fault.Taken.TheVariants as taken
use Rattle.problem.specs.Listing.{all_readings}
use Rattle.widen.specs.WideningFormat.WideningSaid.{Said}
use Rattle.widen.specs.ReadsLines.{IsBehind}
use Rattle.widen.proofs.Taking.{node_taken, node_line}
use Rattle.widen.proofs.Reading.{fault_refuses, cut_refuses, line_on}
use Rattle.widen.proofs.read.next_time.Goals as goal

pub returns-in-Ok-clause-read : goal.returns-in-Ok-clause-read
returns-in-Ok-clause-read c = λ what extra text b.
    let p = c.args.p.now in
    let r = all_readings p.events in
    let old = c.args.times.now in
    let new = c.take_value.new.values in
    let one = node_line p r old new c.in-Some.body.now _ c.requires.more c.in-Ok.ensures.takes in
    let on = line_on p r text c.args.lines.now c.in-Some.body.now c.in-Some.rest.now (Said what (Some extra) old None) (Said what (Some extra) new None) (length old + 3) b (sym c.in-Some.ensures) (node_taken p r what extra old new c.in-Some.body.now c.requires.more (Ok taken.Line) one) ((b.sound.0.0, c.in-Ok.ensures.sound), tt, b.sound.2) in
    let count = one.lines in
    subst (λ (n : ℕ). IsBehind p r text c.in-Some.rest.now (Said what (Some extra) new None) n) (let next : length old + 3 + 1 ≡ length new + 3 = omega (arith, count) in next) on

pub returns-in-Err-clause-read : goal.returns-in-Err-clause-read
returns-in-Err-clause-read c = λ what extra text b.
    let p = c.args.p.now in
    let r = all_readings p.events in
    let old = c.args.times.now in
    let new = c.take_value.new.values in
    rw (c.error_at.ensures, c.line_behind-line.ensures.is) (fault_refuses p r text c.args.lines.now c.in-Some.body.now c.in-Some.rest.now (Said what (Some extra) old None) (Said what (Some extra) new None) (length old + 3) c.in-Err.fault b (sym c.in-Some.ensures)
    (node_taken p r what extra old new c.in-Some.body.now c.requires.more (Err c.in-Err.fault) c.in-Err.ensures.takes))

pub returns-in-None-clause-read : goal.returns-in-None-clause-read
returns-in-None-clause-read c = λ what extra text b.
    let p = c.args.p.now in
    rw c.line_behind-line.ensures.is (cut_refuses p (all_readings p.events) text c.args.lines.now (Said what (Some extra) c.args.times.now None) (length c.args.times.now + 3) b (sym c.in-None.ensures))

pub returns-in-Ok-clause-one : goal.returns-in-Ok-clause-one
returns-in-Ok-clause-one c =
    let p = c.args.p.now in
    let one = node_line p (all_readings p.events) c.args.times.now c.take_value.new.values c.in-Some.body.now _ c.requires.more c.in-Ok.ensures.takes in
    let count = one.lines in
    omega (arith, count)
