use Rattle.std.proofs.Common.{◌≡◌, ◌<◌, ◌+◌, ◌∷◌, [], Some, None, length, codes, refl, sym, arith, rules}
use Rattle.line_format.proofs.Lacking.{lacks_test}
use Rattle.problem.specs.Listing.{all_readings}
use Rattle.cert.proofs.Certificates.{own_readings}
use Rattle.widen.specs.declared.widening.Widening.TheVariants.{Least}
use Rattle.widen.specs.WideningFormat.WideningSaid.{Said}
use Rattle.widen.proofs.Reading.{only_line, only_cycle_above, cycle_on, found_is, zero_on, zero_found}
use Rattle.widen.proofs.read.read_rest.Goals as goal

pub behind-requires : goal.behind-requires
behind-requires c = lacks_test 10 (codes "cycle") refl

pub returns-in-Ok : goal.returns-in-Ok
returns-in-Ok c = λ what text b whole.
    let p = c.args.p.now in
    let r = all_readings p.events in
    let zero : c.args.extra ≡ 0 = search rules in
    let line : length c.args.execution + 3 ≡ c.line_behind-line.result = sym c.line_behind-line.ensures.is in
    zero_found p r (own_readings p c.readings.result.now c.readings.ensures) text what c.args.extra c.args.execution zero (c.in-Ok.ensures p r what c.args.execution text (zero_on p r text c.args.lines.now what c.args.extra _ _ c.args.execution zero line b) whole)

pub returns-in-Err : goal.returns-in-Err
returns-in-Err c = λ what text b whole.
    let p = c.args.p.now in
    let r = all_readings p.events in
    let zero : c.args.extra ≡ 0 = search rules in
    let line : length c.args.execution + 3 ≡ c.line_behind-line.result = sym c.line_behind-line.ensures.is in
    c.in-Err.ensures p r what c.args.execution text (zero_on p r text c.args.lines.now what c.args.extra _ _ c.args.execution zero line b) whole

pub returns-in-Ok-read_steps : goal.returns-in-Ok-read_steps
returns-in-Ok-read_steps c = λ what text b whole.
    let p = c.args.p.now in
    let r = all_readings p.events in
    let above : 0 < c.args.extra = omega (arith, c.get.ensures.value) in
    let cycle = c.in-Ok-read_steps.cycle in
    (found_is p r (own_readings p c.readings.result.now c.readings.ensures) what (Least c.args.extra c.args.execution (Some cycle)) text).1
    (c.in-Ok-read_steps.ensures what (Some c.args.extra) c.args.execution text (rw c.line_behind-line.ensures.is (cycle_on p r text c.args.lines.now c.in-Some.rest.now what (Some c.args.extra) c.args.execution _ b c.in-Some.ensures.some (above, whole))))

pub returns-in-Err-read_steps : goal.returns-in-Err-read_steps
returns-in-Err-read_steps c = λ what text b whole.
    let p = c.args.p.now in
    let r = all_readings p.events in
    let above : 0 < c.args.extra = omega (arith, c.get.ensures.value) in
    c.in-Err-read_steps.ensures what (Some c.args.extra) c.args.execution text (rw c.line_behind-line.ensures.is (cycle_on p r text c.args.lines.now c.in-Some.rest.now what (Some c.args.extra) c.args.execution _ b c.in-Some.ensures.some (above, whole)))

pub returns-in-None : goal.returns-in-None
returns-in-None c = λ what text b whole.
    let p = c.args.p.now in
    let r = all_readings p.events in
    let above : 0 < c.args.extra = omega (arith, c.get.ensures.value) in
    rw c.line_behind-line.ensures.is (only_line p r text c.args.lines.now (Said what (Some c.args.extra) c.args.execution None) _ (codes "cycle" ∷ []) b (only_cycle_above p r what c.args.extra c.args.execution above whole) c.in-None.ensures.none)
