use Rattle.std.proofs.Common.{◌∷◌, [], None, codes, refl}
use Rattle.line_format.proofs.Lacking.{lacks_test}
use Rattle.problem.specs.Listing.{all_readings}
use Rattle.cert.proofs.Certificates.{own_readings}
use Rattle.widen.specs.declared.widening.Widening.TheVariants.{Never}
use Rattle.widen.specs.WideningFormat.WideningSaid.{Said}
use Rattle.widen.proofs.Reading.{only_line, only_cycle, cycle_on, found_is}
use Rattle.widen.proofs.read.read_never.Goals as goal

pub behind-requires : goal.behind-requires
behind-requires c = lacks_test 10 (codes "cycle") refl

pub returns-in-Ok : goal.returns-in-Ok
returns-in-Ok c = λ what text b.
    let p = c.args.p.now in
    let r = all_readings p.events in
    (found_is p r (own_readings p c.readings.result.now c.readings.ensures) what (Never c.in-Ok.cycle) text).1 (c.in-Ok.ensures what None [] text (cycle_on p r text c.args.lines.now c.in-Some.rest.now what None [] 3 b c.in-Some.ensures.some tt))

pub returns-in-Err : goal.returns-in-Err
returns-in-Err c = λ what text b.
    let p = c.args.p.now in
    c.in-Err.ensures what None [] text (cycle_on p (all_readings p.events) text c.args.lines.now c.in-Some.rest.now what None [] 3 b c.in-Some.ensures.some tt)

pub returns-in-None : goal.returns-in-None
returns-in-None c = λ what text b.
    let p = c.args.p.now in
    let r = all_readings p.events in
    only_line p r text c.args.lines.now (Said what None [] None) 3 (codes "cycle" ∷ []) b (only_cycle p r what) c.in-None.ensures.none
